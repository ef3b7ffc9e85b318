-- Every request keeps a house `Kept`: the law, and beside it what the operations keep tidy (blank rows, pending values, tickets).
-- Assumes nothing.
use Prim.Native.Nat.{ℕ, ◌≤◌, ◌<◌}
use native.Mathlib.Omega.{arith}
use mathlib.Core.Path.{◌≡◌, refl, sym, ◌∙◌}
use mathlib.Core.Logic.{◌≢◌, ◌⊎◌, inl, inr}
use mathlib.Core.Bool.{true, false}
use mathlib.Core.List.{List, [], ◌∷◌}
use lib.ListN.{length}
use lib.Dec.{ltb}
use borrow.Author.Tests.{ltb-true}
use Rattle.house.specs.declared.House.{House}
use Rattle.house.specs.declared.Mark.TheVariants.{Write, Certify}
use Rattle.house.specs.declared.Outcome.{Outcome}
use Rattle.house.specs.declared.Request.{Request}
use Rattle.house.specs.Cell.{cell_at, holds}
use Rattle.house.specs.House.{blank, item_at, pending_at, place_at, next_at, is_free}
use Rattle.house.specs.Order.{PartialOrder}
use Rattle.house.specs.Rules.{commit, ticket_after, begun, read_by, written_by, wrote, signalled, certified_by, left, committed_by, aborted_by, stepped}
use Rattle.house.specs.Run.{finally}
use Rattle.std.proofs.lemmas.Bool.{cases_Bool}
use Rattle.house.proofs.Tests.{same, clash}
use Rattle.house.proofs.Effects.{begun_place, begun_next, signalled_long, certified_place, left_place, begun_next_other, read_cell_other, written_cell_other, written_pending, written_pending_other}
use Rattle.reach.specs.Kept.{Open, Kept, StepKeeps}
use Rattle.reach.proofs.Law.{held, Law, Frame, Own, clear_has, clear_held, same_count, same_order, same_level, held_kept, lawful}
use Rattle.reach.proofs.Turns.{MayBegin, MayRead, MayWrite, MayCertify, Turn, refused, waits, begins, reads, writes, certifies, commits, aborts, asks, turn}
use Rattle.reach.proofs.Changes.{begin_clear, begin_frame, begin_own, read_held, read_frame, read_own, write_held, write_holds, write_frame, write_own, certify_converts, certify_held, certify_frame, certify_own, freed, left_mine, left_dropped, left_stays, committed_row, abort_frame, commit_frame, abort_own, commit_own}

-- what `Kept` has beside the law
pub record Tidy (h : House) : Type 0 where
  pub order : PartialOrder h.order
  pub count : h.count ≤ 64
  pub levels : (i : ℕ) → i < 64 → (item_at h.items i).level < 4
  pub rows : (i : ℕ) → i < 64 → h.count ≤ i → item_at h.items i ≡ blank
  pub pending : (i : ℕ) → i < 64 → ((p : ℕ) → p < 32 → held (cell_at h.cells p i) ≡ false) → pending_at h.pending i ≡ 0
  pub drawn : (p i : ℕ) → p < 32 → i < 64 → held (cell_at h.cells p i) ≡ true → pending_at h.pending i ≢ 0
  pub ticketless : (p : ℕ) → p < 32 → is_free (place_at h.places p).standing ≡ true → (place_at h.places p).ticket ≡ 0
  pub named : (p : ℕ) → p < 32 → Open h p → (place_at h.places p).ticket ≢ 0
  pub next : (l : ℕ) → l < 4 → next_at h.next l ≤ 4294967295
  pub inside : (p i : ℕ) → p < 32 → i < 64 → h.count ≤ i → cell_at h.cells p i ≡ 0

pub kept : {h : House} → Law h → Tidy h → Kept h
unfolding holds wrote held
kept L T =
    record {
      sizes = L.sizes;
      order = T.order;
      count = T.count;
      levels = T.levels;
      rows = λ i a c. (T.rows i a c, T.pending i a (λ p b. clear_held _ (T.inside p i b a c)));
      pending = T.pending;
      drawn = T.drawn;
      ticketless = T.ticketless;
      named = T.named;
      apart = L.apart;
      issued = L.issued;
      next = T.next;
      idle = λ p i b a. (L.cells p i b a).idle;
      inside = T.inside;
      below = λ p i b a. (L.cells p i b a).below;
      owned = λ p i b a. (L.cells p i b a).owned;
      sole = L.sole;
      writing = λ p i b a. (L.cells p i b a).writing;
      certifying = λ p i b a. (L.cells p i b a).certifying;
      higher = λ p r i b c a n x y. (L.warned p r i b c a n x y).higher;
      warned = λ e p r i b c a n x y. (L.warned p r i b c a n x y).signal e;
      heard = λ p i b a. (L.cells p i b a).heard;
      room = λ p i b a. (L.cells p i b a).room;
    }

pub kept_law : {h : House} → Kept h → Law h
unfolding holds wrote held
kept_law K =
    record {
      sizes = K.sizes;
      cells = λ p i b a.
          record {
            idle = K.idle p i b a;
            writing = K.writing p i b a;
            certifying = K.certifying p i b a;
            below = K.below p i b a;
            heard = K.heard p i b a;
            owned = K.owned p i b a;
            room = K.room p i b a;
          };
      sole = K.sole;
      warned = λ p r i b c a n x y. record { higher = K.higher p r i b c a n x y; signal = λ e. K.warned e p r i b c a n x y };
      apart = K.apart;
      issued = K.issued;
    }

kept_tidy : {h : House} → Kept h → Tidy h
unfolding holds wrote held
kept_tidy K =
    record {
      order = K.order;
      count = K.count;
      levels = K.levels;
      rows = λ i a c. (K.rows i a c).0;
      pending = K.pending;
      drawn = K.drawn;
      ticketless = K.ticketless;
      named = K.named;
      next = K.next;
      inside = K.inside;
    }

-- A change by `me`, as far as tidiness goes

record Neat (h h' : House) (me : ℕ) : Type 0 where
  rows : (i : ℕ) → i < 64 → h.count ≤ i → item_at h'.items i ≡ item_at h.items i
  -- what I do not hold afterwards has no pending value, or I did not hold it before either and its pending value stays
  pending : (i : ℕ) → i < 64 → held (cell_at h'.cells me i) ≡ false → (pending_at h'.pending i ≡ 0) ⊎ ((held (cell_at h.cells me i) ≡ false) × (pending_at h'.pending i ≡ pending_at h.pending i))
  -- what I hold afterwards has one
  drawn : (i : ℕ) → i < 64 → held (cell_at h'.cells me i) ≡ true → pending_at h'.pending i ≢ 0
  ticketless : is_free (place_at h'.places me).standing ≡ true → (place_at h'.places me).ticket ≡ 0
  named : Open h' me → (place_at h'.places me).ticket ≢ 0
  next : (l : ℕ) → l < 4 → next_at h'.next l ≤ 4294967295
  inside : (i : ℕ) → i < 64 → h.count ≤ i → cell_at h'.cells me i ≡ 0

tidied : {h h' : House} {me : ℕ} → Law h → Frame h h' me → me < 32 → Tidy h → Neat h h' me → Tidy h'
tidied {h} {h'} {me} L F m T N =
    record {
      order = rw (same_order h' h F.fixed) T.order;
      count = rw (same_count h' h F.fixed) T.count;
      levels = λ i a. rw (same_level h' h F.fixed i) (T.levels i a);
      rows = λ i a c. let c' : h.count ≤ i = rw (same_count h' h F.fixed) at c in N.rows i a c' ∙ T.rows i a c';
      pending = λ i a none.
          elim (N.pending i a (none me m)) [
            | inl z ↦ z
            | inr k ↦ k.1 ∙ T.pending i a (λ p b. elim (same p me) [ inl e ↦ rw e k.0 | inr n ↦ sym (held_kept L F p i b a n) ∙ none p b ])
          ];
      drawn = λ p i b a w.
          elim (same p me) [
            | inl e ↦ N.drawn i a (rw e at w)
            | inr n ↦ let w' = sym (held_kept L F p i b a n) ∙ w in rw (F.item p i b a n w').1 (T.drawn p i b a w')
          ];
      ticketless = λ p b f. elim (same p me) [ inl e ↦ rw e (N.ticketless (rw e at f)) | inr n ↦ rw (F.place p b n) (T.ticketless p b (rw (F.place p b n) at f)) ];
      named = λ p b o. elim (same p me) [ inl e ↦ rw e (N.named (rw e at o)) | inr n ↦ rw (F.place p b n) (T.named p b (rw (F.place p b n) at o)) ];
      next = N.next;
      inside = λ p i b a c.
          let c' : h.count ≤ i = rw (same_count h' h F.fixed) at c in
          elim (same p me) [ inl e ↦ rw e (N.inside i a c') | inr n ↦ (F.cell p i b a n).clear (T.inside p i b a c') ];
    }

-- Begin
module _ {h : House} {l me : ℕ} (L : Law h) (T : Tidy h) (K : MayBegin h l me) where
  after_small : (t : ℕ) → ticket_after t ≤ 4294967295
  unfolding ticket_after
  after_small t = elim (cases_Bool (ltb t 4294967295)) [ inl e ↦ rw e (omega (arith, ltb-true t 4294967295 e)) | inr e ↦ rw e (omega arith) ]

  begin_neat : Neat h (begun h l me) me
  unfolding begun
  begin_neat =
      let here = begun_place L.sizes l me K.place in
      record {
        rows = λ i a c. refl;
        pending = λ i a g. inr (g, refl);
        drawn = λ i a w. clash w (clear_held _ (begin_clear L K i a));
        ticketless = λ f. clash f (rw here);
        named = λ o. rw here K.ticket;
        next = λ k b. elim (same k l) [ inl e ↦ rw (e, begun_next L.sizes l me K.level) (after_small _) | inr n ↦ rw (begun_next_other h l me k n) (T.next k b) ];
        inside = λ i a c. begin_clear L K i a;
      }

-- Read
module _ {h : House} {me i : ℕ} (L : Law h) (T : Tidy h) (K : MayRead h me i) where
  read_neat : Neat h (read_by h me i) me
  unfolding read_by
  read_neat =
      record {
        rows = λ j a c. refl;
        pending = λ j a g. inr (sym (read_held L K j a) ∙ g, refl);
        drawn = λ j a w. T.drawn me j K.place a (sym (read_held L K j a) ∙ w);
        ticketless = T.ticketless me K.place;
        named = T.named me K.place;
        next = T.next;
        inside = λ j a c. read_cell_other h me i me j K.row a (λ e d. let x = K.item in omega arith) ∙ T.inside me j K.place a c;
      }

-- Write
module _ {h : House} {me i v : ℕ} (L : Law h) (T : Tidy h) (K : MayWrite h me i v) where
  write_neat : Neat h (written_by h me i v) me
  unfolding written_by
  write_neat =
      record {
        rows = λ j a c. refl;
        pending = λ j a g.
            elim (same j i) [
              | inl e ↦ clash (write_holds L K) (rw e at g)
              | inr n ↦ inr (sym (write_held L K j a n) ∙ g, written_pending_other h me i v j n)
            ];
        drawn = λ j a w.
            elim (same j i) [
              | inl e ↦ rw (e, written_pending L.sizes me i v K.row) K.drawn
              | inr n ↦ rw (written_pending_other h me i v j n) (T.drawn me j K.place a (sym (write_held L K j a n) ∙ w))
            ];
        ticketless = T.ticketless me K.place;
        named = T.named me K.place;
        next = T.next;
        inside = λ j a c. written_cell_other h me i v me j K.row a (λ e d. let x = K.item in omega arith) ∙ T.inside me j K.place a c;
      }

-- Certify
module _ {h : House} {me : ℕ} (L : Law h) (T : Tidy h) (K : MayCertify h me) where
  certify_neat : Neat h (certified_by h me) me
  unfolding certified_by
  certify_neat =
      let m = K.place in
      let here = certified_place L.sizes me m in
      record {
        rows = λ i a c. refl;
        pending = λ i a g. inr (sym (certify_held L K i a) ∙ g, refl);
        drawn = λ i a w. T.drawn me i m a (sym (certify_held L K i a) ∙ w);
        ticketless = λ f. clash f (rw here);
        named = λ o. rw here (T.named me m (rw K.active));
        next = T.next;
        inside = λ i a c.
            let z = T.inside me i m a c in
            certify_converts L.sizes me i m a ∙ rw (clear_has Write _ z) z;
      }

-- Commit and abort
module _ {h : House} {me : ℕ} (L : Law h) (T : Tidy h) (m : me < 32) where
  left_neat : (cells : List ℕ) → length cells ≡ 2048 → Neat h (left cells h me) me
  unfolding left
  left_neat cells long =
      let z = L.sizes in
      record {
        rows = λ i a c. refl;
        pending = λ i a g. elim (cases_Bool (held (cell_at h.cells me i))) [ inl y ↦ inl (left_dropped z cells me i a y) | inr y ↦ inr (y, left_stays z cells me i a y) ];
        drawn = λ i a w. clash w (clear_held _ (left_mine z cells me long i m a));
        ticketless = λ e. rw (left_place z cells me m);
        named = λ o. clash (freed z cells me m) o;
        next = T.next;
        inside = λ i a c. left_mine z cells me long i m a;
      }

  abort_neat : Neat h (aborted_by h me) me
  abort_neat = left_neat h.cells L.sizes.cells

  commit_neat : Neat h (committed_by h me) me
  commit_neat =
      let N = left_neat (signalled commit h me) (signalled_long L.sizes commit me) in
      record {
        rows = λ i a c. committed_row L m i a (clear_has Certify _ (T.inside me i m a c));
        pending = N.pending;
        drawn = N.drawn;
        ticketless = N.ticketless;
        named = N.named;
        next = N.next;
        inside = N.inside;
      }

-- A house after a request

Both : House → Type 0
Both h = Law h × Tidy h

changed : {h h' : House} {me : ℕ} → Both h → me < 32 → Frame h h' me → Own h h' me → Neat h h' me → Both h'
unfolding Both
changed B m F O N = (lawful B.0 F m O, tidied B.0 F m B.1 N)

turn_both : {h : House} {q : Request} {o : Outcome} → Both h → Turn h q o → Both o.house
unfolding Both
turn_both B (refused n) = B
turn_both B (waits p z e) = B
turn_both B (begins me o K) = changed B K.place (begin_frame B.0 K) (begin_own B.0 K) (begin_neat B.0 B.1 K)
turn_both B (reads me o A K) = changed B K.place (read_frame B.0 K) (read_own B.0 K) (read_neat B.0 B.1 K)
turn_both B (writes me o A K) = changed B K.place (write_frame B.0 K) (write_own B.0 K) (write_neat B.0 B.1 K)
turn_both B (certifies me o A K) = changed B K.place (certify_frame B.0 K) (certify_own B.0 K) (certify_neat B.0 B.1 K)
turn_both B (commits me o A K) = let m = K.place in changed B m (commit_frame B.0 m) (commit_own B.0 m) (commit_neat B.0 B.1 m)
turn_both B (aborts me o A) = let m = A.seated.within.place in changed B m (abort_frame B.0 m) (abort_own B.0 m) (abort_neat B.0 B.1 m)
turn_both B (asks me o A) = B

pub step_keeps : StepKeeps
unfolding Both
step_keeps h K q = let b = turn_both (kept_law K, kept_tidy K) (turn h q) in kept b.0 b.1

-- and after all requests
pub finally_keeps : {h : House} → Kept h → (qs : List Request) → Kept (finally h qs)
unfolding finally
finally_keeps K [] = K
finally_keeps {h = h} K (q ∷ qs) = finally_keeps {h = (stepped h q).house} (step_keeps h K q) qs
