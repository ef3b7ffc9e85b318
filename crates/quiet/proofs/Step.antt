-- Two houses that are alike for k answer a request of a level that k dominates alike, and stay alike: each effect looks only at what is
-- alike.
-- Assumes nothing.
use Prim.Native.Nat.{ℕ, ◌≤◌, ◌<◌}
use mathlib.Core.Path.{◌≡◌, refl, sym, ap, ap₂, ◌∙◌}
use mathlib.Core.Logic.{◌≢◌, inl, inr}
use mathlib.Core.Bool.{Bool, true, false, not, cond}
use mathlib.Core.List.{List}
use lib.ListN.{length}
use lib.Dec.{ltb}
use Rattle.house.specs.declared.Answer.TheVariants.{Refused, Delayed, Ticket, Signals}
use Rattle.std.specs.Prelude.{Option, Some, None}
use Rattle.house.specs.declared.House.{House}
use Rattle.house.specs.declared.Mark.{Mark}
use Rattle.house.specs.declared.Mark.TheVariants.{Read, Write, Certify, Signalled}
use Rattle.house.specs.declared.Outcome.{Outcome}
use Rattle.house.specs.declared.Request.{Request}
use Rattle.house.specs.declared.Standing.TheVariants.{Active}
use Rattle.house.specs.Search.{if_found}
use Rattle.house.specs.Cell.{marked, cell_at, with_mark, holds, first_signalled, count_signalled}
use Rattle.house.specs.House.{fixed, dominates, level_of, item_at, pending_at, place_at, vacancy}
use Rattle.house.specs.Checks.{foremost}
use Rattle.house.specs.Rules.{begin, read, write, certify, commit, abort, ◌does◌, asker, uses_item, ticket_after, begun, read_by, read_answer, read_for, written_by, wrote, signalled_cell, signalled, converted_cell, certified_by, dropped_pending, cleared_cell, left, committed_item, committed_by, aborted_by, ask_answer, replied, served, performed, holder, refusals, named, stepped}
use Rattle.std.proofs.lemmas.Bool.{and_parts, or_left, or_right}
use Rattle.house.proofs.Tests.{same}
use Rattle.house.proofs.Searches.{scan_same}
use Rattle.house.proofs.Cells.{cell_here, cell_elsewhere}
use Rattle.house.proofs.Checks.{Clear, clear, item_there}
use Rattle.house.proofs.Steps.{refused_is, waits_is, free_is}
use Rattle.house.proofs.Places.{seek_at, vacancy_at}
use Rattle.house.proofs.Effects.{begun_place, begun_next, written_pending, signalled_long, signalled_cell_lem, certified_place, certified_cell, left_pending, left_place, left_cell, committed_item_lem, begun_place_other, begun_next_other, written_pending_other, certified_place_other, left_place_other, committed_fixed}
use Rattle.reach.specs.Kept.{Kept}
use Rattle.reach.proofs.Law.{Law, same_level}
use Rattle.reach.proofs.Kept.{kept_law}
use Rattle.quiet.specs.Alike.{Alike, AnsweredAlike}
use Rattle.quiet.proofs.Alike.{order_alike, rule_alike}
use Rattle.quiet.proofs.Numbers.{vacancy_alike, mark_alike, item_seen, asker_alike, refusals_alike, holder_alike, holder_seen}

-- two outcomes: the same reply, and houses that are alike
abbrev Answers : ℕ → Outcome → Outcome → Type 0
Answers k x y = (x.reply ≡ y.reply) × Alike k x.house y.house

choose : (k : ℕ) (b : Bool) (x x' y y' : Outcome) → (b ≡ true → Answers k x x') → (b ≡ false → Answers k y y') → Answers k (cond b x y) (cond b x' y')
choose k true x x' y y' f e = f refl
choose k false x x' y y' f e = e refl

if_found_lem : (k : ℕ) (who : Option ℕ) (x x' : ℕ → Outcome) (y y' : Outcome) → ((me : ℕ) → who ≡ Some me → Answers k (x me) (x' me)) → Answers k y y' → Answers k (if_found who x y) (if_found who x' y')
if_found_lem k (Some me) x x' y y' f e = f me refl
if_found_lem k None x x' y y' f e = e

module _ (k : ℕ) {h g : House} (L : Law h) (M : Law g) (A : Alike k h g) where
  -- one place changed, in the same way
  places_alike : (h' g' : House) (me : ℕ) → place_at h'.places me ≡ place_at g'.places me
      → ((p : ℕ) → p ≢ me → place_at h'.places p ≡ place_at h.places p)
      → ((p : ℕ) → p ≢ me → place_at g'.places p ≡ place_at g.places p)
      → (p : ℕ) → p < 32 → dominates h.order k (level_of p) ≡ true → place_at h'.places p ≡ place_at g'.places p
  places_alike h' g' me e x y p b d = elim (same p me) [ inl z ↦ rw z e | inr n ↦ x p n ∙ A.places p b d ∙ sym (y p n) ]

  -- Begin
  begin_alike : (l me : ℕ) → l < 4 → me < 32 → dominates h.order k l ≡ true → Alike k (begun h l me) (begun g l me)
  unfolding fixed begun
  begin_alike l me b m d =
      let t = A.tickets l b d in
      record {
        fixed = A.fixed;
        items = A.items;
        places = places_alike (begun h l me) (begun g l me) me (begun_place L.sizes l me m ∙ ap (λ n. record { standing = Active; ticket = n }) t ∙ sym (begun_place M.sizes l me m)) (begun_place_other h l me) (begun_place_other g l me);
        tickets = λ j c x.
            elim (same j l) [
              | inl e ↦ rw e (begun_next L.sizes l me b ∙ ap ticket_after t ∙ sym (begun_next M.sizes l me b))
              | inr n ↦ begun_next_other h l me j n ∙ A.tickets j c x ∙ sym (begun_next_other g l me j n)
            ];
        cells = A.cells;
      }

  -- a change by a transaction of a level that k dominates
  module _ (me : ℕ) (m : me < 32) (d : dominates h.order k (level_of me) ≡ true) where
    mine : (n : Mark) (i : ℕ) → i < 64 → holds h.cells n me i ≡ holds g.cells n me i
    mine = mark_alike k A me m d

    -- one of its cells marked
    cells_alike : (n : Mark) (i : ℕ) → i < 64 → (p j : ℕ) → p < 32 → j < 64 → dominates h.order k (level_of p) ≡ true → cell_at (with_mark n h.cells me i) p j ≡ cell_at (with_mark n g.cells me i) p j
    cells_alike n i a p j b c x =
        elim (same p me) [
          | inl e ↦ elim (same j i) [
            | inl f ↦ rw (e, f) (cell_here h.cells L.sizes.cells n me i m a ∙ ap (marked n) (A.cells me i m a d) ∙ sym (cell_here g.cells M.sizes.cells n me i m a))
            | inr f ↦ elsewhere (λ z. f)
          ]
          | inr e ↦ elsewhere (λ z. absurd (e z))
        ]
      where
        elsewhere : (p ≡ me → j ≢ i) → cell_at (with_mark n h.cells me i) p j ≡ cell_at (with_mark n g.cells me i) p j
        elsewhere f = cell_elsewhere n h.cells me i p j a c f ∙ A.cells p j b c x ∙ sym (cell_elsewhere n g.cells me i p j a c f)

    read_alike : (i : ℕ) → i < 64 → Alike k (read_by h me i) (read_by g me i)
    unfolding fixed read_by
    read_alike i a =
        record {
          fixed = A.fixed;
          items = A.items;
          places = A.places;
          tickets = A.tickets;
          cells = cells_alike Read i a;
        }

    write_alike : (i v : ℕ) → i < 64 → Alike k (written_by h me i v) (written_by g me i v)
    unfolding fixed written_by
    write_alike i v a =
        record {
          fixed = A.fixed;
          items = λ j c x. let y = A.items j c x in (
            y.0,
            elim (same j i) [
              | inl e ↦ rw e (written_pending L.sizes me i v a ∙ sym (written_pending M.sizes me i v a))
              | inr n ↦ written_pending_other h me i v j n ∙ y.1 ∙ sym (written_pending_other g me i v j n)
            ],
          );
          places = A.places;
          tickets = A.tickets;
          cells = cells_alike Write i a;
        }

    -- what it wrote, it wrote in both, so its signals are alike
    signal_alike : (n p i : ℕ) → p < 32 → i < 64 → dominates h.order k (level_of p) ≡ true → cell_at (signalled n h me) p i ≡ cell_at (signalled n g me) p i
    unfolding signalled_cell wrote
    signal_alike n p i b a x = signalled_cell_lem L.sizes n me p i b a ∙ rw (A.cells p i b a x, mine Write i a, mine Certify i a, order_alike A, rule_alike A) (sym (signalled_cell_lem M.sizes n me p i b a))

    certify_alike : Alike k (certified_by h me) (certified_by g me)
    unfolding fixed certified_by
    certify_alike =
        record {
          fixed = A.fixed;
          items = A.items;
          places = places_alike (certified_by h me) (certified_by g me) me (certified_place L.sizes me m ∙ rw (A.places me m d) (sym (certified_place M.sizes me m))) (certified_place_other h me) (certified_place_other g me);
          tickets = A.tickets;
          cells = λ p i b a x. certified_cell L.sizes me p i b a ∙ ap (converted_cell me p i) (signal_alike certify p i b a x) ∙ sym (certified_cell M.sizes me p i b a);
        }

    -- the place is left, with cells that are alike
    module _ (x y : List ℕ) (long : length x ≡ 2048) (long' : length y ≡ 2048) (seen : (p i : ℕ) → p < 32 → i < 64 → dominates h.order k (level_of p) ≡ true → cell_at x p i ≡ cell_at y p i) where
      dropped_alike : (i : ℕ) → i < 64 → pending_at h.pending i ≡ pending_at g.pending i → pending_at (left x h me).pending i ≡ pending_at (left y g me).pending i
      unfolding dropped_pending wrote
      dropped_alike i a e = left_pending L.sizes x me i a ∙ rw (mine Write i a, mine Certify i a, e) (sym (left_pending M.sizes y me i a))

      left_alike : Alike k (left x h me) (left y g me)
      unfolding fixed left
      left_alike =
          record {
            fixed = A.fixed;
            items = λ i a s. let e = A.items i a s in (e.0, dropped_alike i a e.1);
            places = places_alike (left x h me) (left y g me) me (left_place L.sizes x me m ∙ sym (left_place M.sizes y me m)) (left_place_other h x me) (left_place_other g y me);
            tickets = A.tickets;
            cells = λ p i b a s. left_cell L.sizes x me long p i b a ∙ ap (cleared_cell me p i) (seen p i b a s) ∙ sym (left_cell M.sizes y me long' p i b a);
          }

    abort_alike : Alike k (aborted_by h me) (aborted_by g me)
    abort_alike = left_alike h.cells g.cells L.sizes.cells M.sizes.cells A.cells

    -- a commit is an abort, but for the signals and the rows that it holds certify on
    commit_alike : Alike k (committed_by h me) (committed_by g me)
    unfolding committed_item left
    commit_alike =
        let x = signalled commit h me in
        let y = signalled commit g me in
        let B = left_alike x y (signalled_long L.sizes commit me) (signalled_long M.sizes commit me) (signal_alike commit) in
        record {
          fixed = committed_fixed h me ∙ A.fixed ∙ sym (committed_fixed g me);
          items = λ i a s. let low = rw (same_level (committed_by h me) h (committed_fixed h me) i) at s in let e = A.items i a low in (
            committed_item_lem L.sizes me i a ∙ rw (mine Certify i a, e.0, e.1) (sym (committed_item_lem M.sizes me i a)),
            (B.items i a low).1,
          );
          places = B.places;
          tickets = B.tickets;
          cells = B.cells;
        }

    -- what a read and an ask are answered
    pair_alike : (i : ℕ) → i < 64 → dominates h.order k (item_at h.items i).level ≡ true → read_for h me i ≡ read_for g me i
    unfolding read_answer
    pair_alike i a low = let y = A.items i a low in rw (mine Write i a, y.0, y.1)

    signals_alike : ask_answer h.cells me ≡ ask_answer g.cells me
    unfolding ask_answer first_signalled count_signalled
    signals_alike = ap₂ (λ first count. Signals (if_found first (λ i. i) 0) count) (scan_same _ _ _ _ 0 64 marks) (scan_same _ _ _ _ 0 64 marks)
      where
        marks : (i : ℕ) → 0 ≤ i → i < 64 → holds h.cells Signalled me i ≡ holds g.cells Signalled me i
        marks i x y = mine Signalled i y

  -- a request that no refusal meets
  module _ (four : k < 4) (K : Kept h) (J : Kept g) (q : Request) (d : dominates h.order k q.level ≡ true) (c : Clear h q) where
    served_alike : (me : ℕ) → me < 32 → dominates h.order k (level_of me) ≡ true → Answers k (served h q me) (served g q me)
    unfolding served
    served_alike me m low =
        choose k (q does read) _ _ _ _ (λ r. let u = or_left (q does read) (q does write) r in (ap (replied q) (pair_alike me m low q.item (row u) (item_seen k A four K q d u c.allowed)), read_alike me m low q.item (row u)))
        (λ n1. choose k (q does write) _ _ _ _ (λ w. (refl, write_alike me m low q.item q.value (row (or_right (q does read) (q does write) w))))
        (λ n2. choose k (q does certify) _ _ _ _ (λ e. (refl, certify_alike me m low))
        (λ n3. choose k (q does commit) _ _ _ _ (λ e. (refl, commit_alike me m low))
        (λ n4. choose k (q does abort) _ _ _ _ (λ e. (refl, abort_alike me m low))
        (λ n5. (ap (replied q) (signals_alike me m low), A))))))
      where
        row : uses_item q ≡ true → q.item < 64
        row u = (item_there h q u c.present).1

    performed_alike : Answers k (performed h q) (performed g q)
    unfolding performed
    performed_alike =
        let b = c.level in
        rw (← vacancy_alike k A q.level b d, ← asker_alike k A four K q d b)
        (choose k (q does begin) _ _ _ _
        (λ e. if_found_lem k (vacancy h.places q.level) _ _ _ _ (λ me f. let w = (vacancy_at h.places q.level me b f).within in (ap (λ t. replied q (Ticket t)) (A.tickets q.level b d), begin_alike q.level me b w.place d)) (refl, A))
        (λ e. if_found_lem k (asker h q) _ _ _ _ (λ me f. let w = (seek_at h.places q.level q.ticket me b f).within in served_alike me w.place (rw w.level d)) (refl, A)))

    -- whoever holds what is asked for is at a level that k dominates, so it has one name
    named_alike : (p : ℕ) → holder h q ≡ Some p → named h p ≡ named g p
    named_alike p e = let s = holder_seen k A four K J q d c p e in ap (λ x. Delayed x.ticket (level_of p)) (A.places p s.0 s.1)

    free_alike : foremost (refusals h q) ≡ 0 → foremost (refusals g q) ≡ 0 → (who : Option ℕ) → holder h q ≡ who → Answers k (stepped h q) (stepped g q)
    free_alike z z' (Some p) e = rw (waits_is h q p z e, waits_is g q p z' (sym (holder_alike k A four K J q d c) ∙ e)) (ap (replied q) (named_alike p e), A)
    free_alike z z' None e = rw (free_is h q z e, free_is g q z' (sym (holder_alike k A four K J q d c) ∙ e)) performed_alike

pub answered_alike : AnsweredAlike
answered_alike k four h g K J A q s =
    let d = (and_parts (not (ltb 3 q.level)) _ s).1 in
    let r = refusals_alike k A four K q d in
    elim (same (foremost (refusals h q)) 0) [
      | inl z ↦ free_alike k (kept_law K) (kept_law J) A four K J q d (clear h q z) z (sym r ∙ z) (holder h q) refl
      | inr n ↦ rw (refused_is h q n, refused_is g q (λ e. n (r ∙ e))) (ap (λ m. replied q (Refused m)) r, A)
    ]
