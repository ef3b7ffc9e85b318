-- What a request can do, as cases: it is refused, or it waits, or it is done by the transaction at some place, of which the
-- checks have left certain facts. Theorems about a step go by these cases and do not look at checks or at searches again.
-- Assumes nothing.
use Prim.Native.Nat.{ℕ, ◌<◌}
use native.Mathlib.Omega.{arith}
use mathlib.Core.Path.{◌≡◌, refl, sym, ◌∙◌}
use mathlib.Core.Logic.{◌≢◌, inl, inr}
use mathlib.Core.Bool.{true, false}
use lib.Dec.{eqb}
use borrow.Author.Tests.{eqb-true, eqb-false, eq-eqb, ne_eqb, leb-false}
use Rattle.house.specs.declared.Answer.TheVariants.{Refused, Done, Ticket}
use Rattle.std.specs.Prelude.{Option, Some, None}
use Rattle.house.specs.declared.House.{House}
use Rattle.house.specs.declared.Mark.TheVariants.{Read, Write, Certify}
use Rattle.house.specs.declared.Outcome.{Outcome}
use Rattle.house.specs.declared.Request.{Request}
use Rattle.house.specs.declared.Standing.TheVariants.{Active, Certified}
use Rattle.house.specs.Cell.{has, cell_at, holds, another_holds, is_signalled}
use Rattle.house.specs.House.{dominates, level_of, item_at, place_at, next_at, is_free, is_certified, vacancy}
use Rattle.house.specs.Checks.{foremost}
use Rattle.house.specs.Rules.{begin, asker, uses_item, forbidden, blank_sheet, stopped, untimely, worn_out, crowded, ticketless, another_claims, peer_reads, hinders, wants, conflict, holder, refusals, begun, read_by, read_for, written_by, certified_by, committed_by, aborted_by, ask_answer, outcome, served, performed, named, stepped}
use Rattle.house.proofs.Operations.{is_begin, is_read, is_write, is_certify, is_commit, is_abort, is_ask, not_begin}
use Rattle.std.proofs.lemmas.Bool.{or_parts, not-false}
use Rattle.house.proofs.Tests.{same, and_right_false}
use Rattle.house.proofs.Holders.{another_not, conflict_none}
use Rattle.house.proofs.Places.{Seated, seek_at, vacancy_at, is_active_lem, is_certified_lem}
use Rattle.house.proofs.Checks.{Clear, clear, item_there, somebody, asker_known}
use Rattle.house.proofs.Steps.{refused_is, waits_is, free_is}
use Rattle.reach.proofs.Law.{held}

-- Begin, at the free place `me` of level l
pub record MayBegin (h : House) (l me : ℕ) : Type 0 where
  pub level : l < 4
  pub place : me < 32
  pub placed : level_of me ≡ l
  pub empty : is_free (place_at h.places me).standing ≡ true
  pub ticket : next_at h.next l ≢ 0

-- Read, of item i by the transaction at `me`
pub record MayRead (h : House) (me i : ℕ) : Type 0 where
  pub place : me < 32
  pub row : i < 64
  pub item : i < h.count
  pub active : (place_at h.places me).standing ≡ Active
  pub may : dominates h.order (level_of me) (item_at h.items i).level ≡ true
  pub uncontested : (p : ℕ) → p < 32 → p ≢ me → has Certify (cell_at h.cells p i) ≡ false

-- Write, of v to item i
pub record MayWrite (h : House) (me i v : ℕ) : Type 0 where
  pub place : me < 32
  pub row : i < 64
  pub item : i < h.count
  pub active : (place_at h.places me).standing ≡ Active
  pub mine : (item_at h.items i).level ≡ level_of me
  pub drawn : v ≢ 0
  pub room : (item_at h.items i).version < 4294967295
  pub uncontested : (p : ℕ) → p < 32 → p ≢ me → held (cell_at h.cells p i) ≡ false

pub record MayCertify (h : House) (me : ℕ) : Type 0 where
  pub place : me < 32
  pub active : (place_at h.places me).standing ≡ Active
  pub unread : (p i : ℕ) → i < 64 → p ≢ me → level_of p ≡ level_of me → has Write (cell_at h.cells me i) ≡ true → has Read (cell_at h.cells p i) ≡ false

pub record MayCommit (h : House) (me : ℕ) : Type 0 where
  pub place : me < 32
  pub certified : (place_at h.places me).standing ≡ Certified
  pub unsignalled : is_signalled h.cells me ≡ false

-- the transaction that asks is found at `me`, and so is seated there
pub record Asker (h : House) (q : Request) (me : ℕ) : Type 0 where
  pub at : asker h q ≡ Some me
  pub seated : Seated h.places q.level q.ticket me

pub found : {h : House} {q : Request} {me : ℕ} → q.level < 4 → asker h q ≡ Some me → Asker h q me
found {h} {q} {me} b a = record { at = a; seated = seek_at h.places q.level q.ticket me b a }

-- the cases, with what each yields
pub data Turn (h : House) (q : Request) : Outcome → Type 0 where
  refused : foremost (refusals h q) ≢ 0 → Turn h q (outcome h q (Refused (foremost (refusals h q))))
  waits : (p : ℕ) → foremost (refusals h q) ≡ 0 → holder h q ≡ Some p → Turn h q (outcome h q (named h p))
  begins : (me : ℕ) → q.operation ≡ 0 → MayBegin h q.level me → Turn h q (outcome (begun h q.level me) q (Ticket (next_at h.next q.level)))
  reads : (me : ℕ) → q.operation ≡ 1 → Asker h q me → MayRead h me q.item → Turn h q (outcome (read_by h me q.item) q (read_for h me q.item))
  writes : (me : ℕ) → q.operation ≡ 2 → Asker h q me → MayWrite h me q.item q.value → Turn h q (outcome (written_by h me q.item q.value) q Done)
  certifies : (me : ℕ) → q.operation ≡ 3 → Asker h q me → MayCertify h me → Turn h q (outcome (certified_by h me) q Done)
  commits : (me : ℕ) → q.operation ≡ 4 → Asker h q me → MayCommit h me → Turn h q (outcome (committed_by h me) q Done)
  aborts : (me : ℕ) → q.operation ≡ 5 → Asker h q me → Turn h q (outcome (aborted_by h me) q Done)
  asks : (me : ℕ) → q.operation ≡ 6 → Asker h q me → Turn h q (outcome h q (ask_answer h.cells me))

begun_is : (h : House) (q : Request) (me : ℕ) → q.operation ≡ begin → vacancy h.places q.level ≡ Some me → performed h q ≡ outcome (begun h q.level me) q (Ticket (next_at h.next q.level))
unfolding performed
begun_is h q me o a = rw (o, a)

module _ (h : House) (q : Request) (z : foremost (refusals h q) ≡ 0) where
  abbrev c : Clear h q
  c = clear h q z

  may_begin : q.operation ≡ 0 → (me : ℕ) × (vacancy h.places q.level ≡ Some me) × MayBegin h q.level me
  unfolding crowded ticketless
  may_begin o =
      let s = somebody (vacancy h.places q.level) (rw o at c.roomy) in
      let u = vacancy_at h.places q.level s.0 c.level s.1 in
      (s.0, s.1, record { level = c.level; place = u.within.place; placed = u.within.level; empty = u.free; ticket = eqb-false _ 0 (rw o at c.ticketed) })

  module _ (me : ℕ) (A : Asker h q me) (none : conflict h.cells q me ≡ None) where
    still_active : is_certified (place_at h.places me).standing ≡ false → (place_at h.places me).standing ≡ Active
    still_active e = is_active_lem _ A.seated.taken e

    -- nobody holds the item of a read or a write
    free : (p : ℕ) → q.item < 64 → p < 32 → uses_item q ≡ true → hinders h.cells q.operation me q.item p ≡ false
    unfolding wants
    free p a b u = conflict_none h.cells q me none q.item p a b (rw u (eq-eqb q.item q.item refl))

    may_read : q.operation ≡ 1 → MayRead h me q.item
    unfolding forbidden untimely hinders
    may_read o =
        let i = item_there h q (rw o) c.present in
        record {
          place = A.seated.within.place;
          row = i.1;
          item = i.0;
          active = still_active (rw (o, A.at) at c.timely);
          may = rw A.seated.within.level (not-false _ (rw o at c.allowed));
          uncontested = λ p b d. another_not h.cells Certify me q.item p (rw o at (free p i.1 b (rw o))) d;
        }

    may_write : q.operation ≡ 2 → MayWrite h me q.item q.value
    unfolding forbidden blank_sheet untimely worn_out hinders another_claims held
    may_write o =
        let i = item_there h q (rw o) c.present in
        record {
          place = A.seated.within.place;
          row = i.1;
          item = i.0;
          active = still_active (rw (o, A.at) at c.timely);
          mine = eqb-true _ _ (not-false _ (rw o at c.allowed)) ∙ sym A.seated.within.level;
          drawn = eqb-false _ 0 (rw o at c.drawn);
          room = leb-false 4294967295 (item_at h.items q.item).version (rw o at c.fresh);
          uncontested = λ p b d.
              let n = or_parts (another_holds h.cells Write me q.item p) _ (rw o at (free p i.1 b (rw o))) in
              rw (another_not h.cells Write me q.item p n.0 d) (another_not h.cells Certify me q.item p n.1 d);
        }

    may_certify : q.operation ≡ 3 → MayCertify h me
    unfolding untimely wants hinders peer_reads holds
    may_certify o =
        record {
          place = A.seated.within.place;
          active = still_active (rw (o, A.at) at c.timely);
          unread = λ p i b d l w.
              let n = rw o at (conflict_none h.cells q me none i p b (let m = A.seated.within.place in omega arith) (rw o w)) in
              another_not h.cells Read me i p (and_right_false (eqb (level_of p) (level_of me)) _ (eq-eqb _ _ l) n) d;
        }

    may_commit : q.operation ≡ 4 → MayCommit h me
    unfolding untimely stopped
    may_commit o =
        record {
          place = A.seated.within.place;
          certified = is_certified_lem _ A.seated.taken (rw (o, A.at) at c.timely);
          unsignalled = rw (o, A.at) at c.unstopped;
        }

  -- the transaction that asks for anything but a begin
  by_asker : q.operation ≢ begin → ((me : ℕ) → Asker h q me → Turn h q (served h q me)) → Turn h q (performed h q)
  unfolding performed
  by_asker o does = let k = asker_known h q o z in rw (ne_eqb q.operation begin o, k.1) (does k.0 (found c.level k.1))

  yields : {x y : Outcome} → Turn h q y → x ≡ y → Turn h q x
  yields t e = rw e t

  turn_done : holder h q ≡ None → Turn h q (performed h q)
  unfolding served
  turn_done none = elim c.operation [
    | is_begin o ↦ let b = may_begin o in yields (begins b.0 o b.2) (begun_is h q b.0 o b.1)
    | is_read o ↦ by_asker (not_begin o) (λ me A. yields (reads me o A (may_read me A (rw A.at at none) o)) (rw o))
    | is_write o ↦ by_asker (not_begin o) (λ me A. yields (writes me o A (may_write me A (rw A.at at none) o)) (rw o))
    | is_certify o ↦ by_asker (not_begin o) (λ me A. yields (certifies me o A (may_certify me A (rw A.at at none) o)) (rw o))
    | is_commit o ↦ by_asker (not_begin o) (λ me A. yields (commits me o A (may_commit me A (rw A.at at none) o)) (rw o))
    | is_abort o ↦ by_asker (not_begin o) (λ me A. yields (aborts me o A) (rw o))
    | is_ask o ↦ by_asker (not_begin o) (λ me A. yields (asks me o A) (rw o))
  ]

  turn_unrefused : (who : Option ℕ) → holder h q ≡ who → Turn h q (stepped h q)
  turn_unrefused (Some p) e = yields (waits p z e) (waits_is h q p z e)
  turn_unrefused None e = yields (turn_done e) (free_is h q z e)

-- every request is one of them
pub turn : (h : House) (q : Request) → Turn h q (stepped h q)
turn h q = elim (same (foremost (refusals h q)) 0) [ inl z ↦ turn_unrefused h q z (holder h q) refl | inr n ↦ rw (refused_is h q n) (refused n) ]
