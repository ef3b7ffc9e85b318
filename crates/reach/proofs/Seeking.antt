-- CR 4: proofs of the statements in specs/Seeking.antt. No two open transactions of a level have one ticket, so the order of the search does
-- not matter.
-- Assumes nothing.
use Prim.Native.Nat.{ℕ, ◌*◌, ◌<◌}
use native.Mathlib.Omega.{arith}
use mathlib.Core.Path.{◌≡◌, refl, sym, ◌∙◌}
use mathlib.Core.Logic.{inl, inr}
use mathlib.Core.Bool.{true}
use mathlib.Core.List.{List, [], ◌∷◌}
use lib.ListN.{get_or-eq_default}
use lib.Dec.{ltb}
use borrow.Author.Tests.{ltb-true, ltb-false, eq-eqb, ne_eqb}
use Rattle.house.specs.declared.House.{House}
use Rattle.house.specs.declared.Request.{Request}
use Rattle.house.specs.House.{Sizes, vacant, place_at, free_at, has_ticket, seek}
use Rattle.house.specs.Rules.{stepped}
use Rattle.house.specs.Opening.{opening}
use Rattle.house.specs.Run.{finally, replies}
use Rattle.std.proofs.lemmas.Bool.{cases_Bool}
use Rattle.house.proofs.Tests.{clash}
use Rattle.house.proofs.Searches.{Hit, find_finds, round_finds, finds_it, finds_same}
use Rattle.house.proofs.Places.{holder_open, holder_ticket_lem}
use Rattle.reach.specs.Kept.{Kept, Open}
use Rattle.reach.specs.Seeking.{seek_in_order, asker_in_order, run_by, FindsItsPlace, SameAsker, NoAnswerChanges}
use Rattle.reach.proofs.Kept.{step_keeps}
use Rattle.reach.proofs.Opened.{opening_has, reachable_has}

-- past the last place nobody stands
past_nobody : {h : House} → Sizes h → (t p : ℕ) → has_ticket h.places t p ≡ true → p < 32
unfolding has_ticket free_at
past_nobody {h} S t p has = elim (cases_Bool (ltb p 32)) [
  | inl b ↦ ltb-true p 32 b
  | inr n ↦ let out : place_at h.places p ≡ vacant = get_or-eq_default h.places vacant {n = p} (rw S.places (ltb-false p 32 n)) in clash has (rw out)
]

module _ {h : House} (K : Kept h) (l t : ℕ) where
  abbrev hit : ℕ → Type 0
  hit = Hit (has_ticket h.places t) (l * 8) 8

  sole : (i j : ℕ) → hit i → hit j → i ≡ j
  sole i j a b =
      K.apart i j (past_nobody K.sizes t i a.2) (past_nobody K.sizes t j b.2) (holder_open _ t i a.2) (holder_open _ t j b.2) (omega arith)
      (holder_ticket_lem _ t i a.2 ∙ sym (holder_ticket_lem _ t j b.2))

  in_order : seek_in_order h.places l t ≡ seek h.places l t
  unfolding seek seek_in_order
  in_order = finds_same sole _ _ (find_finds _ _ _) (round_finds _ _ _ _)

pub same_asker : SameAsker
same_asker h R q = in_order (reachable_has h R) q.level q.ticket

-- an open transaction has its ticket
has_own : {h : House} → Kept h → (p : ℕ) → p < 32 → Open h p → has_ticket h.places (place_at h.places p).ticket p ≡ true
unfolding has_ticket free_at
has_own K p b o = rw (o, eq-eqb _ _ refl, ne_eqb _ 0 (K.named p b o))

pub finds_its_place : FindsItsPlace
unfolding seek
finds_its_place h R p b o q l t =
    let K = reachable_has h R in
    let has : has_ticket h.places q.ticket p ≡ true = rw t (has_own K p b o) in
    finds_it (sole K q.level q.ticket) p (omega arith, omega arith, has) _ (round_finds _ _ _ _)

pub no_answer_changes : NoAnswerChanges
unfolding run_by finally replies
no_answer_changes rules theirs levels table rule qs = runs (opening levels table rule).house (opening_has levels table rule) qs
  where
    runs : (h : House) → Kept h → (qs : List Request) → run_by (λ h q. rules (asker_in_order h q) h q) h qs ≡ (finally h qs, replies h qs)
    runs h K [] = refl
    runs h K (q ∷ qs) = rw (in_order K q.level q.ticket, theirs h q, runs (stepped h q).house (step_keeps h K q) qs)
