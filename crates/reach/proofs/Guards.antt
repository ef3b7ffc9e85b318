-- The guards for unreachable houses: two never decide in a reachable one, the others in none.
-- Assumes nothing.
use Prim.Native.Nat.{ℕ, ◌+◌, ◌≤◌, ◌<◌}
use native.Mathlib.Omega.{arith}
use mathlib.Core.Path.{◌≡◌, refl, sym, ◌∙◌}
use mathlib.Core.Logic.{inl, inr}
use mathlib.Core.Bool.{◌&&◌, ◌||◌}
use lib.Dec.{eqb, leb}
use borrow.Author.Tests.{eq-eqb, eqb-true, leb-false, lt-leb, lt-ltb, not-true}
use Rattle.house.specs.declared.Answer.TheVariants.{Refused}
use Rattle.std.specs.Prelude.{Option, Some, None}
use Rattle.house.specs.declared.House.{House}
use Rattle.house.specs.declared.Mark.TheVariants.{Write}
use Rattle.house.specs.declared.Outcome.{Outcome}
use Rattle.house.specs.declared.Request.{Request}
use Rattle.house.specs.Search.{if_found}
use Rattle.house.specs.Cell.{holds}
use Rattle.house.specs.Checks.{foremost}
use Rattle.house.specs.Rules.{uses_item, no_item, holder, delayed, refusals, checks, verdict, grown, read_answer, read_for, ask_answer, replied, named, unserved, stepped}
use Rattle.std.proofs.lemmas.Bool.{cases_Bool, and_parts}
use Rattle.house.proofs.Tests.{same, clash}
use Rattle.house.proofs.Checks.{given_last, passes, somebody}
use Rattle.house.proofs.Steps.{first_refused, unserved_is, waits_is}
use Rattle.reach.specs.Kept.{Kept}
use Rattle.reach.specs.Guards.{Unguarded, GuardsRest, PlaceGuardRests, HolderGuardRests}
use Rattle.reach.proofs.Turns.{Turn, refused, waits, begins, reads, writes, certifies, commits, aborts, asks, turn}
use Rattle.reach.proofs.Opened.{reachable_has}

grown_room : (v : ℕ) → v < 4294967295 → grown v ≡ v + 1
unfolding grown
grown_room v b = rw (lt-ltb v 4294967295 b)

-- a number below the count is below 64
within : (n i : ℕ) → n ≤ 64 → (leb n i || leb 64 i) ≡ leb n i
within n i b = elim (cases_Bool (leb n i)) [ inl e ↦ rw e | inr e ↦ rw e (lt-leb 64 i (omega (arith, leb-false n i e))) ]

item_counted : (h : House) → h.count ≤ 64 → (q : Request) → no_item h q ≡ (uses_item q && leb h.count q.item)
unfolding no_item
item_counted h b q = rw (within h.count q.item b)

-- a read is done whichever pair it gives
pub read_number : (h : House) (q : Request) (me i : ℕ) → (replied q (read_for h me i)).number ≡ 0
unfolding read_answer
read_number h q me i = elim (cases_Bool (holds h.cells Write me i)) [ inl w ↦ rw w | inr w ↦ rw w ]

done_number : {h : House} {q : Request} {o : Outcome} → verdict h q ≡ 0 → Turn h q o → o.reply.number ≡ 0
unfolding delayed ask_answer
done_number {h} {q} v (refused n) = absurd (n (sym (first_refused h q n) ∙ v))
done_number {h} {q} v (waits p z e) = clash refl (rw e at (passes h q v).1)
done_number v (begins me o K) = refl
done_number {h} {q} v (reads me o A K) = read_number h q me q.item
done_number v (writes me o A K) = refl
done_number v (certifies me o A K) = refl
done_number v (commits me o A K) = refl
done_number v (aborts me o A) = refl
done_number v (asks me o A) = refl

unserved_number : (h : House) (q : Request) (n : ℕ) → (replied q (unserved h q n)).number ≡ n
unfolding unserved
unserved_number h q n = elim (cases_Bool (eqb n 1)) [ inl y ↦ rw y (delayed_number (holder h q) (eqb-true n 1 y)) | inr y ↦ rw y ]
  where
    delayed_number : (who : Option ℕ) → n ≡ 1 → (replied q (if_found who (named h) (Refused n))).number ≡ n
    delayed_number (Some p) e = sym e
    delayed_number None e = refl

pub number : PlaceGuardRests
number h q = elim (same (verdict h q) 0) [ inl v ↦ done_number v (turn h q) ∙ sym v | inr n ↦ rw (unserved_is h q _ refl n) (unserved_number h q _) ]

-- number 1 is given where no refusal comes first and the request is delayed
pub delay_given : (h : House) (q : Request) → eqb (stepped h q).reply.number 1 ≡ (eqb (foremost (refusals h q)) 0 && delayed h q)
unfolding verdict checks refusals
delay_given h q = rw (number h q) (given_last (refusals h q) 1 (delayed h q) (λ e. omega arith) refl refl)

-- so there is a holder
pub delay_held : (h : House) (q : Request) → (stepped h q).reply.number ≡ 1 → (foremost (refusals h q) ≡ 0) × (p : ℕ) × (holder h q ≡ Some p)
unfolding delayed
delay_held h q e =
    let k = and_parts (eqb (foremost (refusals h q)) 0) (delayed h q) (sym (delay_given h q) ∙ eq-eqb _ 1 e) in
    let s = somebody (holder h q) (not-true _ k.1) in
    (eqb-true _ 0 k.0, s.0, s.1)

pub holder_guard_rests : HolderGuardRests
holder_guard_rests h q e = let d = delay_held h q e in (d.1, d.2, waits_is h q d.1 d.0 d.2)

pub unguarded : {h : House} → Kept h → Unguarded h
unguarded {h} K = record { grows = λ p i b a w. grown_room _ (K.room p i b a w); counted = item_counted h K.count }

pub guards_rest : GuardsRest
guards_rest h R = unguarded (reachable_has h R)
