-- Demand 1: proofs of the statements in specs/Answers.antt.
-- Assumes nothing.
use Prim.Native.Nat.{ℕ}
use mathlib.Core.Path.{◌≡◌, refl, sym, ap, ◌∙◌}
use mathlib.Core.Logic.{◌≢◌, inl, inr}
use mathlib.Core.Bool.{false}
use borrow.Author.Tests.{ne_eqb}
use Rattle.std.specs.Prelude.{Option, Some, None}
use Rattle.house.specs.declared.House.{House}
use Rattle.house.specs.declared.Outcome.{Outcome}
use Rattle.house.specs.declared.Request.{Request}
use Rattle.house.specs.Search.{nobody}
use Rattle.house.specs.House.{fixed, seek}
use Rattle.house.specs.Checks.{foremost, some_applies}
use Rattle.house.specs.Rules.{begin, asker, no_operation, no_level, unused_set, unknown, refusals, checks, verdict, stepped}
use Rattle.std.proofs.lemmas.Bool.{cases_Bool}
use Rattle.house.proofs.Tests.{clash}
use Rattle.house.proofs.Places.{zero_nowhere}
use Rattle.house.proofs.Checks.{none_applies, none_given, first_given, level_there, clear, passes, asker_known, foremost_stands}
use Rattle.house.proofs.Steps.{unserved_is, done_is}
use Rattle.house.proofs.Effects.{begun_fixed, read_fixed, written_fixed, certified_fixed, committed_fixed, aborted_fixed}
use Rattle.reach.specs.Answers.{Stranger, TurnedDown, RefusalKeeps, FirstGiven, DoneExactly, OrderStands, NumberStands, FixedStays, StrangerRefused, ZeroRefused, StrangerGetsSix, ZeroGetsSix, ZeroNamesNobody}
use Rattle.reach.proofs.Turns.{Asker, found, Turn, refused, waits, begins, reads, writes, certifies, commits, aborts, asks, turn}
use Rattle.reach.proofs.Opened.{reachable_has}
use Rattle.reach.proofs.Guards.{number}

pub refusal_keeps : RefusalKeeps
refusal_keeps h q n = ap (λ o. o.house) (unserved_is h q _ refl (λ e. n (number h q ∙ e)))

pub first_applying : FirstGiven
unfolding verdict checks refusals
first_applying h q n z = rw (number h q) (first_given (checks h q) refl n z)

pub done_exactly : DoneExactly
unfolding verdict checks refusals
done_exactly h q = (
  rw (number h q)
      (elim (cases_Bool (some_applies (checks h q))) [
        | inl y ↦ rw y (ne_eqb (foremost (checks h q)) 0 (λ e. clash y (none_applies (checks h q) refl e)))
        | inr y ↦ rw (y, none_given (checks h q) y)
      ]),
  λ e. done_is h q (sym (number h q) ∙ e),
)

pub order_stands : OrderStands
unfolding checks refusals
order_stands h q = refl

pub number_stands : NumberStands
unfolding verdict
number_stands h q = rw (number h q) (rw (order_stands h q) at (foremost_stands (checks h q)))

turn_fixed : {h : House} {q : Request} {o : Outcome} → Turn h q o → fixed o.house ≡ fixed h
turn_fixed (refused n) = refl
turn_fixed (waits p z e) = refl
turn_fixed {h} {q} (begins me o K) = begun_fixed h q.level me
turn_fixed {h} {q} (reads me o A K) = read_fixed h me q.item
turn_fixed {h} {q} (writes me o A K) = written_fixed h me q.item q.value
turn_fixed {h} (certifies me o A K) = certified_fixed h me
turn_fixed {h} (commits me o A K) = committed_fixed h me
turn_fixed {h} (aborts me o A) = aborted_fixed h me
turn_fixed (asks me o A) = refl

pub fixed_stays : FixedStays
fixed_stays h q = turn_fixed (turn h q)

-- one that is done and is no begin has found its transaction
done_found : (h : House) (q : Request) → q.operation ≢ begin → (stepped h q).reply.number ≡ 0 → (me : ℕ) × Asker h q me
done_found h q n e =
    let z = (passes h q (sym (number h q) ∙ e)).0 in
    let k = asker_known h q n z in
    (k.0, found (clear h q z).level k.1)

-- so one that is not found is turned down
turned_down : (h : House) (q : Request) → q.operation ≢ begin → ((me : ℕ) → Asker h q me → ⊥) → TurnedDown h q
turned_down h q n none = let u : (stepped h q).reply.number ≢ 0 = λ e. let k = done_found h q n e in none k.0 k.1 in (u, refusal_keeps h q u)

-- a stranger is found nowhere, and neither is ticket 0

stranger_elsewhere : (h : House) (q : Request) → Stranger h q → (me : ℕ) → Asker h q me → ⊥
stranger_elsewhere h q s me A = let k = A.seated in s me k.within.place k.within.level k.taken k.ticket

stranger_nobody : (h : House) (q : Request) → no_level q ≡ false → Stranger h q → (who : Option ℕ) → asker h q ≡ who → who ≡ None
stranger_nobody h q l s None e = refl
stranger_nobody h q l s (Some p) e = absurd (stranger_elsewhere h q s p (found (level_there q l) e))

zero_nobody : (h : House) (q : Request) → q.ticket ≡ 0 → asker h q ≡ None
unfolding seek
zero_nobody h q z = rw z (zero_nowhere h.places _ _ _)

pub stranger_refused : StrangerRefused
stranger_refused h q n s = turned_down h q n (stranger_elsewhere h q s)

pub zero_refused : ZeroRefused
zero_refused h q n z = turned_down h q n (λ me A. clash (ap nobody (zero_nobody h q z)) (ap nobody A.at))

-- which number that is
nobody_gets_six : (h : House) (q : Request) → no_operation q ≡ false → no_level q ≡ false → unused_set q ≡ false → q.operation ≢ begin → asker h q ≡ None → (stepped h q).reply.number ≡ 6
unfolding verdict checks refusals unknown
nobody_gets_six h q o l u n none = number h q ∙ rw (o, l, u, ne_eqb q.operation 0 n, none)

pub stranger_gets_six : StrangerGetsSix
stranger_gets_six h q o l u n s = nobody_gets_six h q o l u n (stranger_nobody h q l s (asker h q) refl)

pub zero_gets_six : ZeroGetsSix
zero_gets_six h q o l u n z = nobody_gets_six h q o l u n (zero_nobody h q z)

pub zero_names_nobody : ZeroNamesNobody
zero_names_nobody h R = (reachable_has h R).named
