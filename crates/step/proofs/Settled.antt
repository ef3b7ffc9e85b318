-- Each promise settles the outcome: any two that it allows for the same house and request are equal. In place the house stands at `s.0`:
-- what the first parameter lends, as the function returns.
-- `Reads.Post` is the contract as the checker reads it off the source.
-- Assumes nothing.
use mathlib.Core.Path.{◌≡◌, sym, ap, ◌∙◌}
use borrow.Fn.Kinds as Kinds'
use borrow.Fn.World
use contract.Lifetimes
use denote.Triple.Clauses
use Rattle.step.specs.contracts.step as step
use Rattle.step.proofs.step.Kinds as step_kinds
use Rattle.step.proofs.step.Reads as step_reads
use Rattle.step.specs.contracts.step_in_place as in_place
use Rattle.step.proofs.step_in_place.Kinds as in_place_kinds
use Rattle.step.proofs.step_in_place.Reads as in_place_reads

pub step_settled : (κs : Lifetimes.Lfts 0) (a : World.ArgsD step.signature κs) (r r' : World.ResD step.signature κs) (s s' : Clauses.AtExit (Kinds'.ended_of 0 step_kinds.ps step_kinds.r) κs) → step_reads.Post κs a r s → step_reads.Post κs a r' s' → r ≡ r'
step_settled κs a r r' s s' p q = p ∙ sym q

pub step_in_place_settled : (κs : Lifetimes.Lfts 1) (a : World.ArgsD in_place.signature κs) (r r' : World.ResD in_place.signature κs) (s s' : Clauses.AtExit (Kinds'.ended_of 1 in_place_kinds.ps in_place_kinds.r) κs) → in_place_reads.Post κs a r s → in_place_reads.Post κs a r' s' → (r ≡ r') × (s.0.now ≡ s'.0.now)
step_in_place_settled κs a r r' s s' p q = let e = sym p ∙ q in (ap (λ x. x.reply) e, ap (λ x. x.house) e)
