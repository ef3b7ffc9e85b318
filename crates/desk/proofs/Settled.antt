-- Each promise settles its outcome: any two that it allows for the same arguments are equal, and so are the reply bytes, which
-- stand at `s.1.1.0`: what the third parameter lends, as the function returns.
-- `Reads.Post` is the contract as the checker reads it off the source.
-- Assumes nothing.
use mathlib.Core.Path.{◌≡◌, sym, ◌∙◌}
use borrow.Fn.Kinds as Kinds'
use borrow.Fn.World
use contract.Lifetimes
use denote.Triple.Clauses
use Rattle.desk.specs.contracts.turn as turn
use Rattle.desk.proofs.turn.Kinds as turn_kinds
use Rattle.desk.proofs.turn.Reads as turn_reads
use Rattle.desk.specs.contracts.turn_in_place as in_place
use Rattle.desk.proofs.turn_in_place.Kinds as in_place_kinds
use Rattle.desk.proofs.turn_in_place.Reads as in_place_reads

pub turn_settled : (κs : Lifetimes.Lfts 2) (a : World.ArgsD turn.signature κs) (r r' : World.ResD turn.signature κs) (s s' : Clauses.AtExit (Kinds'.ended_of 2 turn_kinds.ps turn_kinds.r) κs) → turn_reads.Post κs a r s → turn_reads.Post κs a r' s' → (r ≡ r') × (s.1.1.0.now ≡ s'.1.1.0.now)
turn_settled κs a r r' s s' p q = (p.0 ∙ sym q.0, p.1 ∙ sym q.1)

pub turn_in_place_settled : (κs : Lifetimes.Lfts 2) (a : World.ArgsD in_place.signature κs) (r r' : World.ResD in_place.signature κs) (s s' : Clauses.AtExit (Kinds'.ended_of 2 in_place_kinds.ps in_place_kinds.r) κs) → in_place_reads.Post κs a r s → in_place_reads.Post κs a r' s' → (r ≡ r') × (s.1.1.0.now ≡ s'.1.1.0.now)
turn_in_place_settled κs a r r' s s' p q = (p.0 ∙ sym q.0, p.1 ∙ sym q.1)
