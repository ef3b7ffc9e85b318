-- The promise settles its outcome: any two that it allows for the same arguments are equal, and so are the reply bytes, which
-- stand at `s.1.1.1.1.0`: what the fifth parameter lends, as the function returns.
-- `Reads.Post` is the contract as the checker reads it off the source.
-- Assumes nothing.
use mathlib.Core.Path.{◌≡◌, sym, ◌∙◌}
use borrow.Fn.Kinds as Kinds'
use borrow.Fn.World
use contract.Lifetimes
use denote.Triple.Clauses
use Rattle.maps.specs.contracts.read_map as read_map
use Rattle.maps.proofs.read_map.Kinds as read_map_kinds
use Rattle.maps.proofs.read_map.Reads as read_map_reads

pub read_map_settled : (κs : Lifetimes.Lfts 2) (a : World.ArgsD read_map.signature κs) (r r' : World.ResD read_map.signature κs) (s s' : Clauses.AtExit (Kinds'.ended_of 2 read_map_kinds.ps read_map_kinds.r) κs) → read_map_reads.Post κs a r s → read_map_reads.Post κs a r' s' → (r ≡ r') × (s.1.1.1.1.0.now ≡ s'.1.1.1.1.0.now)
read_map_settled κs a r r' s s' p q = (p.0 ∙ sym q.0, p.1 ∙ sym q.1)
