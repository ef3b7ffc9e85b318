-- Each promise settles its outcome: any two results that it allows for the same arguments are equal.
-- `Reads.Post` is the contract as the checker reads it off the source.
-- Assumes nothing.
use mathlib.Core.Path.{◌≡◌, sym, ◌∙◌}
use borrow.Fn.World
use borrow.Fn.Kinds as Kinds'
use contract.Lifetimes
use denote.Triple.Clauses
use Rattle.places.specs.contracts.lookup as lookup
use Rattle.places.proofs.lookup.Kinds as lookup_kinds
use Rattle.places.proofs.lookup.Reads as lookup_reads
use Rattle.places.specs.contracts.lowest_free as lowest_free
use Rattle.places.proofs.lowest_free.Kinds as lowest_free_kinds
use Rattle.places.proofs.lowest_free.Reads as lowest_free_reads

pub lookup_settled : (κs : Lifetimes.Lfts 0) (a : World.ArgsD lookup.signature κs) (r r' : World.ResD lookup.signature κs) (s s' : Clauses.AtExit (Kinds'.ended_of 0 lookup_kinds.ps lookup_kinds.r) κs) → lookup_reads.Post κs a r s → lookup_reads.Post κs a r' s' → r ≡ r'
lookup_settled κs a r r' s s' p q = p ∙ sym q

pub lowest_free_settled : (κs : Lifetimes.Lfts 0) (a : World.ArgsD lowest_free.signature κs) (r r' : World.ResD lowest_free.signature κs) (s s' : Clauses.AtExit (Kinds'.ended_of 0 lowest_free_kinds.ps lowest_free_kinds.r) κs) → lowest_free_reads.Post κs a r s → lowest_free_reads.Post κs a r' s' → r ≡ r'
lowest_free_settled κs a r r' s s' p q = p ∙ sym q
