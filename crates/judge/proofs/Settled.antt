-- The promise of `judge` settles its ruling: any two that it allows for the same parts and request are equal.
-- `Reads.Post` is the contract as the checker reads it off the source.
-- Assumes nothing.
use mathlib.Core.Path.{◌≡◌}
use borrow.Fn.World
use borrow.Fn.Kinds as Kinds'
use contract.Lifetimes
use denote.Triple.Clauses
use Rattle.judge.specs.contracts.judge
use Rattle.judge.proofs.judge.Kinds
use Rattle.judge.proofs.judge.Reads as reads
use Rattle.ruling.proofs.Judged.{judged_settles}

pub judge_settled : (κs : Lifetimes.Lfts 1) (a : World.ArgsD judge.signature κs) (r r' : World.ResD judge.signature κs) (s s' : Clauses.AtExit (Kinds'.ended_of 1 Kinds.ps Kinds.r) κs) → reads.Post κs a r s → reads.Post κs a r' s' → r ≡ r'
judge_settled κs a r r' s s' p q = judged_settles _ _ _ _ _ p q
