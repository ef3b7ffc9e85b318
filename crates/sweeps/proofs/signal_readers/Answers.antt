-- Round i handles the cells of item i (`Sofar`), all at once if it is written, by the law `signalled_item` of `Rounds`. Who gives no signals,
-- or has written nothing, returns before the loop.
use Prim.Native.Nat.{ℕ}
use mathlib.Core.List.{List}
use borrow.Author.Tests.{not-true}
use borrow.Author.Rules.{rules}
use Rattle.house.proofs.Branches.{answered, went, passed}
use Rattle.sweeps.proofs.Rounds.{none_given, none_written, signalled_item, all_given}
use Rattle.sweeps.proofs.signal_readers.Goals as goal
use Rattle.sweeps.proofs.signal_readers.Goals.{then-is_written, else-is_written}

pub returns-then-not-gives : goal.returns-then-not-gives
returns-then-not-gives c = search (none_given, not-true)

pub returns-then-not-has_claimed : goal.returns-then-not-has_claimed
returns-then-not-has_claimed c = search (none_written, answered, not-true)

pub loop-i-preserved : goal.loop-i-preserved
loop-i-preserved c = elim c.if-is_written.branch [ then-is_written w ↦ search (signalled_item, went {A = List ℕ} (λ x. x)) | else-is_written w ↦ search (signalled_item, passed {A = List ℕ} (λ x. x)) ]

pub returns : goal.returns
returns c = search (rules, all_given)
