-- Round i handles item i (`Sofar`). Its two ways, an item that is certified and one that is not, are laws of `Rounds`, whose premises
-- `search` finds in the way that was taken.
use Rattle.sweeps.proofs.Rounds.{committed_one, passed_one, rounds, all_items}
use borrow.Author.Rules.{rules}
use Rattle.sweeps.proofs.commit_items.Goals as goal
use Rattle.sweeps.proofs.commit_items.Goals.{then-has_mark, else-has_mark}

pub loop-i-preserved : goal.loop-i-preserved
loop-i-preserved c = elim c.if-has_mark.branch [ then-has_mark w ↦ search committed_one | else-has_mark w ↦ search passed_one ]

pub returns : goal.returns
returns c = search (rules, rounds, all_items)
