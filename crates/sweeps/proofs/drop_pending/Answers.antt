use borrow.Author.Rules.{rules}
use Rattle.sweeps.proofs.Rounds.{dropped_one, rounds, all_items}
use Rattle.sweeps.proofs.drop_pending.Goals as goal

pub loop-i-preserved : goal.loop-i-preserved
loop-i-preserved c = search dropped_one

pub returns : goal.returns
returns c = search (rules, rounds, all_items)
