use Rattle.std.proofs.Common.{arith, rules, tests}
use Rattle.house.proofs.Branches.{both, followed}
use Rattle.locks.proofs.Laws.{seen, peers}
use Rattle.ruling.specs.Judged.{waits_at}
use Rattle.locks.proofs.waits_at.Goals as goal

pub returns-then-has_mark : goal.returns-then-has_mark
unfolding waits_at
returns-then-has_mark c = both _ _ _ _ (search seen) c.if-has_mark.true (peers _ _ _ (omega arith) _ (search (rules, tests, c.any_place.ensures)))

pub returns-else-has_mark : goal.returns-else-has_mark
unfolding waits_at
returns-else-has_mark c = search (followed, seen)
