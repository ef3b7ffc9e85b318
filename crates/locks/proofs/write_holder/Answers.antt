use Rattle.std.proofs.Common.{rules, tests}
use Rattle.locks.proofs.Laws.{write_others}
use Rattle.locks.proofs.write_holder.Goals as goal

pub returns : goal.returns
returns c = write_others _ _ _ _ (search (rules, tests, c.lowest_other.ensures))
