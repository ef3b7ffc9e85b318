use Rattle.std.proofs.Common.{rules, tests}
use Rattle.locks.proofs.Laws.{read_others}
use Rattle.locks.proofs.read_holder.Goals as goal

pub returns : goal.returns
returns c = read_others _ _ _ _ (search (rules, tests, c.lowest_other.ensures))
