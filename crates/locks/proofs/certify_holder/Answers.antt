use Rattle.std.proofs.Common.{rules, tests}
use Rattle.house.proofs.Branches.{found}
use Rattle.locks.proofs.Laws.{certify_others}
use Rattle.locks.proofs.certify_holder.Goals as goal

pub returns : goal.returns
returns c =
    found _ _ _ _ _ _ c.first_awaited.ensures c.in_ok-i.was
    (certify_others _ _ _ _ _ _ c.first_awaited.ensures c.in_ok-i.was (search (rules, tests, c.lowest_below.ensures)))
