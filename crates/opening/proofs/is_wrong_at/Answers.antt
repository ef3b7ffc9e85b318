use Rattle.house.specs.Order.{large, loose, tied, broken, wrong_at}
use Rattle.opening.proofs.is_wrong_at.Goals as goal

pub returns : goal.returns
unfolding wrong_at large loose tied broken
returns c = cc
