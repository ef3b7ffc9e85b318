use Rattle.house.specs.Cell.{has}
use Rattle.parts.proofs.has_mark.Goals as goal

pub returns : goal.returns
unfolding has
returns c = rw c.weigh.ensures
