use Rattle.house.specs.House.{above}
use Rattle.sweeps.proofs.is_above.Goals as goal

pub returns : goal.returns
unfolding above
returns c = rw c.dominates.ensures
