use Rattle.std.proofs.Common.{refl}
use Rattle.house.specs.Cell.{cell_at}
use Rattle.locks.proofs.cell.Goals as goal

pub returns : goal.returns
unfolding cell_at
returns c = refl
