use Rattle.house.specs.Cell.{cell_at, with_mark}
use Rattle.sweeps.proofs.mark_cell.Goals as goal

pub returns : goal.returns
unfolding with_mark cell_at
returns c = rw c.with_mark.ensures
