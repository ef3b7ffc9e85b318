use Rattle.house.specs.Cell.{holds, another_holds}
use Rattle.locks.proofs.another_reads.Goals as goal

pub returns : goal.returns
unfolding another_holds holds
returns c = rw (c.has_mark.ensures, c.cell.ensures)
