use Rattle.house.specs.Opening.{opened}
use Rattle.opening.proofs.furnish.Goals as goal

pub returns : goal.returns
unfolding opened
returns c = simp (opened, c.all_rows.ensures, c.left_free.ensures)
