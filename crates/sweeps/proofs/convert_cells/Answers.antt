use Rattle.sweeps.proofs.Rounds.{converted_own}
use Rattle.sweeps.proofs.convert_cells.Goals as goal

pub returns : goal.returns
returns c = converted_own _ _ c.args.me _ c.told-cells c.loop-c.invariant c.loop-c-test.false
