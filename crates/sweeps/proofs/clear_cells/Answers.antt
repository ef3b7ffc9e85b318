use Rattle.sweeps.proofs.Rounds.{cleared_own}
use Rattle.sweeps.proofs.clear_cells.Goals as goal

pub returns : goal.returns
returns c = cleared_own _ _ c.args.me c.told-cells (c.fill.ensures.after (λ y e. e))
