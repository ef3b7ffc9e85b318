-- Round k handles the cells of the k-th place of every level (`Sofar`), by the law `signalled_one` of `Rounds`.
use native.Mathlib.Omega.{arith}
use Rattle.house.proofs.Lists.{sofar_all}
use Rattle.house.specs.Cell.{map_cells}
use Rattle.sweeps.proofs.Rounds.{signalled_one}
use Rattle.sweeps.specs.Sweep.{swept}
use Rattle.sweeps.proofs.signal_level.Goals as goal

pub loop-k-preserved : goal.loop-k-preserved
loop-k-preserved c = search signalled_one

pub returns : goal.returns
unfolding swept map_cells
returns c = sofar_all _ _ _ _ c.loop-k.invariant (λ n h. omega arith)
