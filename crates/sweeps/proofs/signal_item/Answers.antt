-- Round l handles the cells of level l (`Sofar`), all at once if it is above, by the law `signalled_level` of `Rounds`. After four rounds
-- what is left is past the places of a house.
use Prim.Native.Nat.{ℕ}
use mathlib.Core.List.{List}
use native.Mathlib.Omega.{arith}
use Rattle.house.proofs.Branches.{went, passed}
use Rattle.house.proofs.Lists.{sofar_end}
use Rattle.house.specs.Cell.{map_cells}
use Rattle.sweeps.proofs.Rounds.{beyond, signalled_level}
use Rattle.sweeps.specs.Sweep.{swept}
use Rattle.sweeps.proofs.signal_item.Goals as goal
use Rattle.sweeps.proofs.signal_item.Goals.{then-above, else-above}

pub loop-l-preserved : goal.loop-l-preserved
loop-l-preserved c = elim c.if-above.branch [ then-above w ↦ search (signalled_level, went {A = List ℕ} (λ x. x)) | else-above w ↦ search (signalled_level, passed {A = List ℕ} (λ x. x)) ]

pub returns : goal.returns
unfolding swept map_cells
returns c = sofar_end _ _ _ _ c.loop-l.invariant (λ n h k. beyond _ _ _ (omega arith))
