use Prim.Native.Nat.{◌%◌}
use mathlib.Core.Bool.{true}
use Rattle.house.proofs.Lists.{Sofar}
use Rattle.house.specs.Rules.{signalled_cell}
use Rattle.sweeps.proofs.Rounds.{cellwise}
use Rattle.sweeps.proofs.signal_readers.Given as goal

abbrev pub invariant-loop-i : goal.invariant-loop-i
invariant-loop-i l = Sofar 0 (λ n. n % 64) (cellwise (signalled_cell true l.order l.initial.cells (l.me % 32))) l.i l.initial.cells l.cells
