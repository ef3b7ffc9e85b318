use Prim.Native.Nat.{◌/◌, ◌%◌}
use lib.Dec.{eqb}
use Rattle.house.proofs.Lists.{Sofar}
use Rattle.sweeps.proofs.Rounds.{cellwise}
use Rattle.sweeps.specs.Sweep.{on_item, signalled_from}
use Rattle.sweeps.proofs.signal_level.Given as goal

abbrev pub invariant-loop-k : goal.invariant-loop-k
invariant-loop-k l = Sofar 0 (λ n. n / 64 % 8) (cellwise (on_item l.i (signalled_from (eqb l.l)))) l.k l.initial.cells l.cells
