use Prim.Native.Nat.{◌/◌}
use mathlib.Core.Bool.{false}
use lib.ListN.{get_or}
use Rattle.house.proofs.Lists.{Sofar}
use Rattle.sweeps.proofs.Rounds.{cellwise}
use Rattle.sweeps.specs.Sweep.{on_item, signalled_from}
use Rattle.sweeps.proofs.signal_item.Given as goal

abbrev pub invariant-loop-l : goal.invariant-loop-l
invariant-loop-l l = Sofar 0 (λ n. n / 64 / 8) (cellwise (on_item l.i (signalled_from (λ k. get_or l.above-items k false)))) l.l l.initial.cells l.cells
