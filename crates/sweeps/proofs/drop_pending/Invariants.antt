use Prim.Native.Nat.{◌%◌}
use Rattle.house.specs.Rules.{dropped_pending}
use Rattle.house.proofs.Lists.{Sofar}
use Rattle.sweeps.proofs.drop_pending.Given as goal

abbrev pub invariant-loop-i : goal.invariant-loop-i
invariant-loop-i l = Sofar 0 (λ n. n) (dropped_pending l.cells (l.me % 32)) l.i l.initial.out l.out
