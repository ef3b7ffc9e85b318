use Prim.Native.Nat.{◌%◌}
use Rattle.house.proofs.Lists.{Sofar}
use Rattle.house.specs.House.{blank}
use Rattle.house.specs.Rules.{committed_item}
use Rattle.sweeps.proofs.commit_items.Given as goal

abbrev pub invariant-loop-i : goal.invariant-loop-i
invariant-loop-i l = Sofar blank (λ n. n) (committed_item l.cells l.pending (l.me % 32)) l.i l.initial.out l.out
