use Rattle.std.proofs.Common.{◌≡◌, take}
use Rattle.std.specs.List.{count_by}
use Rattle.house.specs.Cell.{has}
use Rattle.house.specs.declared.Mark.TheVariants.{Signalled}
use Rattle.locks.proofs.count_signalled.Given as goal

abbrev pub invariant-loop-c : goal.invariant-loop-c
invariant-loop-c l = l.n ≡ count_by (has Signalled) (take l.c-index l.c-items)
