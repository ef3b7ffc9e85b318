use mathlib.Core.Bool.{cond}
use Rattle.house.proofs.Lists.{Sofar}
use Rattle.house.specs.Cell.{has, marked, unmarked}
use Rattle.house.specs.declared.Mark.TheVariants.{Write, Certify}
use Rattle.sweeps.proofs.convert_cells.Given as goal

abbrev pub invariant-loop-c : goal.invariant-loop-c
invariant-loop-c l = Sofar 0 (λ n. n) (λ n c. cond (has Write c) (marked Certify (unmarked Write c)) c) l.c-index l.initial.c-items l.c-items
