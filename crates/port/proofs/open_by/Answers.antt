use Rattle.std.proofs.Common.{rules, ℕ, ◌<◌, ◌≡◌, List, [], Some, arith, sym}
use borrow.Author.Tests.{ne_eqb}
use Rattle.house.specs.declared.Misfit.{Misfit}
use Rattle.house.specs.declared.Opening.{Opening}
use Rattle.house.specs.declared.Rule.{Rule}
use Rattle.house.specs.declared.Rule.TheVariants.{A, B}
use Rattle.house.specs.Opening.{rule_number, wrong_count, opening}
use Rattle.port.specs.Call.{opening_by}
use Rattle.port.proofs.open_by.Goals as goal

-- a number that names a rule, and one that names none: no levels are refused, so that their house is that of a refused opening
named : (levels table : List ℕ) (n : ℕ) (rule : Rule) (o : Opening) → rule_number rule ≡ n → o ≡ opening levels table rule → o ≡ opening_by levels table n
unfolding opening_by
named levels table n A o e s = rw (sym e) s
named levels table n B o e s = rw (sym e) s

unnamed : (levels table : List ℕ) (n : ℕ) (m : Misfit) (o : Opening) → m ≡ Misfit.Rule → 1 < n → o ≡ opening [] [] A → record { misfit = Some m; house = o.house } ≡ opening_by levels table n
unfolding opening_by opening wrong_count
unnamed levels table n m o e h s = rw (s, e, ne_eqb n 0 (λ z. omega arith), ne_eqb n 1 (λ z. omega arith))

pub returns-in-Ok : goal.returns-in-Ok
returns-in-Ok c = search (rules, named)

pub returns-in-Err : goal.returns-in-Err
returns-in-Err c = search (rules, unnamed)
