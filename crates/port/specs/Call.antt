-- What a caller in C opens. It names the rule by a number: "0 for A, 1 for B. Another rule .. gets 28, .. before 13" (CR 14).
-- Assumes nothing.
use Rattle.std.specs.Prelude.{ℕ, cond, List, [], Some, eqb}
use Rattle.house.specs.declared.Misfit.TheVariants as Misfit
use Rattle.house.specs.declared.Opening.{Opening}
use Rattle.house.specs.declared.Rule.TheVariants.{A, B}
use Rattle.house.specs.Order.{old_chain}
use Rattle.house.specs.Opening.{opened, opening}

-- refused, it yields the house that any refused opening does
unfoldable pub opening_by : List ℕ → List ℕ → ℕ → Opening
opening_by levels order rule =
    cond (eqb rule 0) (opening levels order A)
    (cond (eqb rule 1) (opening levels order B)
    (record { misfit = Some Misfit.Rule; house = opened [] old_chain A }))
