use Rattle.std.proofs.Common.{rules, tests, refl, sym, ◌∙◌}
use Rattle.std.proofs.lemmas.Iterator.{YieldsList-from_range}
use Rattle.std.proofs.lemmas.Iterator.Search.{any_from_yields_List}
use Rattle.house.specs.Order.{wrong_at, disordered}
use Rattle.opening.proofs.Laws.{any_ranged}
use Rattle.opening.proofs.is_disordered.Goals as goal

pub returns : goal.returns
unfolding disordered
returns c =
    any_from_yields_List (wrong_at c.args.order) _ _ _ c.any.ensures.ran (YieldsList-from_range _ _ 64 refl refl) (λ x b q k. search (rules, tests)) ∙ sym (any_ranged (wrong_at c.args.order) 0 64)
