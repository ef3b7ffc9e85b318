use Rattle.std.proofs.Common.{rules, tests, ltb, sym, ◌∙◌}
use Rattle.std.proofs.lemmas.Iterator.{YieldsList-from_slice}
use Rattle.std.proofs.lemmas.Iterator.Search.{any_from_yields_List}
use Rattle.house.specs.Opening.{high_at, wrong_level}
use Rattle.opening.proofs.Laws.{any_listed}
use Rattle.opening.proofs.has_wrong_level.Goals as goal

pub returns : goal.returns
unfolding high_at wrong_level
returns c = any_from_yields_List (ltb 3) _ _ _ c.any.ensures.ran (YieldsList-from_slice c.args.levels.now cc) (λ x b q k. search (rules, tests)) ∙ sym (any_listed (ltb 3) c.args.levels.now)
