use Rattle.std.proofs.Common.{rules, get_or}
use Rattle.house.specs.House.{blank}
use Rattle.house.specs.Opening.{unsaved}
use Rattle.opening.proofs.Laws.{given, made_rows}
use Rattle.opening.proofs.all_rows.Goals as goal

pub returns : goal.returns
returns c =
    let items = c.from_fn.ensures.items in
    made_rows c.args.levels.now _ items.long (given _ _ (λ i. unsaved (get_or c.args.levels.now i 0)) (λ i item q k. search rules) _ blank 64 items)
