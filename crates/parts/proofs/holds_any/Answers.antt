use Rattle.std.proofs.Common.{◌∙◌, rules, ◌||◌, tests}
use Rattle.std.proofs.lemmas.Iterator.{YieldsList-from_slice}
use Rattle.std.proofs.lemmas.Iterator.Consumers.{fold_from_yields_List}
use Rattle.house.specs.Cell.{has, holds, cell_at}
use Rattle.parts.proofs.Scans.{own, own_any}
use Rattle.parts.proofs.holds_any.Goals as goal

pub returns : goal.returns
unfolding holds cell_at
returns c =
    fold_from_yields_List {all = own c.args.cells.now c.args.me} _ (λ hit b. hit || has c.args.m b) _ _ c.fold.ensures.ran (YieldsList-from_slice _ (c.iter.ensures.rest ∙ search rules)) (λ a x b q k. search (rules, tests))
    ∙ own_any _ c.args.me c.told-cells (has c.args.m)
