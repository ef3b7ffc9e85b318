use Rattle.std.proofs.Common.{◌∙◌, rules, tests}
use Rattle.std.proofs.lemmas.Iterator.{YieldsList-from_slice}
use Rattle.std.proofs.lemmas.Iterator.Search.{position_from_yields_List}
use Rattle.house.specs.Cell.{has, holds, cell_at, first_signalled}
use Rattle.house.specs.declared.Mark.TheVariants.{Signalled}
use Rattle.parts.proofs.Scans.{own_position}
use Rattle.locks.proofs.first_signalled.Goals as goal

pub returns : goal.returns
unfolding first_signalled holds cell_at
returns c =
    position_from_yields_List (has Signalled) _ _ _ c.position.ensures.ran (YieldsList-from_slice _ (c.iter.ensures.rest ∙ c.own_cells.ensures)) (λ x b q k. search (rules, tests))
    ∙ own_position _ c.args.me c.told-cells (has Signalled)
