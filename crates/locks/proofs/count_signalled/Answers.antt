use Rattle.std.proofs.Common.{◌∙◌, sym, ap}
use Rattle.std.specs.List.{count_by}
use Rattle.std.proofs.lemmas.List.{take_all}
use Rattle.std.proofs.lemmas.List.Sums.{length-filter}
use Rattle.house.specs.Cell.{has, holds, cell_at, count_signalled}
use Rattle.house.specs.declared.Mark.TheVariants.{Signalled}
use Rattle.parts.proofs.Scans.{own_count}
use Rattle.locks.proofs.count_signalled.Goals as goal

pub returns : goal.returns
unfolding count_signalled holds cell_at
returns c =
    c.loop-c.invariant
    ∙ ap (count_by (has Signalled)) (take_all _ _ c.loop-c-test.false ∙ c.own_cells-c-items.ensures)
    ∙ sym (length-filter (has Signalled) _)
    ∙ own_count _ c.args.me c.told-cells (has Signalled)
