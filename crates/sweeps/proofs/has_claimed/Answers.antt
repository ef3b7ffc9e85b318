use Rattle.std.proofs.Common.{◌∙◌, rules, ◌||◌, tests}
use Rattle.std.proofs.lemmas.Iterator.{YieldsList-from_slice}
use Rattle.std.proofs.lemmas.Iterator.Consumers.{fold_from_yields_List}
use Rattle.house.specs.Cell.{has, holds, cell_at}
use Rattle.house.specs.Rules.{wrote}
use Rattle.house.specs.declared.Mark.TheVariants.{Write, Certify}
use Rattle.parts.proofs.Scans.{own_any}
use Rattle.sweeps.proofs.has_claimed.Goals as goal

pub returns : goal.returns
unfolding wrote holds cell_at
returns c =
    fold_from_yields_List _ (λ hit b. hit || (has Write b || has Certify b)) _ _ c.fold.ensures.ran (YieldsList-from_slice _ (c.iter.ensures.rest ∙ c.own_cells.ensures)) (λ a x b q k. search (rules, tests))
    ∙ own_any _ c.args.me c.told-cells (λ b. has Write b || has Certify b)
