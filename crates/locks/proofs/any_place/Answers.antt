use Rattle.house.proofs.Searches.{folds, fold_ends}
use Rattle.locks.proofs.any_place.Goals as goal

pub loop-p-preserved : goal.loop-p-preserved
loop-p-preserved g c = λ test e. folds test _ _ _ _ (c.loop-p.invariant test e) _ c.loop-p-test.true (e _ _ c.loop-p-test.true c.has-hit.ensures)

pub returns : goal.returns
returns g c = λ test e. fold_ends test _ _ _ _ (c.loop-p.invariant test e) c.loop-p-test.false
