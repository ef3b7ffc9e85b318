use Rattle.std.proofs.Common.{refl}
use Rattle.house.proofs.Searches.{goes_on, stops, ends}
use Rattle.locks.proofs.lowest_below.Goals as goal

pub returns-then-has : goal.returns-then-has
returns-then-has g c = λ test e. stops test _ _ _ _ _ (c.loop-p.invariant test e) _ _ c.loop-p-test.true (e _ _ c.loop-p-test.true c.has.ensures) c.if-has.true refl

pub loop-p-preserved : goal.loop-p-preserved
loop-p-preserved g c = λ test e. goes_on test _ _ _ _ _ (c.loop-p.invariant test e) _ c.loop-p-test.true (e _ _ c.loop-p-test.true c.has.ensures) c.if-has.false

pub returns : goal.returns
returns g c = λ test e. ends test _ _ _ _ _ (c.loop-p.invariant test e) _ c.loop-p-test.false refl
