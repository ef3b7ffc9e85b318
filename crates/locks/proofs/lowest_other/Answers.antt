use Rattle.locks.proofs.Laws.{none_holds}
use Rattle.locks.proofs.lowest_other.Goals as goal

pub returns-then-not-other_has : goal.returns-then-not-other_has
returns-then-not-other_has g c = λ test e. none_holds _ _ (c.other_has.ensures test e) c.if-not-other_has.true
