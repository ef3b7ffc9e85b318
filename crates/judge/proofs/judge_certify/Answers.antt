use Rattle.house.proofs.Branches.{followed}
use Rattle.judge.proofs.Laws.{certified_is, certify_held}
use Rattle.ruling.specs.Judged.{certify_ruled}
use Rattle.judge.proofs.judge_certify.Goals as goal

pub returns-then-is_signalled : goal.returns-then-is_signalled
unfolding certify_ruled
returns-then-is_signalled c = search followed

pub returns-then-eq : goal.returns-then-eq
unfolding certify_ruled
returns-then-eq c = search (followed, certified_is)

pub returns-in-Some : goal.returns-in-Some
unfolding certify_ruled
returns-in-Some c = search (followed, certified_is, certify_held)

pub returns : goal.returns
unfolding certify_ruled
returns c = search (followed, certified_is, certify_held)
