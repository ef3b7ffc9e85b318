use Rattle.house.proofs.Branches.{followed}
use Rattle.judge.proofs.Laws.{active_is}
use Rattle.ruling.specs.Judged.{commit_ruled}
use Rattle.judge.proofs.judge_commit.Goals as goal

pub returns-then-is_signalled : goal.returns-then-is_signalled
unfolding commit_ruled
returns-then-is_signalled c = search followed

pub returns-then-eq : goal.returns-then-eq
unfolding commit_ruled
returns-then-eq c = search (followed, active_is)

pub returns : goal.returns
unfolding commit_ruled
returns c = search (followed, active_is)
