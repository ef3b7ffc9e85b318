-- Each return is `search (followed, certified_is)`: it goes through `read_checks` as the code went through its tests, wherever those stand. A check that is
-- inserted brings its own goal and moves no other.
use Rattle.house.proofs.Branches.{followed}
use Rattle.judge.proofs.Laws.{certified_is, allowed, forbidden, held, unheld, shown, granted, listed}
use Rattle.ruling.specs.Judged.{read_ruled}
use Rattle.judge.proofs.judge_read.Goals as goal

pub returns-then-lacks_item : goal.returns-then-lacks_item
unfolding read_ruled
returns-then-lacks_item c = search followed depth 20

pub returns-then-not-dominates : goal.returns-then-not-dominates
unfolding read_ruled
returns-then-not-dominates c = search (followed, forbidden) depth 20

pub returns-then-is_signalled : goal.returns-then-is_signalled
unfolding read_ruled
returns-then-is_signalled c = search (followed, allowed) depth 20

pub returns-then-eq : goal.returns-then-eq
unfolding read_ruled
returns-then-eq c = search (followed, certified_is, allowed) depth 20

pub returns-in-Some : goal.returns-in-Some
unfolding read_ruled
returns-in-Some c = search (followed, certified_is, allowed, held, listed) depth 20

pub returns : goal.returns
unfolding read_ruled
returns c = search (followed, certified_is, allowed, unheld, shown, granted, listed) depth 20 fits 20000
