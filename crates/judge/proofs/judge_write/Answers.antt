-- Each return is `search (followed, certified_is)`: it goes through `write_checks` as the code went through its tests, wherever those stand. A check that is
-- inserted brings its own goal and moves no other.
use Rattle.house.proofs.Branches.{followed}
use Rattle.judge.proofs.Laws.{certified_is, held, unheld, listed}
use Rattle.ruling.specs.Judged.{write_ruled}
use Rattle.judge.proofs.judge_write.Goals as goal

pub returns-then-lacks_item : goal.returns-then-lacks_item
unfolding write_ruled
returns-then-lacks_item c = search followed depth 20

pub returns-then-x-q : goal.returns-then-x-q
unfolding write_ruled
returns-then-x-q c = search followed depth 20

pub returns-then-q-eq0 : goal.returns-then-q-eq0
unfolding write_ruled
returns-then-q-eq0 c = search followed depth 20

pub returns-then-is_signalled : goal.returns-then-is_signalled
unfolding write_ruled
returns-then-is_signalled c = search followed depth 20

pub returns-then-eq : goal.returns-then-eq
unfolding write_ruled
returns-then-eq c = search (followed, certified_is) depth 20

pub returns-then-x-ge4294967295 : goal.returns-then-x-ge4294967295
unfolding write_ruled
returns-then-x-ge4294967295 c = search (followed, certified_is) depth 20

pub returns-in-Some : goal.returns-in-Some
unfolding write_ruled
returns-in-Some c = search (followed, certified_is, held, listed) depth 20

pub returns : goal.returns
unfolding write_ruled
returns c = search (followed, certified_is, unheld, listed) depth 20
