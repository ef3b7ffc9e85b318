-- Each arm is `search arm`, which goes by the operation that the arm is of. An arm that is inserted brings its own goal and moves no other.
use Rattle.judge.proofs.Laws.{granted, asked, arm, asks}
use Rattle.judge.proofs.judge_known.Goals as goal

pub returns-in-Read : goal.returns-in-Read
returns-in-Read c = search arm

pub returns-in-Write : goal.returns-in-Write
returns-in-Write c = search arm

pub returns-in-Certify : goal.returns-in-Certify
returns-in-Certify c = search arm

pub returns-in-Commit : goal.returns-in-Commit
returns-in-Commit c = search arm

pub returns-in-Abort : goal.returns-in-Abort
returns-in-Abort c = search arm

pub returns-in-Begin : goal.returns-in-Begin
returns-in-Begin c = search (asks, granted, asked)
