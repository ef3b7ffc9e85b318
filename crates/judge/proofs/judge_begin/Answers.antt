use Rattle.house.proofs.Branches.{followed}
use Rattle.ruling.specs.Judged.{begin_ruled}
use Rattle.judge.proofs.Laws.{freed, place_fits}
use Rattle.judge.proofs.judge_begin.Goals as goal

pub returns-in_default : goal.returns-in_default
unfolding begin_ruled
returns-in_default c = search followed

pub returns-then-ticket-eq0 : goal.returns-then-ticket-eq0
unfolding begin_ruled
returns-then-ticket-eq0 c = search followed

pub overflow_add-me : goal.overflow_add-me
overflow_add-me c = search (freed, place_fits)

pub returns : goal.returns
unfolding begin_ruled
returns c = search followed
