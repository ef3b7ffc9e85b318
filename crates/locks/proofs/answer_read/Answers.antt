use Rattle.house.proofs.Branches.{followed}
use Rattle.house.specs.Rules.{read_answer}
use Rattle.locks.proofs.Laws.{seen}
use Rattle.locks.proofs.answer_read.Goals as goal

pub returns-then-has_mark : goal.returns-then-has_mark
unfolding read_answer
returns-then-has_mark c = search (followed, seen)

pub returns : goal.returns
unfolding read_answer
returns c = search (followed, seen)
