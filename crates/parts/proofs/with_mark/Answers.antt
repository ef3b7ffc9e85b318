use Rattle.house.proofs.Branches.{followed}
use Rattle.house.specs.Cell.{marked}
use Rattle.parts.proofs.Marks.{room_for, added}
use Rattle.parts.proofs.with_mark.Goals as goal

pub overflow_add-result : goal.overflow_add-result
overflow_add-result c = search room_for

pub returns-then-has_mark : goal.returns-then-has_mark
unfolding marked
returns-then-has_mark c = search followed

pub returns-else-has_mark : goal.returns-else-has_mark
returns-else-has_mark c = search added
