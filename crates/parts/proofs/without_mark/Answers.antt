use Rattle.house.proofs.Branches.{followed}
use Rattle.house.specs.Cell.{unmarked}
use Rattle.parts.proofs.Marks.{not_more, taken}
use Rattle.parts.proofs.without_mark.Goals as goal

pub overflow_sub-result : goal.overflow_sub-result
overflow_sub-result c = search not_more

pub returns-then-has_mark : goal.returns-then-has_mark
returns-then-has_mark c = search taken

pub returns-else-has_mark : goal.returns-else-has_mark
unfolding unmarked
returns-else-has_mark c = search followed
