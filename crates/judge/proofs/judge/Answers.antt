-- The ruling is `shown_ruled`, which is `Judged` (`judged`); each return is `search followed`, which goes through it as the code went through its
-- tests. That the place found is there: `low`, `sought`, `placed`.
use borrow.Author.Rules.{rules}
use Rattle.house.proofs.Branches.{followed}
use Rattle.ruling.proofs.Judged.{shown_ruled, judged}
use Rattle.judge.proofs.Laws.{named, nameless, begins, low, sought, placed, place_fits, eighth_fits}
use Rattle.judge.proofs.judge.Goals as goal

pub returns-in-Err : goal.returns-in-Err
unfolding shown_ruled
returns-in-Err c = search (nameless, judged, c.in-Err.ensures) depth 20

pub returns-then-no_level : goal.returns-then-no_level
unfolding shown_ruled
returns-then-no_level c = search (followed, named, judged, c.in-Ok.ensures) depth 20

pub returns-then-unused_set : goal.returns-then-unused_set
unfolding shown_ruled
returns-then-unused_set c = search (followed, named, judged, c.in-Ok.ensures) depth 20

pub judge_begin-requires : goal.judge_begin-requires
judge_begin-requires c = search (rules, low)

pub returns-then-eq : goal.returns-then-eq
unfolding shown_ruled
returns-then-eq c = search (followed, named, begins, judged, c.in-Ok.ensures) depth 20

pub returns-in_default : goal.returns-in_default
unfolding shown_ruled
returns-in_default c = search (followed, named, begins, judged, c.in-Ok.ensures) depth 20

pub offset_bounds-eight-k : goal.offset_bounds-eight-k
offset_bounds-eight-k c = search (sought, eighth_fits)

pub bounds-eight-k : goal.bounds-eight-k
bounds-eight-k c = search (rules, sought)

pub overflow_add-me : goal.overflow_add-me
overflow_add-me c = search (low, sought, place_fits)

pub invariant_of-judge_known-clause-named : goal.invariant_of-judge_known-clause-named
invariant_of-judge_known-clause-named c = c.in-Ok.ensures

pub invariant_of-judge_known-clause-there : goal.invariant_of-judge_known-clause-there
invariant_of-judge_known-clause-there c = search (low, sought, placed)

pub returns : goal.returns
unfolding shown_ruled
returns c = search (followed, named, begins, judged, c.in-Ok.ensures) depth 20
