use Rattle.house.specs.Rules.{unused_set}
use Rattle.judge.proofs.Laws.{same_begin, same_read, same_write}
use Rattle.judge.proofs.unused_set.Goals as goal

pub returns : goal.returns
unfolding unused_set
returns c = rw (c.eq-begins.ensures, c.eq-reads.ensures, c.eq-writes.ensures, same_begin, same_read, same_write, c.requires)
