use native.Mathlib.Nat.{mod-eq_of_lt}
use Rattle.house.specs.Cell.{is_signalled}
use Rattle.judge.proofs.is_signalled.Goals as goal

pub returns : goal.returns
unfolding is_signalled
returns c = rw (mod-eq_of_lt c.requires) at c.holds_any.ensures
