use Rattle.std.proofs.Common.{ℕ, ◌-◌, ◌≡◌, Bool}
use Rattle.house.specs.Search.{find}
use Rattle.locks.specs.Others.{Tests}
use Rattle.locks.proofs.lowest_below.Given as goal

abbrev pub invariant-loop-p : goal.invariant-loop-p
invariant-loop-p g l = (test : ℕ → Bool) → Tests (goal.F-post g l.has) test l.end → find test 0 l.end ≡ find test l.p (l.end - l.p)
