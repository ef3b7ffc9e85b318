use Rattle.std.proofs.Common.{ℕ, ◌-◌, ◌≡◌, Bool, ◌||◌}
use Rattle.house.specs.Search.{any}
use Rattle.locks.specs.Others.{Tests}
use Rattle.locks.proofs.any_place.Given as goal

abbrev pub invariant-loop-p : goal.invariant-loop-p
invariant-loop-p g l = (test : ℕ → Bool) → Tests (goal.F-post g l.has) test l.end → any test l.from (l.end - l.from) ≡ (l.hit || any test l.p (l.end - l.p))
