use mathlib.Core.Path.{◌≡◌}
use Rattle.desk.specs.Turn.{housed, written}
use Rattle.desk.proofs.serve.Given as goal

abbrev pub invariant-loop-n : goal.invariant-loop-n
invariant-loop-n g l = (l.h ≡ housed l.n l.fn.h l.requests) × (l.replies ≡ written l.n l.fn.h l.requests l.initial.replies)
