-- What a request comes to: refused, delayed, or done.
-- Assumes nothing.
use Prim.Native.Nat.{ℕ}
use native.Mathlib.Omega.{arith}
use mathlib.Core.Path.{◌≡◌, ◌∙◌}
use mathlib.Core.Logic.{◌≢◌}
use borrow.Author.Tests.{ne_eqb}
use Rattle.house.specs.declared.Answer.TheVariants.{Refused}
use Rattle.std.specs.Prelude.{Some, None}
use Rattle.house.specs.declared.House.{House}
use Rattle.house.specs.declared.Request.{Request}
use Rattle.house.specs.Checks.{foremost}
use Rattle.house.specs.Rules.{holder, delayed, refusals, verdict, outcome, performed, named, unserved, stepped}
use Rattle.house.proofs.Checks.{refusal_not_delay, verdict_is}

-- a refusal comes before a delay
pub first_refused : (h : House) (q : Request) → foremost (refusals h q) ≢ 0 → verdict h q ≡ foremost (refusals h q)
first_refused h q n = verdict_is h q ∙ rw (ne_eqb (foremost (refusals h q)) 0 n)

-- the answer of a step: not done, and of these refused and delayed; done
pub unserved_is : (h : House) (q : Request) (n : ℕ) → verdict h q ≡ n → n ≢ 0 → stepped h q ≡ outcome h q (unserved h q n)
unfolding stepped
unserved_is h q n v z = rw (v, ne_eqb n 0 z)

pub refused_is : (h : House) (q : Request) → foremost (refusals h q) ≢ 0 → stepped h q ≡ outcome h q (Refused (foremost (refusals h q)))
unfolding unserved
refused_is h q n = unserved_is h q _ (first_refused h q n) n ∙ rw (refusal_not_delay h q)

pub waits_is : (h : House) (q : Request) (p : ℕ) → foremost (refusals h q) ≡ 0 → holder h q ≡ Some p → stepped h q ≡ outcome h q (named h p)
unfolding unserved delayed
waits_is h q p z e = unserved_is h q 1 (verdict_is h q ∙ rw (z, e)) (λ n. omega arith) ∙ rw e

pub done_is : (h : House) (q : Request) → verdict h q ≡ 0 → stepped h q ≡ performed h q
unfolding stepped
done_is h q e = rw e

pub free_is : (h : House) (q : Request) → foremost (refusals h q) ≡ 0 → holder h q ≡ None → stepped h q ≡ performed h q
unfolding delayed
free_is h q z e = done_is h q (verdict_is h q ∙ rw (z, e))
