-- Which operation a request names, as cases. A proof that goes operation by operation goes by these.
-- Assumes nothing.
use Prim.Native.Nat.{ℕ, zero, suc, ◌<◌}
use native.Mathlib.Omega.{arith}
use mathlib.Core.Path.{◌≡◌, refl, sym, ◌∙◌}
use mathlib.Core.Logic.{◌≢◌}
use mathlib.Core.Bool.{false}
use borrow.Author.Tests.{ltb-false}
use Rattle.house.specs.declared.Request.{Request}
use Rattle.house.specs.Rules.{begin, read, write, certify, commit, abort, ask, no_operation}

pub data OperationOf (q : Request) : Type 0 where
  is_begin : q.operation ≡ begin → OperationOf q
  is_read : q.operation ≡ read → OperationOf q
  is_write : q.operation ≡ write → OperationOf q
  is_certify : q.operation ≡ certify → OperationOf q
  is_commit : q.operation ≡ commit → OperationOf q
  is_abort : q.operation ≡ abort → OperationOf q
  is_ask : q.operation ≡ ask → OperationOf q

of_number : {q : Request} (n : ℕ) → q.operation ≡ n → n < 7 → OperationOf q
of_number zero e b = is_begin e
of_number (suc zero) e b = is_read e
of_number (suc (suc zero)) e b = is_write e
of_number (suc (suc (suc zero))) e b = is_certify e
of_number (suc (suc (suc (suc zero)))) e b = is_commit e
of_number (suc (suc (suc (suc (suc zero))))) e b = is_abort e
of_number (suc (suc (suc (suc (suc (suc zero)))))) e b = is_ask e
of_number (suc (suc (suc (suc (suc (suc (suc n))))))) e b = absurd (omega arith)

pub operation_of : (q : Request) → no_operation q ≡ false → OperationOf q
unfolding no_operation
operation_of q n = of_number q.operation refl (omega (arith, ltb-false 6 q.operation n))

-- the number of any other
pub not_begin : {k n : ℕ} → k ≡ suc n → k ≢ begin
not_begin o b = let e = sym o ∙ b in absurd (omega arith)
