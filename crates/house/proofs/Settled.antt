-- The promises of the four conversions settle their outcomes: any two results that one allows for the same argument are equal.
-- `Reads.Post` is the contract as the checker reads it off the source, so this speaks of the promise itself.
-- Assumes nothing.
use Prim.Native.Nat.{ℕ, zero, suc, ◌<◌}
use native.Mathlib.Omega.{arith}
use mathlib.Core.Path.{◌≡◌, refl, sym, ap, ◌∙◌}
use borrow.Fn.World
use borrow.Fn.Kinds as Kinds'
use contract.Lifetimes
use denote.Triple.Clauses
use Rattle.std.specs.Prelude.{Result}
use Rattle.std.proofs.Common.{Ok, Err}
use Rattle.house.specs.declared.Misfit.{Misfit}
use Rattle.house.specs.declared.Operation.{Operation}
use Rattle.house.specs.declared.Refusal.{Refusal}
use Rattle.house.specs.declared.Rule.{Rule}
use Rattle.house.specs.declared.Rule.TheVariants.{A, B}
use Rattle.house.specs.Rules.{code, Decodes}
use Rattle.house.specs.Opening.{Names}
use Rattle.house.specs.contracts.OperationTryFromU8.try_from as operation
use Rattle.house.proofs.OperationTryFromU8.try_from.Kinds as operation_kinds
use Rattle.house.proofs.OperationTryFromU8.try_from.Reads as operation_reads
use Rattle.house.specs.contracts.RuleTryFromU8.try_from as rule
use Rattle.house.proofs.RuleTryFromU8.try_from.Kinds as rule_kinds
use Rattle.house.proofs.RuleTryFromU8.try_from.Reads as rule_reads
use Rattle.house.specs.contracts.U8FromRefusal.from as refusal
use Rattle.house.proofs.U8FromRefusal.from.Kinds as refusal_kinds
use Rattle.house.proofs.U8FromRefusal.from.Reads as refusal_reads
use Rattle.house.specs.contracts.U8FromMisfit.from as misfit
use Rattle.house.proofs.U8FromMisfit.from.Kinds as misfit_kinds
use Rattle.house.proofs.U8FromMisfit.from.Reads as misfit_reads

-- no two operations, and no two rules, have one number, and none has one past the last
abbrev operation_at : ℕ → Operation
operation_at zero = Operation.Begin
operation_at (suc zero) = Operation.Read
operation_at (suc (suc zero)) = Operation.Write
operation_at (suc (suc (suc zero))) = Operation.Certify
operation_at (suc (suc (suc (suc zero)))) = Operation.Commit
operation_at (suc (suc (suc (suc (suc zero))))) = Operation.Abort
operation_at (suc (suc (suc (suc (suc (suc n)))))) = Operation.Ask

coded : (o : Operation) → (operation_at (code o) ≡ o) × (code o < 7)
coded Operation.Begin = (refl, omega arith)
coded Operation.Read = (refl, omega arith)
coded Operation.Write = (refl, omega arith)
coded Operation.Certify = (refl, omega arith)
coded Operation.Commit = (refl, omega arith)
coded Operation.Abort = (refl, omega arith)
coded Operation.Ask = (refl, omega arith)

decoded : (n : ℕ) (r r' : Result Operation Refusal) → Decodes n r → Decodes n r' → r ≡ r'
decoded n (Ok o) (Ok o') p q = ap Ok (sym (coded o).0 ∙ ap operation_at (p ∙ sym q) ∙ (coded o').0)
decoded n (Ok o) (Err e) p q = absurd (omega (arith, (coded o).1, p, q.1))
decoded n (Err e) (Ok o) p q = absurd (omega (arith, (coded o).1, q, p.1))
decoded n (Err e) (Err e') p q = ap Err (p.0 ∙ sym q.0)

named : (n : ℕ) (r r' : Result Rule Misfit) → Names n r → Names n r' → r ≡ r'
named n (Ok A) (Ok A) p q = refl
named n (Ok B) (Ok B) p q = refl
named n (Ok A) (Ok B) p q = absurd (omega (arith, p, q))
named n (Ok B) (Ok A) p q = absurd (omega (arith, p, q))
named n (Ok A) (Err e) p q = absurd (omega (arith, p, q.1))
named n (Ok B) (Err e) p q = absurd (omega (arith, p, q.1))
named n (Err e) (Ok A) p q = absurd (omega (arith, q, p.1))
named n (Err e) (Ok B) p q = absurd (omega (arith, q, p.1))
named n (Err e) (Err e') p q = ap Err (p.0 ∙ sym q.0)

pub operation_settled : (κs : Lifetimes.Lfts 0) (a : World.ArgsD operation.signature κs) (r r' : World.ResD operation.signature κs) (s s' : Clauses.AtExit (Kinds'.ended_of 0 operation_kinds.ps operation_kinds.r) κs) → operation_reads.Post κs a r s → operation_reads.Post κs a r' s' → r ≡ r'
operation_settled κs a r r' s s' p q = decoded _ r r' p q

pub rule_settled : (κs : Lifetimes.Lfts 0) (a : World.ArgsD rule.signature κs) (r r' : World.ResD rule.signature κs) (s s' : Clauses.AtExit (Kinds'.ended_of 0 rule_kinds.ps rule_kinds.r) κs) → rule_reads.Post κs a r s → rule_reads.Post κs a r' s' → r ≡ r'
rule_settled κs a r r' s s' p q = named _ r r' p q

pub refusal_settled : (κs : Lifetimes.Lfts 0) (a : World.ArgsD refusal.signature κs) (r r' : World.ResD refusal.signature κs) (s s' : Clauses.AtExit (Kinds'.ended_of 0 refusal_kinds.ps refusal_kinds.r) κs) → refusal_reads.Post κs a r s → refusal_reads.Post κs a r' s' → r ≡ r'
refusal_settled κs a r r' s s' p q = p ∙ sym q

pub misfit_settled : (κs : Lifetimes.Lfts 0) (a : World.ArgsD misfit.signature κs) (r r' : World.ResD misfit.signature κs) (s s' : Clauses.AtExit (Kinds'.ended_of 0 misfit_kinds.ps misfit_kinds.r) κs) → misfit_reads.Post κs a r s → misfit_reads.Post κs a r' s' → r ≡ r'
misfit_settled κs a r r' s s' p q = p ∙ sym q
