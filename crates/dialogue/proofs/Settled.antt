-- The promises of a dialogue's functions settle their outcomes: any two that one allows for the same arguments are equal, lent
-- bytes too. `Reads.Post` is a contract as the checker reads it off the source.
-- Assumes nothing.
use mathlib.Core.Path.{◌≡◌, sym, ap, ◌∙◌}
use borrow.Fn.World
use borrow.Fn.Kinds as Kinds'
use contract.Lifetimes
use denote.Triple.Clauses
use Rattle.dialogue.specs.contracts.start
use Rattle.dialogue.proofs.start.Kinds as start_kinds
use Rattle.dialogue.proofs.start.Reads as start_reads
use Rattle.dialogue.specs.contracts.finish
use Rattle.dialogue.proofs.finish.Kinds as finish_kinds
use Rattle.dialogue.proofs.finish.Reads as finish_reads
use Rattle.dialogue.specs.contracts.refuse
use Rattle.dialogue.proofs.refuse.Kinds as refuse_kinds
use Rattle.dialogue.proofs.refuse.Reads as refuse_reads
use Rattle.dialogue.specs.contracts.feed
use Rattle.dialogue.proofs.feed.Kinds as feed_kinds
use Rattle.dialogue.proofs.feed.Reads as feed_reads
use Rattle.dialogue.specs.contracts.hear
use Rattle.dialogue.proofs.hear.Kinds as hear_kinds
use Rattle.dialogue.proofs.hear.Reads as hear_reads

pub start_settled : (κs : Lifetimes.Lfts 0) (a : World.ArgsD start.signature κs) (r r' : World.ResD start.signature κs) (s s' : Clauses.AtExit (Kinds'.ended_of 0 start_kinds.ps start_kinds.r) κs) → start_reads.Post κs a r s → start_reads.Post κs a r' s' → r ≡ r'
start_settled κs a r r' s s' p q = p ∙ sym q

pub finish_settled : (κs : Lifetimes.Lfts 0) (a : World.ArgsD finish.signature κs) (r r' : World.ResD finish.signature κs) (s s' : Clauses.AtExit (Kinds'.ended_of 0 finish_kinds.ps finish_kinds.r) κs) → finish_reads.Post κs a r s → finish_reads.Post κs a r' s' → r ≡ r'
finish_settled κs a r r' s s' p q = p ∙ sym q

pub refuse_settled : (κs : Lifetimes.Lfts 0) (a : World.ArgsD refuse.signature κs) (r r' : World.ResD refuse.signature κs) (s s' : Clauses.AtExit (Kinds'.ended_of 0 refuse_kinds.ps refuse_kinds.r) κs) → refuse_reads.Post κs a r s → refuse_reads.Post κs a r' s' → r ≡ r'
refuse_settled κs a r r' s s' p q = p ∙ sym q

-- the replies too
pub feed_settled : (κs : Lifetimes.Lfts 2) (a : World.ArgsD feed.signature κs) (r r' : World.ResD feed.signature κs) (s s' : Clauses.AtExit (Kinds'.ended_of 2 feed_kinds.ps feed_kinds.r) κs) → feed_reads.Post κs a r s → feed_reads.Post κs a r' s' → (r ≡ r') × (s.1.1.0.now ≡ s'.1.1.0.now)
feed_settled κs a r r' s s' p q = (ap (λ x. x.0) (p ∙ sym q), ap (λ x. x.1) (p ∙ sym q))

-- the buffer and the replies too
pub hear_settled : (κs : Lifetimes.Lfts 2) (a : World.ArgsD hear.signature κs) (r r' : World.ResD hear.signature κs) (s s' : Clauses.AtExit (Kinds'.ended_of 2 hear_kinds.ps hear_kinds.r) κs) → hear_reads.Post κs a r s → hear_reads.Post κs a r' s' → (r ≡ r') × (s.1.0.now ≡ s'.1.0.now) × (s.1.1.1.1.0.now ≡ s'.1.1.1.1.0.now)
hear_settled κs a r r' s s' p q = let e = p ∙ sym q in (ap (λ x. x.0) e, ap (λ x. x.1) e, ap (λ x. x.2) e)
