-- Each promise settles its outcome: any two results that it allows for the same arguments are equal.
-- `Reads.Post` is the contract as the checker reads it off the source.
-- Assumes nothing.
use mathlib.Core.Path.{◌≡◌, sym, ◌∙◌}
use borrow.Fn.Kinds as Kinds'
use borrow.Fn.World
use contract.Lifetimes
use denote.Triple.Clauses
use Rattle.locks.specs.contracts.read_holder as read_holder
use Rattle.locks.proofs.read_holder.Kinds as read_holder_kinds
use Rattle.locks.proofs.read_holder.Reads as read_holder_reads
use Rattle.locks.specs.contracts.write_holder as write_holder
use Rattle.locks.proofs.write_holder.Kinds as write_holder_kinds
use Rattle.locks.proofs.write_holder.Reads as write_holder_reads
use Rattle.locks.specs.contracts.certify_holder as certify_holder
use Rattle.locks.proofs.certify_holder.Kinds as certify_holder_kinds
use Rattle.locks.proofs.certify_holder.Reads as certify_holder_reads
use Rattle.locks.specs.contracts.answer_read as answer_read
use Rattle.locks.proofs.answer_read.Kinds as answer_read_kinds
use Rattle.locks.proofs.answer_read.Reads as answer_read_reads
use Rattle.locks.specs.contracts.answer_ask as answer_ask
use Rattle.locks.proofs.answer_ask.Kinds as answer_ask_kinds
use Rattle.locks.proofs.answer_ask.Reads as answer_ask_reads

pub read_holder_settled : (κs : Lifetimes.Lfts 1) (a : World.ArgsD read_holder.signature κs) (r r' : World.ResD read_holder.signature κs) (s s' : Clauses.AtExit (Kinds'.ended_of 1 read_holder_kinds.ps read_holder_kinds.r) κs) → read_holder_reads.Post κs a r s → read_holder_reads.Post κs a r' s' → r ≡ r'
read_holder_settled κs a r r' s s' p q = p ∙ sym q

pub write_holder_settled : (κs : Lifetimes.Lfts 1) (a : World.ArgsD write_holder.signature κs) (r r' : World.ResD write_holder.signature κs) (s s' : Clauses.AtExit (Kinds'.ended_of 1 write_holder_kinds.ps write_holder_kinds.r) κs) → write_holder_reads.Post κs a r s → write_holder_reads.Post κs a r' s' → r ≡ r'
write_holder_settled κs a r r' s s' p q = p ∙ sym q

pub certify_holder_settled : (κs : Lifetimes.Lfts 1) (a : World.ArgsD certify_holder.signature κs) (r r' : World.ResD certify_holder.signature κs) (s s' : Clauses.AtExit (Kinds'.ended_of 1 certify_holder_kinds.ps certify_holder_kinds.r) κs) → certify_holder_reads.Post κs a r s → certify_holder_reads.Post κs a r' s' → r ≡ r'
certify_holder_settled κs a r r' s s' p q = p ∙ sym q

pub answer_read_settled : (κs : Lifetimes.Lfts 1) (a : World.ArgsD answer_read.signature κs) (r r' : World.ResD answer_read.signature κs) (s s' : Clauses.AtExit (Kinds'.ended_of 1 answer_read_kinds.ps answer_read_kinds.r) κs) → answer_read_reads.Post κs a r s → answer_read_reads.Post κs a r' s' → r ≡ r'
answer_read_settled κs a r r' s s' p q = p ∙ sym q

pub answer_ask_settled : (κs : Lifetimes.Lfts 1) (a : World.ArgsD answer_ask.signature κs) (r r' : World.ResD answer_ask.signature κs) (s s' : Clauses.AtExit (Kinds'.ended_of 1 answer_ask_kinds.ps answer_ask_kinds.r) κs) → answer_ask_reads.Post κs a r s → answer_ask_reads.Post κs a r' s' → r ≡ r'
answer_ask_settled κs a r r' s s' p q = p ∙ sym q
