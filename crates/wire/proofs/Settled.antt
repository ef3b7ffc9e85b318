-- Each promise settles what it gives: any two results that it allows for the same bytes, or for the same request or reply, are
-- equal. `Reads.Post` is the contract as the checker reads it off the source.
-- Assumes nothing.
use mathlib.Core.Path.{◌≡◌, sym, ◌∙◌}
use borrow.Fn.World
use borrow.Fn.Kinds as Kinds'
use contract.Lifetimes
use denote.Triple.Clauses
use Rattle.wire.specs.contracts.decode
use Rattle.wire.proofs.decode.Kinds as decode_kinds
use Rattle.wire.proofs.decode.Reads as decode_reads
use Rattle.wire.specs.contracts.encode_request as encode_request
use Rattle.wire.proofs.encode_request.Kinds as encode_request_kinds
use Rattle.wire.proofs.encode_request.Reads as encode_request_reads
use Rattle.wire.specs.contracts.encode
use Rattle.wire.proofs.encode.Kinds as encode_kinds
use Rattle.wire.proofs.encode.Reads as encode_reads

pub decode_settled : (κs : Lifetimes.Lfts 0) (a : World.ArgsD decode.signature κs) (r r' : World.ResD decode.signature κs) (s s' : Clauses.AtExit (Kinds'.ended_of 0 decode_kinds.ps decode_kinds.r) κs) → decode_reads.Post κs a r s → decode_reads.Post κs a r' s' → r ≡ r'
decode_settled κs a r r' s s' p q = p ∙ sym q

pub encode_request_settled : (κs : Lifetimes.Lfts 0) (a : World.ArgsD encode_request.signature κs) (r r' : World.ResD encode_request.signature κs) (s s' : Clauses.AtExit (Kinds'.ended_of 0 encode_request_kinds.ps encode_request_kinds.r) κs) → encode_request_reads.Post κs a r s → encode_request_reads.Post κs a r' s' → r ≡ r'
encode_request_settled κs a r r' s s' p q = p ∙ sym q

pub encode_settled : (κs : Lifetimes.Lfts 0) (a : World.ArgsD encode.signature κs) (r r' : World.ResD encode.signature κs) (s s' : Clauses.AtExit (Kinds'.ended_of 0 encode_kinds.ps encode_kinds.r) κs) → encode_reads.Post κs a r s → encode_reads.Post κs a r' s' → r ≡ r'
encode_settled κs a r r' s s' p q = p ∙ sym q
