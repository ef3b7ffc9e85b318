-- Both ways on the wire: what was sent is what is read, and any bytes are those of what is read from them.
-- Assumes nothing. Proved in proofs/RoundTrip.antt.
use Rattle.std.specs.Prelude.{ℕ, ◌<◌, ◌≡◌, List, length, get_or}
use Rattle.house.specs.declared.Reply.{Reply}
use Rattle.house.specs.declared.Request.{Request}
use Rattle.wire.specs.Wire.{request_at, request_bytes, reply_at, reply_bytes}

-- the fields fit their bytes
pub record FitRequest (q : Request) : Type 0 where
  pub item : q.item < 65536
  pub ticket : q.ticket < 4294967296
  pub value : q.value < 4294967296

pub record FitReply (r : Reply) : Type 0 where
  pub item : r.item < 65536
  pub ticket : r.ticket < 4294967296
  pub value : r.value < 4294967296
  pub version : r.version < 4294967296

-- n bytes
pub record Bytes (n : ℕ) (b : List ℕ) : Type 0 where
  pub length : length b ≡ n
  pub small : (k : ℕ) → get_or b k 0 < 256

abbrev pub RequestReadBack : Type 0
RequestReadBack = (q : Request) → FitRequest q → request_at (request_bytes q) 0 ≡ q

abbrev pub RequestSentAgain : Type 0
RequestSentAgain = (b : List ℕ) → Bytes 12 b → request_bytes (request_at b 0) ≡ b

abbrev pub ReplyReadBack : Type 0
ReplyReadBack = (r : Reply) → FitReply r → reply_at (reply_bytes r) 0 ≡ r

abbrev pub ReplySentAgain : Type 0
ReplySentAgain = (b : List ℕ) → Bytes 16 b → reply_bytes (reply_at b 0) ≡ b
