-- Requests and replies on the wire. "Numbers are little-endian. A request is 12 bytes: operation (1), level (1), item (2),
-- ticket (4), value (4). A reply is 16 bytes: number (1), operation (1), item (2), ticket (4), value (4), version (4)."
-- Assumes nothing.
use Rattle.std.specs.Prelude.{ℕ, ◌+◌, ◌*◌, ◌/◌, ◌%◌, List, [], ◌∷◌, get_or}
use Rattle.house.specs.declared.Reply.{Reply}
use Rattle.house.specs.declared.Request.{Request}

-- the number of two bytes that starts at o, and that of four
abbrev pub two : List ℕ → ℕ → ℕ
two b o = get_or b o 0 + get_or b (o + 1) 0 * 256

abbrev pub four : List ℕ → ℕ → ℕ
four b o = two b o + two b (o + 2) * 65536

-- the bytes of a number of two, and of one of four, before others
abbrev pub two_bytes : ℕ → List ℕ → List ℕ
two_bytes n rest = n % 256 ∷ n / 256 % 256 ∷ rest

abbrev pub four_bytes : ℕ → List ℕ → List ℕ
four_bytes n rest = n % 256 ∷ n / 256 % 256 ∷ n / 65536 % 256 ∷ n / 16777216 % 256 ∷ rest

-- the request that starts at o
unfoldable pub request_at : List ℕ → ℕ → Request
request_at b o = record { operation = get_or b o 0; level = get_or b (o + 1) 0; item = two b (o + 2); ticket = four b (o + 4); value = four b (o + 8) }

unfoldable pub request_bytes : Request → List ℕ
request_bytes q = q.operation ∷ q.level ∷ two_bytes q.item (four_bytes q.ticket (four_bytes q.value []))

-- the reply that starts at o
unfoldable pub reply_at : List ℕ → ℕ → Reply
reply_at b o = record { number = get_or b o 0; operation = get_or b (o + 1) 0; item = two b (o + 2); ticket = four b (o + 4); value = four b (o + 8); version = four b (o + 12) }

unfoldable pub reply_bytes : Reply → List ℕ
reply_bytes r = r.number ∷ r.operation ∷ two_bytes r.item (four_bytes r.ticket (four_bytes r.value (four_bytes r.version [])))
