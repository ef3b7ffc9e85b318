-- The running desk. "A run takes request bytes, reply bytes and a number, the most requests this turn may handle. It answers
-- whole requests in order."
-- Assumes nothing.
use Rattle.std.specs.Prelude.{ℕ, zero, suc, ◌*◌, ◌/◌, min, List, [], ◌∷◌, ◌++◌, length, drop}
use Rattle.house.specs.declared.House.{House}
use Rattle.house.specs.declared.Reply.{Reply}
use Rattle.house.specs.declared.Request.{Request}
use Rattle.house.specs.Run.{finally, replies}
use Rattle.wire.specs.Wire.{request_at, reply_bytes}
use Rattle.desk.specs.declared.Served.{Served}

-- the first n requests of these bytes
unfoldable pub requests : ℕ → List ℕ → List Request
requests zero b = []
requests (suc n) b = request_at b 0 ∷ requests n (drop 12 b)

-- all whole requests of these bytes
abbrev pub whole_requests : List ℕ → List Request
whole_requests b = requests (length b / 12) b

-- replies, one after another
unfoldable pub wired : List Reply → List ℕ
wired [] = []
wired (r ∷ rs) = reply_bytes r ++ wired rs

-- "The count it reports is the least of that number, the whole requests present and the whole reply places present"
unfoldable pub share : ℕ → List ℕ → List ℕ → ℕ
share most input room = min most (min (length input / 12) (length room / 16))

-- n requests of the input taken: the house after them, and the reply bytes. "Reply bytes past the last reply stay untouched"
abbrev pub housed : ℕ → House → List ℕ → House
housed n h input = finally h (requests n input)

abbrev pub written : ℕ → House → List ℕ → List ℕ → List ℕ
written n h input room = wired (replies h (requests n input)) ++ drop (n * 16) room

-- a turn: what it reports, and the reply bytes after it
unfoldable pub turned : House → List ℕ → List ℕ → ℕ → Served
turned h input room most = record { house = housed (share most input room) h input; count = share most input room }

unfoldable pub answered : House → List ℕ → List ℕ → ℕ → List ℕ
answered h input room most = written (share most input room) h input room
