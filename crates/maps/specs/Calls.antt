-- Turns and maps, in any order, are a list of requests: whatever is said of every list of requests is said of them.
-- Assumes nothing. Proved in proofs/Calls.antt.
use Rattle.std.specs.Prelude.{ℕ, ◌*◌, ◌≡◌, List, [], ◌∷◌, ◌++◌, take}
use Rattle.house.specs.declared.House.{House}
use Rattle.house.specs.declared.Request.{Request}
use Rattle.house.specs.Run.{finally, replies}
use Rattle.desk.specs.declared.Served.{Served}
use Rattle.desk.specs.Turn.{requests, wired, share, turned, answered}
use Rattle.maps.specs.Map.{reads, handled, mapped, filled}

-- a call: of a turn, its request bytes, the reply bytes that are lent, and the most requests it may handle; of a map, its level,
-- ticket and items, and the reply bytes that are lent
pub data Call : Type 0 where
  by_turn : (input room : List ℕ) (most : ℕ) → Call
  by_map : (level ticket : ℕ) (items room : List ℕ) → Call

-- the requests that it handles
abbrev pub asked : Call → List Request
asked (by_turn input room most) = requests (share most input room) input
asked (by_map level ticket items room) = reads level ticket (take (handled items room) items)

-- what it reports, and the reply bytes after it
abbrev pub reported : House → Call → Served
reported h (by_turn input room most) = turned h input room most
reported h (by_map level ticket items room) = mapped h level ticket items room

abbrev pub told : House → Call → List ℕ
told h (by_turn input room most) = answered h input room most
told h (by_map level ticket items room) = filled h level ticket items room

-- calls, one after another: all requests, all replies, and the house at the end
unfoldable pub asked_by : List Call → List Request
asked_by [] = []
asked_by (c ∷ cs) = asked c ++ asked_by cs

unfoldable pub told_by : House → List Call → List ℕ
told_by h [] = []
told_by h (c ∷ cs) = take ((reported h c).count * 16) (told h c) ++ told_by (reported h c).house cs

unfoldable pub after_calls : House → List Call → House
after_calls h [] = h
after_calls h (c ∷ cs) = after_calls (reported h c).house cs

-- THE STATEMENT: of every house and all calls
abbrev pub CallsAreRequests : Type 0
CallsAreRequests = (h : House) (cs : List Call) → (told_by h cs ≡ wired (replies h (asked_by cs))) × (after_calls h cs ≡ finally h (asked_by cs))
