-- A whole map at once (CR 2). "A call takes level, ticket and a lent list of 16-bit item numbers and fills a lent reply buffer."
-- Assumes nothing.
use Rattle.std.specs.Prelude.{ℕ, ◌*◌, ◌/◌, min, List, ◌++◌, map, length, take, drop}
use Rattle.house.specs.declared.House.{House}
use Rattle.house.specs.declared.Request.{Request}
use Rattle.house.specs.Rules.{read}
use Rattle.house.specs.Run.{finally, replies}
use Rattle.desk.specs.declared.Served.{Served}
use Rattle.desk.specs.Turn.{wired}

-- the single read of an item
abbrev pub read_of : ℕ → ℕ → ℕ → Request
read_of level ticket item = record { operation = read; level = level; item = item; ticket = ticket; value = 0 }

-- "single reads of the same items in list order"
abbrev pub reads : ℕ → ℕ → List ℕ → List Request
reads level ticket items = map (read_of level ticket) items

-- "It handles as many as the list and the whole reply places both allow"
unfoldable pub handled : List ℕ → List ℕ → ℕ
handled items room = min (length items) (length room / 16)

-- what it reports: "Replies and house must equal those of single reads .. none skipped after a refusal", "and reports that count"
unfoldable pub mapped : House → ℕ → ℕ → List ℕ → List ℕ → Served
mapped h level ticket items room =
    let n = handled items room in record { house = finally h (reads level ticket (take n items)); count = n }

-- the reply bytes after it: "Reply bytes past the last reply stay."
unfoldable pub filled : House → ℕ → ℕ → List ℕ → List ℕ → List ℕ
filled h level ticket items room =
    let n = handled items room in wired (replies h (reads level ticket (take n items))) ++ drop (n * 16) room
