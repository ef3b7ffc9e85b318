-- The whole reply, of every house value and every request. "Every reply repeats operation, item and ticket as they came, with value
-- and version 0, except these done replies: begin carries the new ticket; read carries value and version; ask carries in the
-- item field the lowest signalled item of the asker and in the value field how many are signalled (both 0 when none)." "In a delay's
-- reply the value field carries the holder's ticket and the version field its level" (CR 5).
-- Assumes nothing.
use Rattle.std.specs.Prelude.{ℕ, ◌≡◌, Bool, false, cond, eqb}
use Rattle.house.specs.declared.House.{House}
use Rattle.house.specs.declared.Mark.TheVariants.{Write}
use Rattle.house.specs.declared.Reply.{Reply}
use Rattle.house.specs.declared.Request.{Request}
use Rattle.house.specs.Search.{if_found}
use Rattle.house.specs.Cell.{holds, first_signalled, count_signalled}
use Rattle.house.specs.House.{level_of, item_at, pending_at, place_at, next_at}
use Rattle.house.specs.Rules.{begin, read, ask, asker, holder, verdict, grown, stepped}
use Rattle.house.specs.Run.{done}

-- What the exceptions carry

abbrev pub new_ticket : House → Request → ℕ
new_ticket h q = next_at h.next q.level

-- "A transaction that holds the write lock gets the pending value and the committed version plus one. Any other gets the
-- committed pair."
abbrev pub own_write : House → Request → Bool
own_write h q = if_found (asker h q) (λ me. holds h.cells Write me q.item) false

abbrev pub value_read : House → Request → ℕ
value_read h q = cond (own_write h q) (pending_at h.pending q.item) (item_at h.items q.item).value

abbrev pub version_read : House → Request → ℕ
version_read h q = let n = (item_at h.items q.item).version in cond (own_write h q) (grown n) n

-- the lowest signalled item of the asker, and how many are signalled
abbrev pub lowest_signalled : House → Request → ℕ
lowest_signalled h q = if_found (asker h q) (λ me. if_found (first_signalled h.cells me) (λ i. i) 0) 0

abbrev pub how_many : House → Request → ℕ
how_many h q = if_found (asker h q) (count_signalled h.cells) 0

-- the holder's ticket, and its level
abbrev pub holder_ticket : House → Request → ℕ
holder_ticket h q = if_found (holder h q) (λ p. (place_at h.places p).ticket) 0

abbrev pub holder_level : House → Request → ℕ
holder_level h q = if_found (holder h q) level_of 0

-- The six fields of a reply r to the request q. Its number says whether q was done, or delayed
pub record Whole (h : House) (q : Request) (r : Reply) : Type 0 where
  pub number : r.number ≡ verdict h q
  pub operation : r.operation ≡ q.operation
  pub item : r.item ≡ cond (done (q, r) ask) (lowest_signalled h q) q.item
  pub ticket : r.ticket ≡ cond (done (q, r) begin) (new_ticket h q) q.ticket
  pub value : r.value ≡ cond (eqb r.number 1) (holder_ticket h q) (cond (done (q, r) read) (value_read h q) (cond (done (q, r) ask) (how_many h q) 0))
  pub version : r.version ≡ cond (eqb r.number 1) (holder_level h q) (cond (done (q, r) read) (version_read h q) 0)

-- THE STATEMENT, proved in proofs/Replies.antt
abbrev pub ReplyWhole : Type 0
ReplyWhole = (h : House) (q : Request) → Whole h q (stepped h q).reply
