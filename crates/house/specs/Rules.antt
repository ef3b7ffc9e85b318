-- The rules of the desk: which number a request gets, what a done request changes, and what it is answered.
-- In document 01's words and order, and in those of the change requests (CR 1 ..) where they amend it. Every definition is
-- total: it speaks of every house value and every request.
-- Assumes nothing.
use Rattle.std.specs.Prelude.{ℕ, ◌+◌, ◌<◌, ◌≡◌, Bool, false, ◌&&◌, ◌||◌, not, cond, List, [], ◌∷◌, ◌++◌, set, eqb, ltb, leb, Result, MatchResult, Option, None}
use Rattle.house.specs.declared.Answer.{Answer}
use Rattle.house.specs.declared.Answer.TheVariants.{Refused, Delayed, Done, Ticket, Pair, Signals}
use Rattle.house.specs.declared.House.{House}
use Rattle.house.specs.declared.Item.{Item}
use Rattle.house.specs.declared.Mark.TheVariants.{Read, Write, Certify, Signalled}
use Rattle.house.specs.declared.Operation.{Operation}
use Rattle.house.specs.declared.Outcome.{Outcome}
use Rattle.house.specs.declared.Refusal.{Refusal}
use Rattle.house.specs.declared.Refusal.TheVariants.{NoOperation, NoLevel, UnusedSet, Unknown, NoItem, Forbidden, BlankSheet, Stopped, Untimely, WornOut, Crowded, Ticketless}
use Rattle.house.specs.declared.Reply.{Reply}
use Rattle.house.specs.declared.Request.{Request}
use Rattle.house.specs.declared.Rule.{Rule}
use Rattle.house.specs.declared.Rule.TheVariants.{A, B}
use Rattle.house.specs.declared.Standing.TheVariants.{Active, Certified}
use Rattle.house.specs.Search.{find, if_found, nobody, find_first, map_from}
use Rattle.house.specs.Checks.{foremost, by_number}
use Rattle.house.specs.Cell.{has, marked, unmarked, with_mark, map_cells, holds, another_holds, is_signalled, first_signalled, count_signalled}
use Rattle.house.specs.House.{dominates, above, level_of, vacant, item_at, pending_at, place_at, next_at, with_items, with_pending, with_place, with_next, with_cells, is_active, is_certified, seek, vacancy}

-- "Operations: 0 begin, 1 read, 2 write, 3 certify, 4 commit, 5 abort, 6 ask."

abbrev pub begin : ℕ
begin = 0

abbrev pub read : ℕ
read = 1

abbrev pub write : ℕ
write = 2

abbrev pub certify : ℕ
certify = 3

abbrev pub commit : ℕ
commit = 4

abbrev pub abort : ℕ
abort = 5

abbrev pub ask : ℕ
ask = 6

abbrev pub code : Operation → ℕ
code Operation.Begin = begin
code Operation.Read = read
code Operation.Write = write
code Operation.Certify = certify
code Operation.Commit = commit
code Operation.Abort = abort
code Operation.Ask = ask

-- a byte is taken for the operation that it names, or names none
abbrev pub Decodes : ℕ → Result Operation Refusal → Type 0
Decodes n r = MatchResult r (λ operation. code operation ≡ n) (λ refusal. (refusal ≡ NoOperation) × (ask < n))

infix 60 ◌does◌
abbrev pub ◌does◌ : Request → ℕ → Bool
q does n = eqb q.operation n

-- THE CHECKS. One name and one named test for each row of the table of numbers

abbrev pub number : Refusal → ℕ
number Stopped = 2
number NoOperation = 3
number NoLevel = 4
number UnusedSet = 5
number Unknown = 6
number NoItem = 7
number Forbidden = 8
number Untimely = 9
number WornOut = 10
number Crowded = 11
number Ticketless = 12
number BlankSheet = 15

-- the place of the transaction that asks
abbrev pub asker : House → Request → Option ℕ
asker h q = seek h.places q.level q.ticket

-- 3: "operation above 6"
unfoldable pub no_operation : Request → Bool
no_operation q = ltb ask q.operation

-- 4: "level above 3"
unfoldable pub no_level : Request → Bool
no_level q = ltb 3 q.level

-- "Begin uses no field after the level. Read uses item and ticket. Write uses item, ticket and value. The others use the ticket."
abbrev pub uses_item : Request → Bool
uses_item q = q does read || q does write

-- 5: "an unused field is not zero"
unfoldable pub unused_set : Request → Bool
unused_set q =
    (not (uses_item q) && not (eqb q.item 0))
    || (q does begin && not (eqb q.ticket 0))
    || (not (q does write) && not (eqb q.value 0))

-- 6: "no open transaction at that level has that ticket"
unfoldable pub unknown : House → Request → Bool
unknown h q = not (q does begin) && nobody (asker h q)

-- 7: "no such item". The house has 64 rows, whatever its count says
unfoldable pub no_item : House → Request → Bool
no_item h q = uses_item q && (leb h.count q.item || leb 64 q.item)

-- 8: "a read of an item whose level the asker's does not dominate" (CR 6); "write of an item not at the level"
unfoldable pub forbidden : House → Request → Bool
forbidden h q =
    let level = (item_at h.items q.item).level in
    cond (q does read) (not (dominates h.order q.level level))
    (cond (q does write) (not (eqb level q.level))
    false)

-- 15: "0 marks an unsaved layer. A write of value 0 gets 15" (CR 1)
unfoldable pub blank_sheet : Request → Bool
blank_sheet q = q does write && eqb q.value 0

-- 2: "the transaction has a signalled cell (read, write, certify, commit)"
unfoldable pub stopped : House → Request → Bool
stopped h q = (q does read || q does write || q does certify || q does commit) && if_found (asker h q) (is_signalled h.cells) false

-- 9: "wrong time: read, write or certify when certified; commit when active"
unfoldable pub untimely : House → Request → Bool
untimely h q =
    let standing = if_found (asker h q) (λ me. (place_at h.places me).standing) vacant.standing in
    cond (q does read || q does write || q does certify) (is_certified standing)
    (cond (q does commit) (is_active standing)
    false)

-- 10: "write of an item whose committed version is 4,294,967,295"
unfoldable pub worn_out : House → Request → Bool
worn_out h q = q does write && leb 4294967295 (item_at h.items q.item).version

-- 11: "begin: all eight places of the level are taken"
unfoldable pub crowded : House → Request → Bool
crowded h q = q does begin && nobody (vacancy h.places q.level)

-- 12: "begin: no ticket is left at the level"
unfoldable pub ticketless : House → Request → Bool
ticketless h q = q does begin && eqb (next_at h.next q.level) 0

-- Whether the transaction at place p stands in the way of that at `me` on item i. Write: "another holds write or certify on the item"
unfoldable pub another_claims : List ℕ → ℕ → ℕ → ℕ → Bool
another_claims cells me i p = another_holds cells Write me i p || another_holds cells Certify me i p

-- Certify: "another transaction of the same level holds a read lock"
unfoldable pub peer_reads : List ℕ → ℕ → ℕ → ℕ → Bool
peer_reads cells me i p = eqb (level_of p) (level_of me) && another_holds cells Read me i p

-- and read: "another transaction holds certify on the item"
unfoldable pub hinders : List ℕ → ℕ → ℕ → ℕ → ℕ → Bool
hinders cells operation me i p =
    cond (eqb operation read) (another_holds cells Certify me i p)
    (cond (eqb operation write) (another_claims cells me i p)
    (peer_reads cells me i p))

-- the items that a request asks for a lock on: its own or, at a certify, "any item written by this transaction"
unfoldable pub wants : List ℕ → Request → ℕ → ℕ → Bool
wants cells q me i = cond (uses_item q) (eqb i q.item) (q does certify && holds cells Write me i)

-- "The conflict test now gives the holder. .. With several, take the lowest item, then the lowest place." (CR 5)
unfoldable pub holder_on : List ℕ → Request → ℕ → ℕ → Option ℕ
holder_on cells q me i = cond (wants cells q me i) (find (hinders cells q.operation me i) 0 32) None

unfoldable pub conflict : List ℕ → Request → ℕ → Option ℕ
conflict cells q me = find_first (holder_on cells q me) 0 64

-- the place of the holder of what is asked for
abbrev pub holder : House → Request → Option ℕ
holder h q = if_found (asker h q) (conflict h.cells q) None

-- 1: "delayed: a lock conflict; ask again later"
unfoldable pub delayed : House → Request → Bool
delayed h q = not (nobody (holder h q))

-- "Order of checks: 3, 4, 5, 6, 7, 8, 2, 9, 10, 11, 12, 1", with 15 "after 8 and before 2" (CR 1). First the refusals
abbrev pub reasons : House → Request → List (Refusal × Bool)
reasons h q =
    (NoOperation, no_operation q)
    ∷ (NoLevel, no_level q)
    ∷ (UnusedSet, unused_set q)
    ∷ (Unknown, unknown h q)
    ∷ (NoItem, no_item h q)
    ∷ (Forbidden, forbidden h q)
    ∷ (BlankSheet, blank_sheet q)
    ∷ (Stopped, stopped h q)
    ∷ (Untimely, untimely h q)
    ∷ (WornOut, worn_out h q)
    ∷ (Crowded, crowded h q)
    ∷ (Ticketless, ticketless h q)
    ∷ []

unfoldable pub refusals : House → Request → List (ℕ × Bool)
refusals h q = by_number number (reasons h q)

-- and then the delay
unfoldable pub checks : House → Request → List (ℕ × Bool)
checks h q = refusals h q ++ (1, delayed h q) ∷ []

-- "The first that applies is given, and it is given only then." 0 where none does
unfoldable pub verdict : House → Request → ℕ
verdict h q = foremost (checks h q)

-- THE EFFECTS. What each done request changes, by the transaction at place `me`

-- "the next ticket grows by one, or there is none after 4,294,967,295"; 0 says that there is none
unfoldable pub ticket_after : ℕ → ℕ
ticket_after t = cond (ltb t 4294967295) (t + 1) 0

-- a version that "grows by one". The largest stays; no house that can be reached meets that
unfoldable pub grown : ℕ → ℕ
grown v = cond (ltb v 4294967295) (v + 1) v

-- Begin: "The lowest free place of the level becomes active with the next ticket"
unfoldable pub begun : House → ℕ → ℕ → House
begun h l me =
    let t = next_at h.next l in
    with_next (with_place h me (record { standing = Active; ticket = t })) l (ticket_after t)

-- Read: "the read lock is set"
unfoldable pub read_by : House → ℕ → ℕ → House
read_by h me i = with_cells h (with_mark Read h.cells me i)

-- "A transaction that holds the write lock gets the pending value and the committed version plus one. Any other gets the
-- committed pair."
unfoldable pub read_answer : List ℕ → Item → ℕ → ℕ → ℕ → Answer
read_answer cells x pending me i = cond (holds cells Write me i) (Pair pending (grown x.version)) (Pair x.value x.version)

abbrev pub read_for : House → ℕ → ℕ → Answer
read_for h me i = read_answer h.cells (item_at h.items i) (pending_at h.pending i) me i

-- Write: "the write lock is set and the pending value is the given one, also on a second write"
unfoldable pub written_by : House → ℕ → ℕ → ℕ → House
written_by h me i v = with_pending (with_cells h (with_mark Write h.cells me i)) (set h.pending i v)

-- the transaction at place p has written item i: it holds write on it or, once certified, certify
unfoldable pub wrote : List ℕ → ℕ → ℕ → Bool
wrote cells p i = holds cells Write p i || holds cells Certify p i

-- The operation that gives the signals: "rule A, as now, or rule B, where signals are given at commit instead of certify" (CR 7)
abbrev pub signals_at : Rule → ℕ
signals_at A = certify
signals_at B = commit

-- "each read lock on those items held from a higher level is marked signalled": the cell c of place p and item i, where `me` gives
-- signals; if it gives none, nothing is
unfoldable pub signalled_cell : Bool → List ℕ → List ℕ → ℕ → ℕ → ℕ → ℕ → ℕ
signalled_cell gives order cells me p i c = cond (gives && wrote cells me i && above order (level_of p) (level_of me) && has Read c) (marked Signalled c) c

-- the cells once `me` has given the signals of that operation
unfoldable pub signalled : ℕ → House → ℕ → List ℕ
signalled operation h me = map_cells (signalled_cell (eqb (signals_at h.rule) operation) h.order h.cells me) h.cells

-- Certify: its signals; "all its write locks become certify locks"
unfoldable pub converted_cell : ℕ → ℕ → ℕ → ℕ → ℕ
converted_cell me p i c = cond (eqb p me && has Write c) (marked Certify (unmarked Write c)) c

-- "it is certified"
unfoldable pub certified_by : House → ℕ → House
certified_by h me =
    let ticket = (place_at h.places me).ticket in
    with_place (with_cells h (map_cells (converted_cell me) (signalled certify h me))) me (record { standing = Certified; ticket = ticket })

-- Commit and abort: "Pending values of its items go to 0": of those it has written
unfoldable pub dropped_pending : List ℕ → ℕ → ℕ → ℕ → ℕ
dropped_pending cells me i v = cond (wrote cells me i) 0 v

-- "its cells are cleared, its place is free"
unfoldable pub cleared_cell : ℕ → ℕ → ℕ → ℕ → ℕ
cleared_cell me p i c = cond (eqb p me) 0 c

-- the house once `me` has left it, with these cells
unfoldable pub left : List ℕ → House → ℕ → House
left cells h me = with_pending (with_place (with_cells h (map_cells (cleared_cell me) cells)) me vacant) (map_from 0 (dropped_pending h.cells me) h.pending)

-- Commit: its signals; "Each item with its certify lock takes the pending value, and its version grows by one, however often it
-- was written."
unfoldable pub committed_item : List ℕ → List ℕ → ℕ → ℕ → Item → Item
committed_item cells pending me i x = cond (holds cells Certify me i) (record { level = x.level; value = pending_at pending i; version = grown x.version }) x

abbrev pub committed_by : House → ℕ → House
committed_by h me = with_items (left (signalled commit h me) h me) (map_from 0 (committed_item h.cells h.pending me) h.items)

-- Abort: as it is left. "Signals it gave to others stand."
abbrev pub aborted_by : House → ℕ → House
aborted_by h me = left h.cells h me

-- Ask: "the lowest signalled item of the asker and .. how many are signalled (both 0 when none)"
unfoldable pub ask_answer : List ℕ → ℕ → Answer
ask_answer cells me = Signals (if_found (first_signalled cells me) (λ i. i) 0) (count_signalled cells me)

-- THE REPLIES

abbrev pub said : Request → ℕ → ℕ → ℕ → ℕ → ℕ → Reply
said q number item ticket value version = record { number = number; operation = q.operation; item = item; ticket = ticket; value = value; version = version }

-- "Every reply repeats operation, item and ticket as they came, with value and version 0, except these done replies: begin
-- carries the new ticket; read carries value and version; ask carries in the item field the lowest signalled item of the
-- asker and in the value field how many are signalled". "In a delay's reply the value field carries the holder's ticket and the
-- version field its level" (CR 5)
abbrev pub replied : Request → Answer → Reply
replied q (Refused n) = said q n q.item q.ticket 0 0
replied q (Delayed t l) = said q 1 q.item q.ticket t l
replied q Done = said q 0 q.item q.ticket 0 0
replied q (Ticket t) = said q 0 q.item t 0 0
replied q (Pair v n) = said q 0 q.item q.ticket v n
replied q (Signals i n) = said q 0 i q.ticket n 0

abbrev pub outcome : House → Request → Answer → Outcome
outcome h q a = record { house = h; reply = replied q a }

-- THE STEP

-- a done request of the transaction at place `me`
unfoldable pub served : House → Request → ℕ → Outcome
served h q me =
    let read' = outcome (read_by h me q.item) q (read_for h me q.item) in
    let write' = outcome (written_by h me q.item q.value) q Done in
    let certify' = outcome (certified_by h me) q Done in
    let commit' = outcome (committed_by h me) q Done in
    let abort' = outcome (aborted_by h me) q Done in
    let ask' = outcome h q (ask_answer h.cells me) in
    cond (q does read) read'
    (cond (q does write) write'
    (cond (q does certify) certify'
    (cond (q does commit) commit'
    (cond (q does abort) abort'
    ask'))))

-- a done request; a place that nobody has is met by no request that passed the checks
unfoldable pub performed : House → Request → Outcome
performed h q =
    let begin' = if_found (vacancy h.places q.level) (λ me. outcome (begun h q.level me) q (Ticket (next_at h.next q.level))) (outcome h q (Refused 11)) in
    let others = if_found (asker h q) (served h q) (outcome h q (Refused 6)) in
    cond (q does begin) begin' others

-- the holder at place p is named
abbrev pub named : House → ℕ → Answer
named h p = Delayed (place_at h.places p).ticket (level_of p)

-- the answer to a request with a number n other than 0; a delay without a holder is met by none
unfoldable pub unserved : House → Request → ℕ → Answer
unserved h q n = if_found (cond (eqb n 1) (holder h q) None) (named h) (Refused n)

-- "Any number but 0 leaves the house as it was."
unfoldable pub stepped : House → Request → Outcome
stepped h q =
    let n = verdict h q in
    let done = performed h q in
    cond (eqb n 0) done (outcome h q (unserved h q n))
