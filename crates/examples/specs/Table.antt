-- Document 01's marked examples, M1 to M12, as one table under one statement.
-- "Items 0 and 1 at level 0, item 2 at level 2. Each starts fresh, with level-0 tickets 1 and 2 and level-2 ticket 1 open
-- unless said." The levels are in the order of "the old chain", and the rule is A. M11 and M12 are rule A's; beside them stand their
-- companions under rule B (CR 7).
-- Assumes nothing.
use Rattle.std.specs.Prelude.{ℕ, ◌≡◌, List, [], ◌∷◌, ◌++◌, map}
use Rattle.house.specs.declared.Place.{Place}
use Rattle.house.specs.declared.Reply.{Reply}
use Rattle.house.specs.declared.Request.{Request}
use Rattle.house.specs.declared.Rule.{Rule}
use Rattle.house.specs.declared.Rule.TheVariants.{A, B}
use Rattle.house.specs.declared.Standing.TheVariants.{Active}
use Rattle.house.specs.Order.{old_chain}
use Rattle.house.specs.Run.{Event}
use Rattle.examples.specs.Words.{begins, begun, reads, writes, certifies, commits, aborts, asks, reads_with, says, Example, talk, given, expected}

-- a row of the table under a rule, which also says which places the house then shows; under A; and where it says none
abbrev under : Rule → List Event → Request → Reply → List (ℕ × Place) → Example
under rule before request reply places = record { levels = 0 ∷ 0 ∷ 2 ∷ []; table = old_chain; rule = rule; before = before; request = request; reply = reply; places = places }

abbrev shows : List Event → Request → Reply → List (ℕ × Place) → Example
shows = under A

abbrev row : List Event → Request → Reply → Example
row before request reply = under A before request reply []

abbrev row_b : List Event → Request → Reply → Example
row_b before request reply = under B before request reply []

abbrev active : ℕ → ℕ → ℕ × Place
active p t = (p, record { standing = Active; ticket = t })

-- what is open unless said
abbrev usual : List Event
usual = begun 0 1 ∷ begun 0 2 ∷ begun 2 1 ∷ []

abbrev seven : List Event
seven = begun 0 1 ∷ begun 0 2 ∷ begun 0 3 ∷ begun 0 4 ∷ begun 0 5 ∷ begun 0 6 ∷ begun 0 7 ∷ []

abbrev eight : List (ℕ × Place)
eight = active 0 1 ∷ active 1 2 ∷ active 2 3 ∷ active 3 4 ∷ active 4 5 ∷ active 5 6 ∷ active 6 7 ∷ active 7 8 ∷ []

-- "M1. Level 0 reads item 2: 8."
abbrev m1 : Example
m1 = row usual (reads 0 1 2) (says 8 1 2 1 0 0)

-- "M2. Level 2 writes item 0: 8."
abbrev m2 : Example
m2 = row usual (writes 2 1 0 7) (says 8 2 0 1 0 0)

-- "M3. Read of item 3: 7."
abbrev m3 : Example
m3 = row usual (reads 0 1 3) (says 7 1 3 1 0 0)

-- "M4. Read with ticket 0: 6."
abbrev m4 : Example
m4 = row usual (reads 0 0 0) (says 6 1 0 0 0 0)

-- "M5. Read with value 1: 5."
abbrev m5 : Example
m5 = row usual (reads_with 0 1 0 1) (says 5 1 0 1 0 0)

-- "M6. With no transaction open, eight begins at level 0 are done; the ninth gets 11; a begin at level 1 is done with ticket 1."
abbrev m6_eighth : Example
m6_eighth = shows seven (begins 0) (says 0 0 0 8 0 0) eight

abbrev m6_ninth : Example
m6_ninth = shows (talk m6_eighth) (begins 0) (says 11 0 0 0 0 0) eight

abbrev m6 : Example
m6 = shows (talk m6_ninth) (begins 1) (says 0 0 0 1 0 0) (active 8 1 ∷ eight)

-- "M7. After M6, ticket 3 aborts: the next begin at level 0 gets ticket 9 and the third place."
abbrev m7_abort : Example
m7_abort = row (talk m6) (aborts 0 3) (says 0 5 0 3 0 0)

abbrev m7 : Example
m7 = shows (talk m7_abort) (begins 0) (says 0 0 0 9 0 0) (active 2 9 ∷ [])

-- "M8. Ticket 1 writes 7 to item 0; ticket 2 writing item 0 gets 1." The holder is ticket 1 of level 0 (CR 5)
abbrev m8_first : Example
m8_first = row usual (writes 0 1 0 7) (says 0 2 0 1 0 0)

abbrev m8 : Example
m8 = row (talk m8_first) (writes 0 2 0 8) (says 1 2 0 2 1 0)

-- "M9. After M8, ticket 2 reads item 0: done, value 0, version 0. Ticket 1's certify: 1." The holder is ticket 2 of level 0
abbrev m9_read : Example
m9_read = row (talk m8) (reads 0 2 0) (says 0 1 0 2 0 0)

abbrev m9 : Example
m9 = row (talk m9_read) (certifies 0 1) (says 1 3 0 1 2 0)

-- "M10. After M9, ticket 2 aborts; ticket 1 certifies and commits. A new reader gets 7, version 1."
abbrev m10 : Example
m10 =
    row (talk m9 ++ (aborts 0 2, says 0 5 0 2 0 0) ∷ (certifies 0 1, says 0 3 0 1 0 0) ∷ (commits 0 1, says 0 4 0 1 0 0) ∷ begun 0 3 ∷ [])
    (reads 0 3 0) (says 0 1 0 3 7 1)

-- "M11. Level 2 reads item 0; level 0 writes and certifies it, and the certify's reply has value and version 0. Level 2's
-- certify: 2. Its ask: item 0, value 1."
abbrev m11_certify : Example
m11_certify = row (usual ++ (reads 2 1 0, says 0 1 0 1 0 0) ∷ (writes 0 1 0 7, says 0 2 0 1 0 0) ∷ []) (certifies 0 1) (says 0 3 0 1 0 0)

abbrev m11_signalled : Example
m11_signalled = row (talk m11_certify) (certifies 2 1) (says 2 3 0 1 0 0)

abbrev m11 : Example
m11 = row (talk m11_signalled) (asks 2 1) (says 0 6 0 1 1 0)

-- "M12. After M11 the level-0 writer aborts: level 2's certify is still 2."
abbrev m12 : Example
m12 = row (talk m11 ++ (aborts 0 1, says 0 5 0 1 0 0) ∷ []) (certifies 2 1) (says 2 3 0 1 0 0)

-- M11 under B: the certify signals nobody, and the commit does: level 2's certify is then 2, and its ask: item 0, value 1
abbrev b11_certify : Example
b11_certify = row_b (talk m11_certify) (asks 2 1) (says 0 6 0 1 0 0)

abbrev b11_signalled : Example
b11_signalled = row_b (talk b11_certify ++ (commits 0 1, says 0 4 0 1 0 0) ∷ []) (certifies 2 1) (says 2 3 0 1 0 0)

abbrev b11 : Example
b11 = row_b (talk b11_signalled) (asks 2 1) (says 0 6 0 1 1 0)

-- "Under B a higher reader may commit between the certify and the commit" (CR 7)
abbrev b11_between : Example
b11_between = row_b (talk b11_certify ++ (certifies 2 1, says 0 3 0 1 0 0) ∷ (commits 2 1, says 0 4 0 1 0 0) ∷ []) (commits 0 1) (says 0 4 0 1 0 0)

-- M12 under B: the level-0 writer aborts, and level 2 is left alone
abbrev b12 : Example
b12 = row_b (talk b11_certify ++ (aborts 0 1, says 0 5 0 1 0 0) ∷ (asks 2 1, says 0 6 0 1 0 0) ∷ []) (certifies 2 1) (says 0 3 0 1 0 0)

-- every reply on the way of a row is held to the rules with it, so each example stands here once, with its last row
unfoldable pub table : List Example
table = m1 ∷ m2 ∷ m3 ∷ m4 ∷ m5 ∷ m6_eighth ∷ m6_ninth ∷ m6 ∷ m7 ∷ m8 ∷ m9 ∷ m10 ∷ m11 ∷ m12 ∷ b11 ∷ b11_between ∷ b12 ∷ []

-- what the desk gives is what the documents say, in every row
unfoldable pub Marked : Type 0
Marked = map given table ≡ map expected table
