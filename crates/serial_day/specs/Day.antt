-- Demand 3 on a small day: both sides of its equation, worked out. Items 0 and 1 at level 0, item 2 at level 2, in the order of
-- the diamond, under rule A.
-- Assumes nothing.
use Rattle.std.specs.Prelude.{ℕ, ◌≡◌, List, [], ◌∷◌, map, take}
use Rattle.house.specs.declared.House.{House}
use Rattle.house.specs.declared.Request.{Request}
use Rattle.house.specs.declared.Rule.TheVariants.{A}
use Rattle.house.specs.Rules.{begin, read, write, certify, commit, abort}
use Rattle.house.specs.Order.{diamond}
use Rattle.house.specs.Opening.{opening}
use Rattle.house.specs.Run.{finally}
use Rattle.serial.specs.Demand.{Event, trace, work, commits, Row, Table, table, answers, serially}

-- a request, with what it is answered: number, value and version
abbrev event : ℕ → ℕ → ℕ → ℕ → ℕ → ℕ → ℕ → ℕ → Event
event operation level item ticket value n v w = (
  record { operation = operation; level = level; item = item; ticket = ticket; value = value },
  record { number = n; operation = operation; item = item; ticket = ticket; value = v; version = w },
)

-- a begin is answered its ticket
abbrev begins : ℕ → ℕ → Event
begins level t = (
  record { operation = begin; level = level; item = 0; ticket = 0; value = 0 },
  record { number = 0; operation = begin; item = 0; ticket = t; value = 0; version = 0 },
)

abbrev pub day : List Event
day =
    -- tickets 1 and 2 at level 0, ticket 1 at level 2
    begins 0 1
    ∷ begins 0 2
    ∷ begins 2 1
    -- level 2 reads item 0
    ∷ event read 2 0 1 0 0 0 0
    -- ticket 1 writes item 0 twice and reads what it wrote; ticket 2 writes item 1
    ∷ event write 0 0 1 7 0 0 0
    ∷ event write 0 0 1 8 0 0 0
    ∷ event read 0 0 1 0 0 8 1
    ∷ event write 0 1 2 5 0 0 0
    -- ticket 1 certifies, so level 2 is signalled, and ticket 2 is delayed: ticket 1 of level 0 holds it
    ∷ event certify 0 0 1 0 0 0 0
    ∷ event read 0 0 2 0 1 1 0
    -- ticket 1 commits; once more, and nobody has that ticket
    ∷ event commit 0 0 1 0 0 0 0
    ∷ event commit 0 0 1 0 6 0 0
    -- ticket 2 reads item 0 as committed; level 2 learns that it is signalled
    ∷ event read 0 0 2 0 0 8 1
    ∷ event certify 2 0 1 0 2 0 0
    -- so it begins anew, writes item 2, reads item 1 as it was before ticket 2's write, and commits before ticket 2
    ∷ event abort 2 0 1 0 0 0 0
    ∷ begins 2 2
    ∷ event write 2 2 2 9 0 0 0
    ∷ event read 2 1 2 0 0 0 0
    ∷ event certify 2 0 2 0 0 0 0
    ∷ event commit 2 0 2 0 0 0 0
    -- ticket 2 certifies and commits
    ∷ event certify 0 0 2 0 0 0 0
    ∷ event commit 0 0 2 0 0 0 0
    ∷ []

abbrev pub start : House
start = (opening (0 ∷ 0 ∷ 2 ∷ []) diamond A).house

abbrev pub requests : List Request
requests = map (λ e. e.0) day

-- the plain run: what the committed read alone, and the table at its end
abbrev pub alone : List (List Row) × Table
alone = serially (table start) (map (λ n. work n day) (commits day))

-- THE STATEMENT, proved in proofs/Day.antt
pub record Worked : Type 0 where
  pub answered : trace start requests ≡ day
  pub committed : commits day ≡ ((0, 1) ∷ (2, 2) ∷ (0, 2) ∷ [])
  -- the two sides: what they read alone and what the desk told them, and the first three rows at the end
  pub reads : alone.0 ≡ (((8, 1) ∷ []) ∷ ((0, 0) ∷ []) ∷ ((8, 1) ∷ []) ∷ [])
  pub told : map (λ n. answers (work n day)) (commits day) ≡ (((8, 1) ∷ []) ∷ ((0, 0) ∷ []) ∷ ((8, 1) ∷ []) ∷ [])
  pub ends : take 3 alone.1 ≡ ((8, 1) ∷ (5, 1) ∷ (9, 1) ∷ [])
  pub kept : take 3 (table (finally start requests)) ≡ ((8, 1) ∷ (5, 1) ∷ (9, 1) ∷ [])
