-- "Tickets are never used twice at a level. A transaction's name is its level and ticket. Ticket 0 names nobody."
-- Assumes nothing.
use Rattle.std.specs.Prelude.{ℕ, ◌≡◌, Bool, true, false, cond, List, [], ◌∷◌}
use Rattle.house.specs.declared.Request.{Request}
use Rattle.house.specs.declared.Rule.{Rule}
use Rattle.house.specs.Search.{any_of, distinct}
use Rattle.house.specs.Rules.{begin}
use Rattle.house.specs.Opening.{opening}
use Rattle.house.specs.Run.{Event, Name, same_name, trace, done}

-- the names that were given: of each done begin, its level and the ticket of its reply
unfoldable pub given : List Event → List Name
given [] = []
given (e ∷ es) = cond (done e begin) ((e.0.level, e.1.ticket) ∷ given es) (given es)

-- the name n is one of them
abbrev pub among : Name → List Name → Bool
among n = any_of (same_name n)

-- THE STATEMENT, proved in proofs/Tickets.antt: from any opening, refused ones too, whatever is asked, no name is given twice, and
-- ticket 0 is given at no level
abbrev pub TicketsOnce : Type 0
TicketsOnce = (levels table : List ℕ) (rule : Rule) (qs : List Request) → let names = given (trace (opening levels table rule).house qs) in (distinct same_name names ≡ true) × ((l : ℕ) → among (l, 0) names ≡ false)
