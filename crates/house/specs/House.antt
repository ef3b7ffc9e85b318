-- The parts of a house. "Levels 0 to 3", "1 to 64 items, numbered from 0", "eight places per level, 32 in all".
-- Assumes nothing.
use Rattle.std.specs.Prelude.{ℕ, ◌+◌, ◌*◌, ◌/◌, Bool, true, false, ◌&&◌, not, List, map, ◌≡◌, length, get_or, set, eqb, Option}
use Rattle.house.specs.declared.House.{House}
use Rattle.house.specs.declared.Item.{Item}
use Rattle.house.specs.declared.Place.{Place}
use Rattle.house.specs.declared.Rule.{Rule}
use Rattle.house.specs.declared.Standing.{Standing}
use Rattle.house.specs.declared.Standing.TheVariants.{Free, Active, Certified}
use Rattle.house.specs.Search.{find, find_round}

-- Of the 16 bytes, "row by row", "1 says that the column's level dominates the row's" (CR 6): level a dominates level b
unfoldable pub dominates : List ℕ → ℕ → ℕ → Bool
dominates order a b = eqb (get_or order (4 * b + a) 0) 1

-- "of two levels, "above" and "below" mean strict dominance" (CR 6)
unfoldable pub above : List ℕ → ℕ → ℕ → Bool
above order a b = dominates order a b && not (eqb a b)

-- the level of a place
abbrev pub level_of : ℕ → ℕ
level_of p = p / 8

-- a row past the last item, and a free place
abbrev pub blank : Item
blank = record { level = 0; value = 0; version = 0 }

abbrev pub vacant : Place
vacant = record { standing = Free; ticket = 0 }

abbrev pub item_at : List Item → ℕ → Item
item_at items i = get_or items i blank

-- "a pending value, 0 when nobody has written"
abbrev pub pending_at : List ℕ → ℕ → ℕ
pending_at pending i = get_or pending i 0

abbrev pub place_at : List Place → ℕ → Place
place_at places p = get_or places p vacant

-- the next ticket of a level; 0 where none is left
abbrev pub next_at : List ℕ → ℕ → ℕ
next_at next l = get_or next l 0

-- a house with one part changed

abbrev pub with_items : House → List Item → House
with_items h items = record { count = h.count; order = h.order; rule = h.rule; items = items; pending = h.pending; places = h.places; next = h.next; cells = h.cells }

abbrev pub with_pending : House → List ℕ → House
with_pending h pending = record { count = h.count; order = h.order; rule = h.rule; items = h.items; pending = pending; places = h.places; next = h.next; cells = h.cells }

abbrev pub with_place : House → ℕ → Place → House
with_place h p x = record { count = h.count; order = h.order; rule = h.rule; items = h.items; pending = h.pending; places = set h.places p x; next = h.next; cells = h.cells }

abbrev pub with_next : House → ℕ → ℕ → House
with_next h l t = record { count = h.count; order = h.order; rule = h.rule; items = h.items; pending = h.pending; places = h.places; next = set h.next l t; cells = h.cells }

abbrev pub with_cells : House → List ℕ → House
with_cells h cells = record { count = h.count; order = h.order; rule = h.rule; items = h.items; pending = h.pending; places = h.places; next = h.next; cells = cells }

-- what an opening fixes: how many items there are, the order of the levels, the rule, and each item's "fixed level"
unfoldable pub fixed : House → ℕ × List ℕ × Rule × List ℕ
fixed h = (h.count, h.order, h.rule, map (λ x. x.level) h.items)

-- the lists of a house are as long as the arrays they stand for
pub record Sizes (h : House) : Type 0 where
  pub order : length h.order ≡ 16
  pub items : length h.items ≡ 64
  pub pending : length h.pending ≡ 64
  pub places : length h.places ≡ 32
  pub next : length h.next ≡ 4
  pub cells : length h.cells ≡ 2048

-- Who stands at the places

abbrev pub is_free : Standing → Bool
is_free Free = true
is_free Active = false
is_free Certified = false

abbrev pub is_active : Standing → Bool
is_active Free = false
is_active Active = true
is_active Certified = false

abbrev pub is_certified : Standing → Bool
is_certified Free = false
is_certified Active = false
is_certified Certified = true

unfoldable pub free_at : List Place → ℕ → Bool
free_at places p = is_free (place_at places p).standing

-- the open transaction at place p has that ticket. "Ticket 0 names nobody", whatever stands at the place
unfoldable pub has_ticket : List Place → ℕ → ℕ → Bool
has_ticket places t p = not (free_at places p) && eqb (place_at places p).ticket t && not (eqb t 0)

-- "To look a ticket up, the search goes over the eight places of one level and stops at the place found." It begins "at the place
-- numbered by the ticket modulo 8", and goes "round" (CR 4)
unfoldable pub seek : List Place → ℕ → ℕ → Option ℕ
seek places l t = find_round (has_ticket places t) (l * 8) 8 t

-- "the lowest free place of the level"
unfoldable pub vacancy : List Place → ℕ → Option ℕ
vacancy places l = find (free_at places) (l * 8) 8
