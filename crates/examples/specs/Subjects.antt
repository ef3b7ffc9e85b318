-- Two subjects side by side (CR 6), as a table of examples: items 0 to 3 at levels 0 to 3, in the order of the diamond (pupils 0, geography 1,
-- history 2, examiners 3). Ticket 1 is open at each level. And a table of openings.
-- Assumes nothing.
use Rattle.std.specs.Prelude.{ℕ, ◌≡◌, List, [], ◌∷◌, ◌++◌, map, replicate}
use Rattle.house.specs.declared.Reply.{Reply}
use Rattle.house.specs.declared.Request.{Request}
use Rattle.house.specs.declared.Rule.{Rule}
use Rattle.house.specs.declared.Rule.TheVariants.{A, B}
use Rattle.house.specs.Order.{old_chain, diamond}
use Rattle.house.specs.Opening.{number_of, opening}
use Rattle.house.specs.Run.{Event}
use Rattle.examples.specs.Words.{begun, reads, writes, certifies, asks, says, Example, given, expected}

abbrev row : List Event → Request → Reply → Example
row before request reply = record { levels = 0 ∷ 1 ∷ 2 ∷ 3 ∷ []; table = diamond; rule = A; before = begun 0 1 ∷ begun 1 1 ∷ begun 2 1 ∷ begun 3 1 ∷ before; request = request; reply = reply; places = [] }

-- the subjects do not read each other's marks: 8
abbrev geography : Example
geography = row [] (reads 1 1 2) (says 8 1 2 1 0 0)

abbrev history : Example
history = row [] (reads 2 1 1) (says 8 1 1 1 0 0)

-- both read the layer, and the examiners read both subjects' marks
abbrev all_read : List Event
all_read = (reads 1 1 0, says 0 1 0 1 0 0) ∷ (reads 2 1 0, says 0 1 0 1 0 0) ∷ (reads 3 1 0, says 0 1 0 1 0 0) ∷ (reads 3 1 1, says 0 1 1 1 0 0) ∷ (reads 3 1 2, says 0 1 2 1 0 0) ∷ []

-- a pupil writes and certifies the layer: all three are above, and are signalled
abbrev drawn : Example
drawn =
    row (all_read ++ (writes 0 1 0 7, says 0 2 0 1 0 0) ∷ (certifies 0 1, says 0 3 0 1 0 0) ∷ (asks 1 1, says 0 6 0 1 1 0) ∷ (asks 2 1, says 0 6 0 1 1 0) ∷ [])
    (asks 3 1) (says 0 6 0 1 1 0)

-- geography certifies its mark: the examiners are signalled on item 1, and history is not, and goes on
abbrev marked : Example
marked =
    row (all_read ++ (writes 1 1 1 5, says 0 2 1 1 0 0) ∷ (certifies 1 1, says 0 3 0 1 0 0) ∷ (asks 3 1, says 0 6 1 1 1 0) ∷ (asks 2 1, says 0 6 0 1 0 0) ∷ (writes 2 1 2 6, says 0 2 2 1 0 0) ∷ [])
    (certifies 2 1) (says 0 3 0 1 0 0)

unfoldable pub subjects : List Example
subjects = geography ∷ history ∷ drawn ∷ marked ∷ []

-- Openings, each under rule B: levels, a table, the number, and the order and the rule that the house then holds

pub record Opened : Type 0 where
  pub levels : List ℕ
  pub table : List ℕ
  pub number : ℕ
  pub order : List ℕ
  pub rule : Rule

abbrev opens : List ℕ → List ℕ → Opened
opens levels table = record { levels = levels; table = table; number = 0; order = table; rule = B }

abbrev refused : List ℕ → List ℕ → ℕ → Opened
refused levels table n = record { levels = levels; table = table; number = n; order = old_chain; rule = A }

-- four levels with nothing above anything, and the chain with level 0 at its top
abbrev apart : List ℕ
apart = 1 ∷ 0 ∷ 0 ∷ 0 ∷ 0 ∷ 1 ∷ 0 ∷ 0 ∷ 0 ∷ 0 ∷ 1 ∷ 0 ∷ 0 ∷ 0 ∷ 0 ∷ 1 ∷ []

abbrev upside_down : List ℕ
upside_down = 1 ∷ 0 ∷ 0 ∷ 0 ∷ 1 ∷ 1 ∷ 0 ∷ 0 ∷ 1 ∷ 1 ∷ 1 ∷ 0 ∷ 1 ∷ 1 ∷ 1 ∷ 1 ∷ []

-- tables that miss one law each: a byte is above 1
abbrev large : List ℕ
large = 1 ∷ 2 ∷ 1 ∷ 1 ∷ 0 ∷ 1 ∷ 0 ∷ 1 ∷ 0 ∷ 0 ∷ 1 ∷ 1 ∷ 0 ∷ 0 ∷ 0 ∷ 1 ∷ []

-- level 3 does not dominate itself
abbrev loose : List ℕ
loose = 1 ∷ 1 ∷ 1 ∷ 1 ∷ 0 ∷ 1 ∷ 0 ∷ 1 ∷ 0 ∷ 0 ∷ 1 ∷ 1 ∷ 0 ∷ 0 ∷ 0 ∷ 0 ∷ []

-- 1 and 2 dominate each other
abbrev tied : List ℕ
tied = 1 ∷ 1 ∷ 1 ∷ 1 ∷ 0 ∷ 1 ∷ 1 ∷ 1 ∷ 0 ∷ 1 ∷ 1 ∷ 1 ∷ 0 ∷ 0 ∷ 0 ∷ 1 ∷ []

-- 1 is above 0 and 3 is above 1, and 3 is not above 0
abbrev broken : List ℕ
broken = 1 ∷ 1 ∷ 1 ∷ 0 ∷ 0 ∷ 1 ∷ 0 ∷ 1 ∷ 0 ∷ 0 ∷ 1 ∷ 0 ∷ 0 ∷ 0 ∷ 0 ∷ 1 ∷ []

unfoldable pub openings : List Opened
openings =
    opens (0 ∷ []) old_chain
    ∷ opens (0 ∷ 1 ∷ 2 ∷ 3 ∷ []) diamond
    ∷ opens (replicate 64 3) apart
    ∷ opens (0 ∷ []) upside_down
    -- 13: the levels, or the table, too few or too many; also where a byte is above 3
    ∷ refused [] diamond 13
    ∷ refused (replicate 65 0) diamond 13
    ∷ refused (0 ∷ []) [] 13
    ∷ refused (0 ∷ []) (0 ∷ diamond) 13
    ∷ refused (4 ∷ []) (1 ∷ []) 13
    -- 14: also where the table is no order
    ∷ refused (0 ∷ 4 ∷ []) diamond 14
    ∷ refused (255 ∷ []) large 14
    -- 16
    ∷ refused (0 ∷ []) large 16
    ∷ refused (0 ∷ []) loose 16
    ∷ refused (0 ∷ []) tied 16
    ∷ refused (0 ∷ []) broken 16
    ∷ []

-- THE STATEMENT: what the desk gives is what the tables say, in every row
pub record SideBySide : Type 0 where
  pub answered : map given subjects ≡ map expected subjects
  pub opened : map {B = ℕ × List ℕ × Rule} (λ x. let o = opening x.levels x.table B in (number_of o, o.house.order, o.house.rule)) openings ≡ map {B = ℕ × List ℕ × Rule} (λ x. (x.number, x.order, x.rule)) openings
