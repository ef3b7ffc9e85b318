-- When an opening gets which number, in numbers and in the laws of an order, and what a refused one holds. Of all levels and tables, lists
-- of any bytes and any lengths, and of either rule.
-- Assumes nothing.
use Rattle.std.specs.Prelude.{ℕ, ◌≤◌, ◌<◌, ◌≡◌, ◌≢◌, true, List, [], ◌∷◌, length, get_or, eqb}
use Rattle.house.specs.declared.Rule.{Rule}
use Rattle.house.specs.declared.Rule.TheVariants.{A}
use Rattle.house.specs.Search.{any_of}
use Rattle.house.specs.Order.{PartialOrder, old_chain}
use Rattle.house.specs.Opening.{number_of, opened, opening}

-- what gets neither 13 ("length 0 or above 64", "a table not 16 bytes long") nor 14 ("a byte above 3")
pub record Passable (levels table : List ℕ) : Type 0 where
  pub some : length levels ≢ 0
  pub few : length levels ≤ 64
  pub whole : length table ≡ 16
  pub low : (i : ℕ) → i < length levels → get_or levels i 0 ≤ 3

-- THE STATEMENTS, proved in proofs/Opened.antt

-- the number of an opening is one of these
abbrev pub OpeningStands : Type 0
OpeningStands = (levels table : List ℕ) (rule : Rule) → any_of (eqb (number_of (opening levels table rule))) (0 ∷ 13 ∷ 14 ∷ 16 ∷ []) ≡ true

-- "A byte above 1, or a table not reflexive, antisymmetric and transitive, gives 16, after 13 and 14" (CR 6), and nothing else does
abbrev pub SixteenExactly : Type 0
SixteenExactly =
    (levels table : List ℕ) (rule : Rule)
    → (number_of (opening levels table rule) ≡ 16 → Passable levels table × (¬ PartialOrder table))
    × (Passable levels table → ¬ PartialOrder table → number_of (opening levels table rule) ≡ 16)

-- what gets none of these numbers is opened, with its levels, its table and its rule
abbrev pub OpenedExactly : Type 0
OpenedExactly =
    (levels table : List ℕ) (rule : Rule)
    → (number_of (opening levels table rule) ≡ 0 → Passable levels table × PartialOrder table × ((opening levels table rule).house ≡ opened levels table rule))
    × (Passable levels table → PartialOrder table → number_of (opening levels table rule) ≡ 0)

-- and a refused opening "holds the old chain" (CR 6) and takes rule A (CR 7), in the house of no items
abbrev pub RefusedIsOld : Type 0
RefusedIsOld = (levels table : List ℕ) (rule : Rule) → number_of (opening levels table rule) ≢ 0 → (opening levels table rule).house ≡ opened [] old_chain A
