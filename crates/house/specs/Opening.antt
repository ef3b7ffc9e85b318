-- Opening a house. "Opening takes a list of level bytes", and "now also takes 16 bytes" (CR 6): the order of the levels. "The opener
-- names rule A .. or rule B" (CR 7).
-- Assumes nothing.
use Rattle.std.specs.Prelude.{ℕ, ◌<◌, ◌≡◌, Bool, ◌||◌, not, cond, List, [], ◌∷◌, length, get_or, replicate, eqb, ltb, is_none, Result, MatchResult}
use Rattle.house.specs.declared.House.{House}
use Rattle.house.specs.declared.Item.{Item}
use Rattle.house.specs.declared.Misfit.{Misfit}
use Rattle.house.specs.declared.Opening.{Opening}
use Rattle.house.specs.declared.Rule.{Rule}
use Rattle.house.specs.declared.Rule.TheVariants.{A, B}
use Rattle.house.specs.Search.{any, map_from}
use Rattle.house.specs.House.{blank, vacant}
use Rattle.house.specs.Order.{old_chain, disordered}
use Rattle.house.specs.Checks.{foremost, first_of, by_number, number_or_0}

-- "Another rule .. gets 28" (CR 14) is for who names the rule by a number
abbrev pub misfit_number : Misfit → ℕ
misfit_number Misfit.Length = 13
misfit_number Misfit.Level = 14
misfit_number Misfit.Order = 16
misfit_number Misfit.Rule = 28

-- a byte is taken for the rule that it names: "0 for A, 1 for B" (CR 14); or it names none
abbrev pub rule_number : Rule → ℕ
rule_number A = 0
rule_number B = 1

abbrev pub Names : ℕ → Result Rule Misfit → Type 0
Names n r = MatchResult r (λ rule. rule_number rule ≡ n) (λ misfit. (misfit ≡ Misfit.Rule) × (1 < n))

-- the number of an opening: 0 where it is not refused
abbrev pub number_of : Opening → ℕ
number_of o = number_or_0 misfit_number o.misfit

-- "length 0 or above 64"
unfoldable pub wrong_count : ℕ → Bool
wrong_count n = eqb n 0 || ltb 64 n

abbrev pub wrong_length : List ℕ → Bool
wrong_length levels = wrong_count (length levels)

-- "a byte above 3", and whether the list has one
unfoldable pub high_at : List ℕ → ℕ → Bool
high_at levels i = ltb 3 (get_or levels i 0)

unfoldable pub wrong_level : List ℕ → Bool
wrong_level levels = any (high_at levels) 0 (length levels)

-- "a table not 16 bytes long"
unfoldable pub wrong_table : List ℕ → Bool
wrong_table order = not (eqb (length order) 16)

-- "Checks in order: length 0 or above 64 gives 13; a byte above 3 gives 14." "A byte above 1, or a table not reflexive,
-- antisymmetric and transitive, gives 16, after 13 and 14; a table not 16 bytes long .. gives 13" (CR 6)
abbrev pub misfits : List ℕ → List ℕ → List (Misfit × Bool)
misfits levels order = (Misfit.Length, wrong_length levels || wrong_table order) ∷ (Misfit.Level, wrong_level levels) ∷ (Misfit.Order, disordered order) ∷ []

unfoldable pub open_verdict : List ℕ → List ℕ → ℕ
open_verdict levels order = foremost (by_number misfit_number (misfits levels order))

-- an item of that level: "both 32 bits, both 0 at opening"
abbrev pub unsaved : ℕ → Item
unsaved l = record { level = l; value = 0; version = 0 }

-- the 64 rows. "Rows past the last item .. hold 0"
unfoldable pub row_at : List ℕ → ℕ → Item → Item
row_at levels i x = unsaved (get_or levels i 0)

unfoldable pub rows : List ℕ → List Item
rows levels = map_from 0 (row_at levels) (replicate 64 blank)

-- nothing pending, "every place free and every next ticket 1"; all cells "are clear at opening"
unfoldable pub opened : List ℕ → List ℕ → Rule → House
opened levels order rule = record { count = length levels; order = order; rule = rule; items = rows levels; pending = replicate 64 0; places = replicate 32 vacant; next = replicate 4 1; cells = replicate 2048 0 }

-- "A refused opening yields a house of no items with every place free and every next ticket 1", "holds the old chain" (CR 6), and takes
-- rule A (CR 7)
unfoldable pub opening : List ℕ → List ℕ → Rule → Opening
opening levels order rule =
    let misfit = first_of (misfits levels order) in
    record { misfit = misfit; house = cond (is_none misfit) (opened levels order rule) (opened [] old_chain A) }
