-- Checks: tests in the order in which they are made, each with the number that it gives, or with the name of that number.
-- Assumes nothing.
use Rattle.std.specs.Prelude.{ℕ, Bool, false, cond, List, [], ◌∷◌, map, eqb, Option, Some, None}
use Rattle.house.specs.Search.{any_of}

-- "The first that applies is given, and it is given only then." 0 where none does
abbrev pub foremost : List (ℕ × Bool) → ℕ
foremost [] = 0
foremost (x ∷ xs) = cond x.1 x.0 (foremost xs)

-- the same of names: none where no check applies
abbrev pub first_of : {A : Type 0} → List (A × Bool) → Option A
first_of [] = None
first_of (x ∷ xs) = cond x.1 (Some x.0) (first_of xs)

-- each name by its number, and the number of a name; 0 is that of none
abbrev pub by_number : {A : Type 0} → (A → ℕ) → List (A × Bool) → List (ℕ × Bool)
by_number number = map (λ x. (number x.0, x.1))

abbrev pub number_or_0 : {A : Type 0} → (A → ℕ) → Option A → ℕ
number_or_0 number (Some a) = number a
number_or_0 number None = 0

-- one of them applies
abbrev pub some_applies : List (ℕ × Bool) → Bool
some_applies = any_of (λ x. x.1)

-- the test of number n, and the checks before it
abbrev pub test_of : ℕ → List (ℕ × Bool) → Bool
test_of n [] = false
test_of n (x ∷ xs) = cond (eqb x.0 n) x.1 (test_of n xs)

abbrev pub before : ℕ → List (ℕ × Bool) → List (ℕ × Bool)
before n [] = []
before n (x ∷ xs) = cond (eqb x.0 n) [] (x ∷ before n xs)
