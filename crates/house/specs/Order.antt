-- The order of the levels (CR 6): what a table must be, and the tests by which an opening finds out.
-- Assumes nothing.
use Rattle.std.specs.Prelude.{ℕ, ◌+◌, ◌*◌, ◌/◌, ◌%◌, ◌≤◌, ◌<◌, Bool, true, ◌&&◌, ◌||◌, not, List, [], ◌∷◌, ◌≡◌, get_or, eqb, ltb}
use Rattle.house.specs.Search.{any}
use Rattle.house.specs.House.{dominates}

-- a table as it must be: no byte above 1, "reflexive, antisymmetric and transitive"
pub record PartialOrder (order : List ℕ) : Type 0 where
  pub bits : (n : ℕ) → n < 16 → get_or order n 0 ≤ 1
  pub reflexive : (a : ℕ) → a < 4 → dominates order a a ≡ true
  pub antisymmetric : (a b : ℕ) → a < 4 → b < 4 → dominates order a b ≡ true → dominates order b a ≡ true → a ≡ b
  pub transitive : (a b c : ℕ) → a < 4 → b < 4 → c < 4 → dominates order a b ≡ true → dominates order b c ≡ true → dominates order a c ≡ true

-- "the old chain": "A larger number dominates a smaller one."
unfoldable pub old_chain : List ℕ
old_chain =
    1 ∷ 1 ∷ 1 ∷ 1
    ∷ 0 ∷ 1 ∷ 1 ∷ 1
    ∷ 0 ∷ 0 ∷ 1 ∷ 1
    ∷ 0 ∷ 0 ∷ 0 ∷ 1
    ∷ []

-- an order that is no chain: pupils 0, "geography and history markers" 1 and 2, who "must not read each other", examiners 3
unfoldable pub diamond : List ℕ
diamond =
    1 ∷ 1 ∷ 1 ∷ 1
    ∷ 0 ∷ 1 ∷ 0 ∷ 1
    ∷ 0 ∷ 0 ∷ 1 ∷ 1
    ∷ 0 ∷ 0 ∷ 0 ∷ 1
    ∷ []

-- THE TESTS. What may be wrong at levels a, b and c

-- "A byte above 1"
unfoldable pub large : List ℕ → ℕ → ℕ → Bool
large order a b = ltb 1 (get_or order (4 * b + a) 0)

-- not reflexive
unfoldable pub loose : List ℕ → ℕ → Bool
loose order a = not (dominates order a a)

-- not antisymmetric
unfoldable pub tied : List ℕ → ℕ → ℕ → Bool
tied order a b = dominates order a b && dominates order b a && not (eqb a b)

-- not transitive
unfoldable pub broken : List ℕ → ℕ → ℕ → ℕ → Bool
broken order a b c = dominates order a b && dominates order b c && not (dominates order a c)

-- the 64 triples of levels are numbered in order
unfoldable pub wrong_at : List ℕ → ℕ → Bool
wrong_at order n =
    let a = n / 16 in
    let b = n / 4 % 4 in
    let c = n % 4 in
    large order a b || loose order a || tied order a b || broken order a b c

unfoldable pub disordered : List ℕ → Bool
disordered order = any (wrong_at order) 0 64
