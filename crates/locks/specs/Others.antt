-- What a scan looks for in the cells of others.
-- Assumes nothing.
use Rattle.std.specs.Prelude.{ℕ, ◌<◌, ◌≡◌, Bool, ◌&&◌, not, List, eqb}
use Rattle.house.specs.Cell.{cell_at}

-- a call of it, at a number below n, answers as the test does
abbrev pub Tests : (ℕ → Bool → Type 0) → (ℕ → Bool) → ℕ → Type 0
Tests answers test n = (x : ℕ) (r : Bool) → x < n → answers x r → r ≡ test x

-- place p is another than `me`, and its cell of item i passes
abbrev pub other : (ℕ → Bool) → List ℕ → ℕ → ℕ → ℕ → Bool
other test cells me i p = not (eqb p me) && test (cell_at cells p i)
