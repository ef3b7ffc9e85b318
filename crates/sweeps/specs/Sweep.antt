-- What a sweep does to cells of any number. Of the 2,048 that a house has it is the word of the rules (`swept_whole`,
-- proofs/Whole.antt).
-- Assumes nothing.
use Rattle.std.specs.Prelude.{ℕ, Bool, cond, ◌&&◌, List, eqb, ltb}
use Rattle.house.specs.declared.Mark.TheVariants.{Read, Signalled}
use Rattle.house.specs.Cell.{has, marked, map_cells}
use Rattle.house.specs.House.{level_of}

-- a cell of the 32 places through f, any other as it is
unfoldable pub of_house : (ℕ → ℕ → ℕ → ℕ) → ℕ → ℕ → ℕ → ℕ
of_house f p i c = cond (ltb p 32) (f p i c) c

unfoldable pub swept : (ℕ → ℕ → ℕ → ℕ) → List ℕ → List ℕ
swept f cells = map_cells (of_house f) cells

-- the cells of item i through f, which is told their place, any other as it is
unfoldable pub on_item : ℕ → (ℕ → ℕ → ℕ) → ℕ → ℕ → ℕ → ℕ
on_item i f p j c = cond (eqb j i) (f p c) c

-- the cell c of place p: a read lock held from a level that has f is marked signalled
unfoldable pub signalled_from : (ℕ → Bool) → ℕ → ℕ → ℕ
signalled_from f p c = cond (f (level_of p) && has Read c) (marked Signalled c) c
