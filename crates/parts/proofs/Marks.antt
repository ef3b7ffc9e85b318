-- A mark that is added to a cell, or taken from it, where what was asked of the cell says that it can be.
-- Assumes nothing.
use Prim.Native.Nat.{ℕ, ◌+◌, ◌-◌, ◌≤◌}
use mathlib.Core.Path.{◌≡◌, sym, ◌∙◌}
use mathlib.Core.Bool.{Bool, true, false}
use mir.Syntax.{w8}
use mir.Val.{Fits}
use Rattle.house.proofs.Cells.{room, removable}
use Rattle.house.specs.declared.Mark.{Mark}
use Rattle.house.specs.Cell.{weight, has, marked, unmarked}

module _ (m : Mark) (c w : ℕ) (b : Bool) (e : w ≡ weight m) (a : b ≡ has m c) where
  pub room_for : Fits w8 c → b ≡ false → Fits w8 (c + w)
  room_for f n = record { fits = rw e (room m c f.fits (sym a ∙ n)) }

  pub added : b ≡ false → c + w ≡ marked m c
  unfolding marked
  added n = rw (sym a ∙ n, e)

  pub not_more : b ≡ true → w ≤ c
  not_more y = rw e (removable m c (sym a ∙ y))

  pub taken : b ≡ true → c - w ≡ unmarked m c
  unfolding unmarked
  taken y = rw (sym a ∙ y, e)
