-- No blank sheets (CR 1): "Values are sheet numbers, and 0 marks an unsaved layer."
-- Assumes nothing.
use Rattle.std.specs.Prelude.{ℕ, ◌<◌, ◌≡◌, ◌≢◌, ◌⊎◌, eqb}
use Rattle.house.specs.declared.House.{House}
use Rattle.house.specs.declared.Request.{Request}
use Rattle.house.specs.House.{item_at}
use Rattle.house.specs.Rules.{stepped}
use Rattle.reach.specs.Reach.{Reachable}

-- THE STATEMENTS, proved in proofs/Sheets.antt. Items are i < 64

-- no request puts a 0: the item's row stays as it was, or has a sheet
abbrev pub NoBlankPut : Type 0
NoBlankPut = (h : House) → Reachable h → (q : Request) (i : ℕ) → i < 64 → (item_at (stepped h q).house.items i ≡ item_at h.items i) ⊎ ((item_at (stepped h q).house.items i).value ≢ 0)

-- so "0 marks an unsaved layer": an item holds 0 exactly as long as its version is 0, which no commit has raised
abbrev pub ZeroUnsaved : Type 0
ZeroUnsaved = (h : House) → Reachable h → (i : ℕ) → i < 64 → eqb (item_at h.items i).value 0 ≡ eqb (item_at h.items i).version 0
