-- Two subjects side by side (CR 6): what levels that do not dominate each other have to do with each other, of every house value and every
-- request, whatever the table. (That they cannot tell anything of each other either is CR 3, in quiet.)
-- Assumes nothing.
use Rattle.std.specs.Prelude.{ℕ, ◌<◌, ◌≡◌, ◌≢◌, true, false}
use Rattle.house.specs.declared.House.{House}
use Rattle.house.specs.declared.Request.{Request}
use Rattle.house.specs.Cell.{cell_at}
use Rattle.house.specs.House.{Sizes, dominates, above, level_of, item_at, place_at}
use Rattle.house.specs.Rules.{read, certify, stepped}

-- THE STATEMENTS, proved in proofs/Beside.antt and proofs/Holder.antt

-- "geography and history markers must not read each other": a done read is of an item whose level the asker's dominates
abbrev pub ReadsBelow : Type 0
ReadsBelow = (h : House) (q : Request) → q.operation ≡ read → (stepped h q).reply.number ≡ 0 → dominates h.order q.level (item_at h.items q.item).level ≡ true

-- a request touches no place and no cell but those of its own level and of levels above it
abbrev pub ReachesUp : Type 0
ReachesUp =
    (h : House) → Sizes h → (q : Request) (p : ℕ) → p < 32 → level_of p ≢ q.level → above h.order (level_of p) q.level ≡ false
    → let h' = (stepped h q).house in
    (place_at h'.places p ≡ place_at h.places p) × ((i : ℕ) → i < 64 → cell_at h'.cells p i ≡ cell_at h.cells p i)

-- a certify waits for its own level alone: a delay's reply has the holder's level in its version field
abbrev pub WaitsForPeers : Type 0
WaitsForPeers = (h : House) (q : Request) → q.operation ≡ certify → (stepped h q).reply.number ≡ 1 → (stepped h q).reply.version ≡ q.level
