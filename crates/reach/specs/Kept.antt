-- What every reachable house keeps: one record, each field a sentence.
-- Assumes nothing.
use Rattle.std.specs.Prelude.{ℕ, ◌≤◌, ◌<◌, ◌≡◌, ◌≢◌, true, false, List}
use Rattle.house.specs.declared.House.{House}
use Rattle.house.specs.declared.Mark.TheVariants.{Read, Write, Certify, Signalled}
use Rattle.house.specs.declared.Request.{Request}
use Rattle.house.specs.declared.Rule.{Rule}
use Rattle.house.specs.declared.Rule.TheVariants.{A}
use Rattle.house.specs.Cell.{cell_at, holds}
use Rattle.house.specs.House.{Sizes, dominates, above, level_of, blank, item_at, pending_at, place_at, next_at, is_free, is_active, is_certified}
use Rattle.house.specs.Order.{PartialOrder}
use Rattle.house.specs.Rules.{wrote, stepped}
use Rattle.house.specs.Opening.{opening}
use Rattle.reach.specs.Reach.{Reachable}

-- a transaction stands at place p
abbrev pub Open : House → ℕ → Type 0
Open h p = is_free (place_at h.places p).standing ≡ false

-- ticket t of level l has been given out: it is below the next one, or none is left
unfoldable pub Issued : House → ℕ → ℕ → Type 0
Issued h l t = next_at h.next l ≢ 0 → t < next_at h.next l

-- Items are i < 64 and places p, r < 32 throughout
pub record Kept (h : House) : Type 0 where
  -- the lists are as long as the arrays: 16 bytes of the order, 64 items, 64 pending values, 32 places, 4 next tickets, 2,048 cells
  pub sizes : Sizes h
  -- which levels dominate which is a partial order
  pub order : PartialOrder h.order
  -- THE ITEMS
  -- there are at most 64 items
  pub count : h.count ≤ 64
  -- an item's level is 0 to 3
  pub levels : (i : ℕ) → i < 64 → (item_at h.items i).level < 4
  -- a row past the last item is blank, and nothing is pending there
  pub rows : (i : ℕ) → i < 64 → h.count ≤ i → (item_at h.items i ≡ blank) × (pending_at h.pending i ≡ 0)
  -- the pending value is 0 when nobody has written
  pub pending : (i : ℕ) → i < 64 → ((p : ℕ) → p < 32 → wrote h.cells p i ≡ false) → pending_at h.pending i ≡ 0
  -- and not 0 when somebody has: what is written is no blank sheet
  pub drawn : (p i : ℕ) → p < 32 → i < 64 → wrote h.cells p i ≡ true → pending_at h.pending i ≢ 0
  -- THE PLACES
  -- a free place has ticket 0
  pub ticketless : (p : ℕ) → p < 32 → is_free (place_at h.places p).standing ≡ true → (place_at h.places p).ticket ≡ 0
  -- nobody's ticket is 0
  pub named : (p : ℕ) → p < 32 → Open h p → (place_at h.places p).ticket ≢ 0
  -- no two transactions have one name
  pub apart : (p r : ℕ) → p < 32 → r < 32 → Open h p → Open h r → level_of p ≡ level_of r → (place_at h.places p).ticket ≡ (place_at h.places r).ticket → p ≡ r
  -- a ticket is below the next one of its level, or none is left there
  pub issued : (p : ℕ) → p < 32 → Open h p → Issued h (level_of p) (place_at h.places p).ticket
  -- the next ticket is one of 32 bits, or 0 where none is left
  pub next : (l : ℕ) → l < 4 → next_at h.next l ≤ 4294967295
  -- THE CELLS
  -- a free place's cells are clear
  pub idle : (p i : ℕ) → p < 32 → i < 64 → is_free (place_at h.places p).standing ≡ true → cell_at h.cells p i ≡ 0
  -- a row past the last item has clear cells
  pub inside : (p i : ℕ) → p < 32 → i < 64 → h.count ≤ i → cell_at h.cells p i ≡ 0
  -- read locks are on dominated items only
  pub below : (p i : ℕ) → p < 32 → i < 64 → holds h.cells Read p i ≡ true → dominates h.order (level_of p) (item_at h.items i).level ≡ true
  -- write and certify locks are at the item's level
  pub owned : (p i : ℕ) → p < 32 → i < 64 → wrote h.cells p i ≡ true → (item_at h.items i).level ≡ level_of p
  -- at most one transaction holds write or certify on an item
  pub sole : (p r i : ℕ) → p < 32 → r < 32 → i < 64 → wrote h.cells p i ≡ true → wrote h.cells r i ≡ true → p ≡ r
  -- only the active hold write, and only the certified hold certify
  pub writing : (p i : ℕ) → p < 32 → i < 64 → holds h.cells Write p i ≡ true → is_active (place_at h.places p).standing ≡ true
  pub certifying : (p i : ℕ) → p < 32 → i < 64 → holds h.cells Certify p i ≡ true → is_certified (place_at h.places p).standing ≡ true
  -- an item on which one holds certify has no other reader at its level, only such as are above it
  pub higher : (p r i : ℕ) → p < 32 → r < 32 → i < 64 → r ≢ p → holds h.cells Certify p i ≡ true → holds h.cells Read r i ≡ true → above h.order (level_of r) (level_of p) ≡ true
  -- and, where a certify gives the signals, each of them is signalled
  pub warned : h.rule ≡ A → (p r i : ℕ) → p < 32 → r < 32 → i < 64 → r ≢ p → holds h.cells Certify p i ≡ true → holds h.cells Read r i ≡ true → holds h.cells Signalled r i ≡ true
  -- whoever is signalled has a read lock there
  pub heard : (p i : ℕ) → p < 32 → i < 64 → holds h.cells Signalled p i ≡ true → holds h.cells Read p i ≡ true
  -- a written item's version can grow
  pub room : (p i : ℕ) → p < 32 → i < 64 → wrote h.cells p i ≡ true → (item_at h.items i).version < 4294967295

-- THE STATEMENTS, proved in proofs/Kept.antt and proofs/Opened.antt

-- an opening yields such a house, and a request leads from such a house to such a house
abbrev pub OpeningHas : Type 0
OpeningHas = (levels table : List ℕ) (rule : Rule) → Kept (opening levels table rule).house

abbrev pub StepKeeps : Type 0
StepKeeps = (h : House) → Kept h → (q : Request) → Kept (stepped h q).house

-- so every house that can be reached is such a one
abbrev pub ReachableHas : Type 0
ReachableHas = (h : House) → Reachable h → Kept h
