-- What each effect leaves in the items, the places, the next tickets and the cells.
-- A law that ends in `-other` speaks of what the effect does not reach; where it reaches nothing of a kind, that part is the
-- old one by computation (`unfolding` the effect, `refl`).
-- Assumes nothing.
use Prim.Native.Nat.{ℕ, ◌<◌}
use native.Mathlib.Omega.{arith}
use mathlib.Core.Path.{◌≡◌, refl, ap}
use mathlib.Core.Logic.{◌≢◌, inl, inr}
use mathlib.Core.Bool.{false}
use mathlib.Core.List.{List}
use lib.ListN.{length, set, length-set}
use lib.Dec.{eqb}
use lib.Seq.{get_or-set_same, get_or-set_other}
use Rattle.house.specs.declared.House.{House}
use Rattle.house.specs.declared.Item.{Item}
use Rattle.house.specs.declared.Mark.TheVariants.{Read, Write, Certify}
use Rattle.house.specs.declared.Place.{Place}
use Rattle.house.specs.declared.Standing.TheVariants.{Active, Certified}
use Rattle.house.specs.Cell.{cell_at, map_cells, holds}
use Rattle.house.specs.House.{fixed, Sizes, blank, vacant, item_at, pending_at, place_at, next_at}
use Rattle.house.specs.Rules.{ticket_after, begun, read_by, certify, commit, written_by, signals_at, signalled_cell, signalled, converted_cell, certified_by, cleared_cell, dropped_pending, left, committed_item, committed_by, aborted_by}
use Rattle.std.proofs.lemmas.Bool.{cases_Bool}
use Rattle.house.proofs.Lists.{length_map_from, get_or_map_from, map_from_kept, map_map_from_same}
use Rattle.house.proofs.Cells.{cell_elsewhere, cell_mapped, length_with_mark, length_map_cells}

-- a list with one element set, read there and elsewhere
place_set : (places : List Place) → length places ≡ 32 → (p : ℕ) (x : Place) → p < 32 → place_at (set places p x) p ≡ x
place_set places long p x b = get_or-set_same places p x vacant (omega arith)

place_other : (places : List Place) (p q : ℕ) (x : Place) → q ≢ p → place_at (set places p x) q ≡ place_at places q
place_other places p q x n = get_or-set_other places p q x vacant n

module _ {h : House} (z : Sizes h) where
  -- Begin
  pub begun_sizes : (l me : ℕ) → Sizes (begun h l me)
  unfolding begun
  begun_sizes l me = record { order = z.order; items = z.items; pending = z.pending; places = simp length-set z.places; next = simp length-set z.next; cells = z.cells }

  pub begun_place : (l me : ℕ) → me < 32 → place_at (begun h l me).places me ≡ record { standing = Active; ticket = next_at h.next l }
  unfolding begun
  begun_place l me b = place_set h.places z.places me _ b

  pub begun_next : (l me : ℕ) → l < 4 → next_at (begun h l me).next l ≡ ticket_after (next_at h.next l)
  unfolding begun
  begun_next l me b = let n = z.next in get_or-set_same h.next l _ 0 (omega arith)

  -- Read
  pub read_sizes : (me i : ℕ) → Sizes (read_by h me i)
  unfolding read_by
  read_sizes me i = record { order = z.order; items = z.items; pending = z.pending; places = z.places; next = z.next; cells = length_with_mark h.cells z.cells Read me i }

  -- Write
  pub written_sizes : (me i v : ℕ) → Sizes (written_by h me i v)
  unfolding written_by
  written_sizes me i v = record { order = z.order; items = z.items; pending = simp length-set z.pending; places = z.places; next = z.next; cells = length_with_mark h.cells z.cells Write me i }

  pub written_pending : (me i v : ℕ) → i < 64 → pending_at (written_by h me i v).pending i ≡ v
  unfolding written_by
  written_pending me i v a = let n = z.pending in get_or-set_same h.pending i v 0 (omega arith)

  -- Signals
  pub signalled_long : (n me : ℕ) → length (signalled n h me) ≡ 2048
  unfolding signalled
  signalled_long n me = length_map_cells h.cells z.cells (signalled_cell _ h.order h.cells me)

  pub signalled_cell_lem : (n me p i : ℕ) → p < 32 → i < 64 → cell_at (signalled n h me) p i ≡ signalled_cell (eqb (signals_at h.rule) n) h.order h.cells me p i (cell_at h.cells p i)
  unfolding signalled
  signalled_cell_lem n me p i b a = cell_mapped h.cells z.cells (signalled_cell _ h.order h.cells me) p i b a

  -- an operation that gives none
  pub signalled_none : (n me : ℕ) → eqb (signals_at h.rule) n ≡ false → signalled n h me ≡ h.cells
  unfolding signalled map_cells signalled_cell
  signalled_none n me e = map_from_kept 0 _ h.cells (λ k c b. rw e)

  -- Certify
  pub certified_sizes : (me : ℕ) → Sizes (certified_by h me)
  unfolding certified_by
  certified_sizes me = record { order = z.order; items = z.items; pending = z.pending; places = simp length-set z.places; next = z.next; cells = length_map_cells (signalled certify h me) (signalled_long certify me) (converted_cell me) }

  pub certified_place : (me : ℕ) → me < 32 → place_at (certified_by h me).places me ≡ record { standing = Certified; ticket = (place_at h.places me).ticket }
  unfolding certified_by
  certified_place me b = place_set h.places z.places me _ b

  pub certified_cell : (me p i : ℕ) → p < 32 → i < 64 → cell_at (certified_by h me).cells p i ≡ converted_cell me p i (cell_at (signalled certify h me) p i)
  unfolding certified_by
  certified_cell me p i b a = cell_mapped (signalled certify h me) (signalled_long certify me) (converted_cell me) p i b a

  -- Commit and abort
  module _ (cells : List ℕ) (me : ℕ) where
    pub left_sizes : length cells ≡ 2048 → Sizes (left cells h me)
    unfolding left
    left_sizes long = record { order = z.order; items = z.items; pending = simp length_map_from z.pending; places = simp length-set z.places; next = z.next; cells = length_map_cells cells long (cleared_cell me) }

    pub left_pending : (i : ℕ) → i < 64 → pending_at (left cells h me).pending i ≡ dropped_pending h.cells me i (pending_at h.pending i)
    unfolding left
    left_pending i a = let n = z.pending in get_or_map_from (dropped_pending h.cells me) h.pending i 0 (omega arith)

    pub left_place : me < 32 → place_at (left cells h me).places me ≡ vacant
    unfolding left
    left_place b = place_set h.places z.places me _ b

    pub left_cell : length cells ≡ 2048 → (p i : ℕ) → p < 32 → i < 64 → cell_at (left cells h me).cells p i ≡ cleared_cell me p i (cell_at cells p i)
    unfolding left
    left_cell long p i b a = cell_mapped cells long (cleared_cell me) p i b a

  pub committed_sizes : (me : ℕ) → Sizes (committed_by h me)
  committed_sizes me =
      let y = left_sizes (signalled commit h me) me (signalled_long commit me) in
      record { order = y.order; items = simp length_map_from z.items; pending = y.pending; places = y.places; next = y.next; cells = y.cells }

  pub committed_item_lem : (me i : ℕ) → i < 64 → item_at (committed_by h me).items i ≡ committed_item h.cells h.pending me i (item_at h.items i)
  committed_item_lem me i a = let n = z.items in get_or_map_from (committed_item h.cells h.pending me) h.items i blank (omega arith)

-- What an effect does not reach

module _ (h : House) where
  pub begun_place_other : (l me p : ℕ) → p ≢ me → place_at (begun h l me).places p ≡ place_at h.places p
  unfolding begun
  begun_place_other l me p n = place_other h.places me p _ n

  pub begun_next_other : (l me k : ℕ) → k ≢ l → next_at (begun h l me).next k ≡ next_at h.next k
  unfolding begun
  begun_next_other l me k n = get_or-set_other h.next l k _ 0 n

  pub read_cell_other : (me i p j : ℕ) → i < 64 → j < 64 → (p ≡ me → j ≢ i) → cell_at (read_by h me i).cells p j ≡ cell_at h.cells p j
  unfolding read_by
  read_cell_other me i p j a b n = cell_elsewhere Read h.cells me i p j a b n

  pub written_cell_other : (me i v p j : ℕ) → i < 64 → j < 64 → (p ≡ me → j ≢ i) → cell_at (written_by h me i v).cells p j ≡ cell_at h.cells p j
  unfolding written_by
  written_cell_other me i v p j a b n = cell_elsewhere Write h.cells me i p j a b n

  pub written_pending_other : (me i v j : ℕ) → j ≢ i → pending_at (written_by h me i v).pending j ≡ pending_at h.pending j
  unfolding written_by
  written_pending_other me i v j n = get_or-set_other h.pending i j v 0 n

  pub certified_place_other : (me p : ℕ) → p ≢ me → place_at (certified_by h me).places p ≡ place_at h.places p
  unfolding certified_by
  certified_place_other me p n = place_other h.places me p _ n

  pub left_place_other : (cells : List ℕ) (me p : ℕ) → p ≢ me → place_at (left cells h me).places p ≡ place_at h.places p
  unfolding left
  left_place_other cells me p n = place_other h.places me p _ n

-- What an opening fixed stays

module _ (h : House) where
  pub begun_fixed : (l me : ℕ) → fixed (begun h l me) ≡ fixed h
  unfolding fixed begun
  begun_fixed l me = refl

  pub read_fixed : (me i : ℕ) → fixed (read_by h me i) ≡ fixed h
  unfolding fixed read_by
  read_fixed me i = refl

  pub written_fixed : (me i v : ℕ) → fixed (written_by h me i v) ≡ fixed h
  unfolding fixed written_by
  written_fixed me i v = refl

  pub certified_fixed : (me : ℕ) → fixed (certified_by h me) ≡ fixed h
  unfolding fixed certified_by
  certified_fixed me = refl

  committed_level : (me i : ℕ) (x : Item) → (committed_item h.cells h.pending me i x).level ≡ x.level
  unfolding committed_item
  committed_level me i x = elim (cases_Bool (holds h.cells Certify me i)) [ inl e ↦ rw e | inr e ↦ rw e ]

  pub committed_fixed : (me : ℕ) → fixed (committed_by h me) ≡ fixed h
  unfolding fixed left
  committed_fixed me = ap (λ l. (h.count, h.order, h.rule, l)) (map_map_from_same (λ x. x.level) 0 (committed_item h.cells h.pending me) h.items (committed_level me))

  pub aborted_fixed : (me : ℕ) → fixed (aborted_by h me) ≡ fixed h
  unfolding fixed left
  aborted_fixed me = refl
