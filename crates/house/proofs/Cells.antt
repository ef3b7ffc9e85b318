-- Laws of the lock cells.
-- Assumes nothing.
use Prim.Native.Nat.{ℕ, ◌+◌, ◌-◌, ◌*◌, ◌/◌, ◌%◌, ◌≤◌, ◌<◌}
use native.Mathlib.Omega.{arith}
use native.Mathlib.Nat.{add-div_right, add-mul-div_left, add-mul-mod_self_left, div-div-eq-div-mul}
use mathlib.Core.Path.{◌≡◌, refl, sym, ap, ap₂, ◌∙◌}
use mathlib.Core.Logic.{◌≢◌, inl, inr}
use mathlib.Core.Bool.{Bool, true, false, ◌&&◌, ◌||◌, not}
use mathlib.Core.List.{List}
use lib.ListN.{length, get_or, length-set}
use lib.Seq.{get_or-set_same, get_or-set_other, ext_get_or}
use lib.Dec.{eqb}
use borrow.Author.Tests.{eqb-true, eqb-false, eq-eqb, ne_eqb}
use Rattle.house.specs.declared.Mark.{Mark}
use Rattle.house.specs.declared.Mark.TheVariants.{Read, Write, Certify, Signalled}
use Rattle.house.specs.Cell.{weight, has, marked, unmarked, cell_at, with_mark, map_cells}
use Rattle.std.proofs.lemmas.Bool.{cases_Bool}
use Rattle.std.proofs.Math.Bool.{and-true, and-false}
use Rattle.house.proofs.Tests.{same}
use Rattle.house.proofs.Lists.{length_map_from, get_or_map_from}

-- the two marks are the same; at two marks by name it computes
abbrev pub alike : Mark → Mark → Bool
alike n m = eqb (weight n) (weight m)

-- A mark that the cell has not, added. w is its weight; a lower mark's weight is v with w ≡ v * (2 * j), a higher one's w * (2 * k)

added_here : (w c : ℕ) → 0 < w → c / w % 2 ≢ 1 → eqb ((c + w) / w % 2) 1 ≡ true
added_here w c s e = ap (λ n. eqb (n % 2) 1) (add-div_right c s) ∙ eq-eqb ((c / w + 1) % 2) 1 (omega arith)

added_below : (v j c : ℕ) → 0 < v → eqb ((c + v * (2 * j)) / v % 2) 1 ≡ eqb (c / v % 2) 1
added_below v j c s = rw (add-mul-div_left c (2 * j) s, add-mul-mod_self_left (c / v) 2 j)

odd_half : (a : ℕ) → a % 2 ≢ 1 → (a + 1) / 2 ≡ a / 2
odd_half a e = omega arith

added_above : (w k c : ℕ) → 0 < w → c / w % 2 ≢ 1 → eqb ((c + w) / (w * (2 * k)) % 2) 1 ≡ eqb (c / (w * (2 * k)) % 2) 1
added_above w k c s e =
    ap (λ n. eqb (n % 2) 1)
    (sym (div-div-eq-div-mul (c + w) w (2 * k))
    ∙ rw (add-div_right c s) (sym (div-div-eq-div-mul (c / w + 1) 2 k) ∙ rw (odd_half (c / w) e) (div-div-eq-div-mul (c / w) 2 k))
    ∙ div-div-eq-div-mul c w (2 * k))

added : (n m : Mark) (c : ℕ) → c / weight m % 2 ≢ 1 → eqb ((c + weight m) / weight n % 2) 1 ≡ (alike n m || eqb (c / weight n % 2) 1)
added Read Read c e = added_here 1 c (omega arith) e
added Read Write c e = added_below 1 1 c (omega arith)
added Read Certify c e = added_below 1 2 c (omega arith)
added Read Signalled c e = added_below 1 4 c (omega arith)
added Write Read c e = added_above 1 1 c (omega arith) e
added Write Write c e = added_here 2 c (omega arith) e
added Write Certify c e = added_below 2 1 c (omega arith)
added Write Signalled c e = added_below 2 2 c (omega arith)
added Certify Read c e = added_above 1 2 c (omega arith) e
added Certify Write c e = added_above 2 1 c (omega arith) e
added Certify Certify c e = added_here 4 c (omega arith) e
added Certify Signalled c e = added_below 4 1 c (omega arith)
added Signalled Read c e = added_above 1 4 c (omega arith) e
added Signalled Write c e = added_above 2 2 c (omega arith) e
added Signalled Certify c e = added_above 4 1 c (omega arith) e
added Signalled Signalled c e = added_here 8 c (omega arith) e

had : (n m : Mark) (c : ℕ) → has m c ≡ true → has n c ≡ (alike n m || has n c)
unfolding has
had n m c y = elim (cases_Bool (alike n m)) [ inl e ↦ rw e (rw (eqb-true (weight n) (weight m) e) y) | inr e ↦ rw e ]

-- what a cell has once it is marked
pub has_marked : (n m : Mark) (c : ℕ) → has n (marked m c) ≡ (alike n m || has n c)
unfolding has marked
has_marked n m c = elim (cases_Bool (has m c)) [ inl e ↦ rw e (had n m c e) | inr e ↦ rw e (added n m c (eqb-false _ 1 e)) ]

pub weight_some : (m : Mark) → 0 < weight m
weight_some Read = omega arith
weight_some Write = omega arith
weight_some Certify = omega arith
weight_some Signalled = omega arith

-- a mark that the cell has can be taken off; one that a byte has not fits in it
pub removable : (m : Mark) (c : ℕ) → has m c ≡ true → weight m ≤ c
unfolding has
removable Read c e = omega (arith, eqb-true)
removable Write c e = omega (arith, eqb-true)
removable Certify c e = omega (arith, eqb-true)
removable Signalled c e = omega (arith, eqb-true)

pub room : (m : Mark) (c : ℕ) → c < 256 → has m c ≡ false → c + weight m < 256
unfolding has
room Read c h e = omega (arith, eqb-false)
room Write c h e = omega (arith, eqb-false)
room Certify c h e = omega (arith, eqb-false)
room Signalled c h e = omega (arith, eqb-false)

module _ (n m : Mark) (c : ℕ) where
  again : has m c ≡ true → c - weight m + weight m ≡ c
  again y = omega (arith, removable m c y)

  taken : has m c ≡ true → (c - weight m) / weight m % 2 ≢ 1
  unfolding has
  taken y k = omega (arith, eqb-true (c / weight m % 2) 1 y, ap (λ b. b / weight m % 2) (again y), ap (λ b. b % 2) (add-div_right (c - weight m) (weight_some m)))

  -- and once it is unmarked
  pub has_unmarked : has n (unmarked m c) ≡ (not (alike n m) && has n c)
  unfolding has unmarked
  has_unmarked = elim (cases_Bool (has m c)) [
    | inl y ↦ rw y (elim (cases_Bool (alike n m)) [
      | inl e ↦ rw e (rw (eqb-true (weight n) (weight m) e) (ne_eqb _ 1 (taken y)))
      | inr e ↦ rw e (sym (rw (e, again y) at (added n m (c - weight m) (taken y))))
    ])
    | inr y ↦ rw y (elim (cases_Bool (alike n m)) [ inl e ↦ rw e (rw (eqb-true (weight n) (weight m) e) y) | inr e ↦ rw e ])
  ]

-- Where the cells lie: the cell of place p and item i is number p * 64 + i, and no other

pub place_of : (p i : ℕ) → i < 64 → (p * 64 + i) / 64 ≡ p
place_of p i a = omega arith

pub item_of : (p i : ℕ) → i < 64 → (p * 64 + i) % 64 ≡ i
item_of p i a = omega arith

module _ (cells : List ℕ) (long : length cells ≡ 2048) where
  pub cell_here : (m : Mark) (p i : ℕ) → p < 32 → i < 64 → cell_at (with_mark m cells p i) p i ≡ marked m (cell_at cells p i)
  unfolding cell_at with_mark
  cell_here m p i b a = get_or-set_same cells (p * 64 + i) _ 0 (omega arith)

  pub cell_mapped : (f : ℕ → ℕ → ℕ → ℕ) (p i : ℕ) → p < 32 → i < 64 → cell_at (map_cells f cells) p i ≡ f p i (cell_at cells p i)
  unfolding cell_at map_cells
  cell_mapped f p i b a =
      get_or_map_from (λ n c. f (n / 64) (n % 64) c) cells (p * 64 + i) 0 (omega arith)
      ∙ ap₂ (λ q j. f q j (get_or cells (p * 64 + i) 0)) (place_of p i a) (item_of p i a)

  pub length_with_mark : (m : Mark) (p i : ℕ) → length (with_mark m cells p i) ≡ 2048
  unfolding with_mark
  length_with_mark m p i = simp length-set long

  pub length_map_cells : (f : ℕ → ℕ → ℕ → ℕ) → length (map_cells f cells) ≡ 2048
  unfolding map_cells
  length_map_cells f = simp length_map_from long

-- two houses' cells are the same where each cell is
pub cells_same : (cells others : List ℕ) → length cells ≡ 2048 → length others ≡ 2048 → ((p i : ℕ) → p < 32 → i < 64 → cell_at cells p i ≡ cell_at others p i) → cells ≡ others
unfolding cell_at
cells_same cells others long long' e =
    ext_get_or 0 cells others (long ∙ sym long')
    (λ n b. let at : n / 64 * 64 + n % 64 ≡ n = omega arith in rw at at (e (n / 64) (n % 64) (omega arith) (omega arith)))

pub cell_elsewhere : (m : Mark) (cells : List ℕ) (p i q j : ℕ) → i < 64 → j < 64 → (q ≡ p → j ≢ i) → cell_at (with_mark m cells p i) q j ≡ cell_at cells q j
unfolding cell_at with_mark
cell_elsewhere m cells p i q j a b n = get_or-set_other cells (p * 64 + i) (q * 64 + j) _ 0 (λ e. n (same_place e) (same_item e))
  where
    same_place : q * 64 + j ≡ p * 64 + i → q ≡ p
    same_place e = omega arith

    same_item : q * 64 + j ≡ p * 64 + i → j ≡ i
    same_item e = omega arith

-- what the cells of a place have once that of item i is marked
pub has_with_mark : (cells : List ℕ) → length cells ≡ 2048 → (n m : Mark) (p i j : ℕ) → p < 32 → i < 64 → j < 64 → has n (cell_at (with_mark m cells p i) p j) ≡ (alike n m && eqb j i || has n (cell_at cells p j))
has_with_mark cells long n m p i j b a c =
    elim (same j i) [
      | inl e ↦ rw (e, cell_here cells long m p i b a, has_marked n m (cell_at cells p i), eq-eqb i i refl, and-true (alike n m))
      | inr d ↦ rw (cell_elsewhere m cells p i p j a c (λ e. d), ne_eqb j i d, and-false (alike n m))
    ]
