-- What a sweep does to the one cell or item of a round, and to all others.
-- Assumes nothing.
use Rattle.std.proofs.Math.Bool.{and-false}
use Prim.Native.Nat.{ℕ, zero, suc, ◌+◌, ◌-◌, ◌*◌, ◌/◌, ◌%◌, ◌<◌, ◌≤◌}
use native.Mathlib.Omega.{arith}
use mathlib.Core.Path.{◌≡◌, refl, sym, ap, ◌∙◌}
use mathlib.Core.Logic.{◌≢◌, inl, inr}
use mathlib.Core.Bool.{Bool, true, false, ◌||◌, not, cond}
use mathlib.Core.List.{List, [], ◌∷◌, ◌++◌, map}
use lib.ListN.{length, get_or, set, take, drop, replicate, get_or-append}
use lib.Seq.{ext_get_or}
use borrow.Rule.Slice.PartMut.{put_mid}
use Rattle.std.proofs.Common.{length-take-le, length-drop, length-append}
use Rattle.std.proofs.lemmas.List.{length-replicate, get_or-replicate, get_or-append_right, get_or-take, get_or-drop}
use lib.Dec.{eqb, ltb}
use borrow.Author.Tests.{eq-eqb, ne_eqb, lt-ltb, le-ltb, ltb-true, ltb-false}
use Rattle.house.specs.declared.Item.{Item}
use Rattle.house.specs.declared.Mark.TheVariants.{Read, Write, Certify, Signalled}
use Rattle.house.specs.Search.{any, map_from}
use Rattle.house.specs.Cell.{has, marked, unmarked, cell_at, holds, map_cells}
use Rattle.house.specs.House.{above, level_of, blank}
use Rattle.house.specs.Rules.{wrote, signalled_cell, converted_cell, cleared_cell, committed_item, dropped_pending, grown}
use Rattle.std.proofs.lemmas.Bool.{cases_Bool, or_parts, not-false}
use Rattle.house.proofs.Tests.{same}
use Rattle.house.proofs.Searches.{any_none}
use Rattle.house.proofs.Lists.{get_or_map_from, length_map_from, map_from_kept, Sofar, sofar_set, sofar_skip, sofar_map, sofar_all}
use Rattle.house.proofs.Cells.{place_of, item_of}
use Rattle.parts.proofs.Scans.{own_long, own_at}
use Rattle.parts.proofs.Scans.{own as lent}
use Rattle.sweeps.specs.Sweep.{of_house, swept, on_item, signalled_from}

-- the n-th cell through f, if it is of a place that a house has
abbrev pub cellwise : (ℕ → ℕ → ℕ → ℕ) → ℕ → ℕ → ℕ
cellwise f n c = of_house f (n / 64) (n % 64) c

pub beyond : (f : ℕ → ℕ → ℕ → ℕ) (n c : ℕ) → 32 ≤ n / 64 → cellwise f n c ≡ c
unfolding of_house
beyond f n c h = rw (le-ltb (n / 64) 32 h)

pub within : (f : ℕ → ℕ → ℕ → ℕ) (n c : ℕ) → n / 64 < 32 → cellwise f n c ≡ f (n / 64) (n % 64) c
unfolding of_house
within f n c h = rw (lt-ltb (n / 64) 32 h)

-- where f changes nothing, nothing changes
either_way : (b : Bool) (c : ℕ) → cond b c c ≡ c
either_way true c = refl
either_way false c = refl

kept : (f : ℕ → ℕ → ℕ → ℕ) (n c : ℕ) → f (n / 64) (n % 64) c ≡ c → cellwise f n c ≡ c
unfolding of_house
kept f n c e = rw e (either_way (ltb (n / 64) 32) c)

-- A round that sweeps where a test says so: of its key, g does what is left to do; of any other key, nothing
round : (key : ℕ → ℕ) (f g : ℕ → ℕ → ℕ → ℕ) (i : ℕ) (t : Bool) {old cells : List ℕ} → Sofar 0 key (cellwise f) i old cells
    → ((n x : ℕ) → key n ≡ i → cellwise f n x ≡ cond t (cellwise g n x) x) → ((n x : ℕ) → key n ≢ i → cellwise g n x ≡ x)
    → (new : List ℕ) → new ≡ cond t (swept g cells) cells → Sofar 0 key (cellwise f) (i + 1) old new
unfolding swept map_cells
round key f g i true s here there new e = rw e (sofar_map 0 key (cellwise f) i _ s (λ n x k. sym (here n x k)) there)
round key f g i false s here there new e = rw e (sofar_skip 0 key (cellwise f) i s (λ n h k. here n _ k))

-- no cell of another item
elsewhere : (i : ℕ) (f : ℕ → ℕ → ℕ) (n x : ℕ) → n % 64 ≢ i → cellwise (on_item i f) n x ≡ x
unfolding on_item
elsewhere i f n x d = kept (on_item i f) n x (rw (ne_eqb (n % 64) i d))

-- where it changes no cell of a house, a sweep changes nothing
untouched : (f : ℕ → ℕ → ℕ → ℕ) (cells : List ℕ) → ((p i c : ℕ) → i < 64 → f p i c ≡ c) → cells ≡ swept f cells
unfolding swept map_cells
untouched f cells e = sym (map_from_kept 0 _ cells (λ n x h. kept f n x (e (n / 64) (n % 64) x (omega arith))))

-- Signalling a level: round k handles the cells of the k-th place of each

module _ (l i k : ℕ) (h : l < 4) (a : i < 64) (b : k < 8) where
  signalled_mine : (c : ℕ) → cond (has Read c) (marked Signalled c) c ≡ cellwise (on_item i (signalled_from (eqb l))) ((l * 8 + k) * 64 + i) c
  unfolding of_house on_item signalled_from
  signalled_mine c =
      let level : (l * 8 + k) / 8 ≡ l = omega arith in
      rw (place_of (l * 8 + k) i a, item_of (l * 8 + k) i a, eq-eqb i i refl, lt-ltb (l * 8 + k) 32 (omega arith), level, eq-eqb l l refl)

  signalled_other : (n c : ℕ) → n / 64 % 8 ≡ k → n ≢ (l * 8 + k) * 64 + i → cellwise (on_item i (signalled_from (eqb l))) n c ≡ c
  unfolding on_item signalled_from
  signalled_other n c e d =
      elim (same (n % 64) i) [
        | inl j ↦ kept (on_item i (signalled_from (eqb l))) n c (rw (eq-eqb (n % 64) i j, ne_eqb l (n / 64 / 8) (λ p. d (omega arith))))
        | inr j ↦ elsewhere i (signalled_from (eqb l)) n c j
      ]

  pub signalled_one : (v : ℕ) {old cells : List ℕ} → Sofar 0 (λ n. n / 64 % 8) (cellwise (on_item i (signalled_from (eqb l)))) k old cells
      → v ≡ cond (has Read (get_or cells ((l * 8 + k) * 64 + i) 0)) (marked Signalled (get_or cells ((l * 8 + k) * 64 + i) 0)) (get_or cells ((l * 8 + k) * 64 + i) 0)
      → Sofar 0 (λ n. n / 64 % 8) (cellwise (on_item i (signalled_from (eqb l)))) (k + 1) old (set cells ((l * 8 + k) * 64 + i) v)
  signalled_one v s e = sofar_set _ _ _ k _ v s (rw (place_of (l * 8 + k) i a) (omega arith)) (e ∙ signalled_mine _) (λ n h k ne. signalled_other n _ k ne)

-- Signalling all levels that have f: round l handles the cells of level l, all at once if it has

module _ (f : ℕ → Bool) (i l : ℕ) where
  level_here : (n x : ℕ) → n / 64 / 8 ≡ l → cellwise (on_item i (signalled_from f)) n x ≡ cond (f l) (cellwise (on_item i (signalled_from (eqb l))) n x) x
  unfolding of_house on_item signalled_from
  level_here n x e =
      elim (cases_Bool (f l)) [
        | inl y ↦ rw (e, y, eq-eqb l l refl)
        | inr y ↦ rw y (kept (on_item i (signalled_from f)) n x (rw (e, y) (either_way (eqb (n % 64) i) x)))
      ]

  level_there : (n x : ℕ) → n / 64 / 8 ≢ l → cellwise (on_item i (signalled_from (eqb l))) n x ≡ x
  unfolding on_item signalled_from
  level_there n x d = kept (on_item i (signalled_from (eqb l))) n x (rw (ne_eqb l (n / 64 / 8) (λ p. d (sym p))) (either_way (eqb (n % 64) i) x))

  pub signalled_level : {old cells : List ℕ} → Sofar 0 (λ n. n / 64 / 8) (cellwise (on_item i (signalled_from f))) l old cells
      → (new : List ℕ) → new ≡ cond (f l) (swept (on_item i (signalled_from (eqb l))) cells) cells
      → Sofar 0 (λ n. n / 64 / 8) (cellwise (on_item i (signalled_from f))) (l + 1) old new
  signalled_level s new e = round _ _ _ l (f l) s level_here level_there new e

-- who has claimed nothing has written no item, and holds certify on none
pub unclaimed : (cells : List ℕ) (me : ℕ) → any (wrote cells me) 0 64 ≡ false → (i : ℕ) → i < 64 → wrote cells me i ≡ false
unclaimed cells me e i b = any_none (wrote cells me) 0 64 e i (omega arith) (omega arith)

pub uncertified : (cells : List ℕ) (me i : ℕ) → wrote cells me i ≡ false → holds cells Certify me i ≡ false
unfolding wrote
uncertified cells me i e = (or_parts (holds cells Write me i) (holds cells Certify me i) e).1

-- Giving signals: round i handles the cells of item i, all at once if the item is written

-- what was looked up of each level
looked_up : (f : ℕ → Bool) (k : ℕ) → k < 4 → get_or (map f (0 ∷ 1 ∷ 2 ∷ 3 ∷ [])) k false ≡ f k
looked_up f zero h = refl
looked_up f (suc zero) h = refl
looked_up f (suc (suc zero)) h = refl
looked_up f (suc (suc (suc zero))) h = refl
looked_up f (suc (suc (suc (suc k)))) h = absurd (omega arith)

-- the cell of the item is read off the copy of the own ones
module _ (order old part own : List ℕ) (me i : ℕ) (over : List Bool) (looked : over ≡ map (λ l. above order l (level_of (me % 32))) (0 ∷ 1 ∷ 2 ∷ 3 ∷ [])) (long : length old ≡ 2048) (is_part : part ≡ lent old me) (copied : own ≡ part) (b : i < 64) {cells : List ℕ} (s : Sofar 0 (λ n. n % 64) (cellwise (signalled_cell true order old (me % 32))) i old cells) where
  abbrev c : ℕ
  c = get_or own i 0

  still : c ≡ get_or old (me % 32 * 64 + i) 0
  still = rw (copied, is_part) (own_at old me long i b)

  item_here : (n x : ℕ) → n % 64 ≡ i → cellwise (signalled_cell true order old (me % 32)) n x ≡ cond (has Write c || has Certify c) (cellwise (on_item i (signalled_from (λ l. get_or over l false))) n x) x
  unfolding of_house on_item signalled_cell signalled_from wrote holds cell_at
  item_here n x e =
      elim (cases_Bool (has Write (get_or old (me % 32 * 64 + i) 0) || has Certify (get_or old (me % 32 * 64 + i) 0))) [
        | inl y ↦ elim (cases_Bool (ltb (n / 64) 32)) [
          | inl h ↦ rw (e, still, y, h, eq-eqb i i refl, looked, looked_up (λ l. above order l (level_of (me % 32))) (n / 64 / 8) (omega (arith, ltb-true)))
          | inr h ↦ rw (e, still, y, h)
        ]
        | inr y ↦ rw (e, still, y) (either_way (ltb (n / 64) 32) x)
      ]

  pub signalled_item : (test : Bool) → test ≡ (has Write c || has Certify c) → (new : List ℕ) → new ≡ cond test (swept (on_item i (signalled_from (λ l. get_or over l false))) cells) cells
      → Sofar 0 (λ n. n % 64) (cellwise (signalled_cell true order old (me % 32))) (i + 1) old new
  signalled_item test t new e = round _ _ _ i (has Write c || has Certify c) s item_here (elsewhere i _) new (rw t at e)

module _ (gives : Bool) (order old : List ℕ) (me : ℕ) where
  -- who gives none, or has written nothing, changes nothing
  pub none_given : gives ≡ false → old ≡ swept (signalled_cell gives order old me) old
  unfolding signalled_cell
  none_given e = untouched _ old (λ p i c a. rw e)

  pub none_written : any (wrote old me) 0 64 ≡ false → old ≡ swept (signalled_cell gives order old me) old
  unfolding signalled_cell
  none_written e = untouched _ old (λ p i c a. rw (unclaimed old me e i a, and-false gives))

-- 64 rounds over the items are all
pub all_cells : (f : ℕ → ℕ → ℕ → ℕ) (N : ℕ) (old new : List ℕ) → Sofar 0 (λ n. n % 64) (cellwise f) N old new → 64 ≤ N → new ≡ swept f old
unfolding swept map_cells
all_cells f N old new s h = sofar_all _ _ _ N s (λ n b. omega arith)

pub all_given : (gives : Bool) (order old : List ℕ) (me N : ℕ) (new : List ℕ) → not gives ≡ false
    → Sofar 0 (λ n. n % 64) (cellwise (signalled_cell true order old me)) N old new → 64 ≤ N → new ≡ swept (signalled_cell gives order old me) old
all_given gives order old me N new g s h = rw (not-false gives g) (all_cells _ N old new s h)

-- Sweeping the own cells, which f changes alone. They lie together, and `own` is what becomes of them

module _ (f : ℕ → ℕ → ℕ → ℕ) (cells own : List ℕ) (me : ℕ) (long : length cells ≡ 2048) (size : length own ≡ 64) where
  abbrev all : List ℕ
  all = put_mid (me % 32 * 64) (me % 32 * 64 + 64 - me % 32 * 64) cells own

  front : length (take (me % 32 * 64) cells) ≡ me % 32 * 64
  front = length-take-le (me % 32 * 64) cells (omega arith)

  mine : (n : ℕ) → n / 64 ≡ me % 32 → get_or all n 0 ≡ get_or own (n % 64) 0
  mine n e =
      let at : n - me % 32 * 64 ≡ n % 64 = omega arith in
      get_or-append_right (take (me % 32 * 64) cells) _ _ n 0 front (omega arith) ∙ rw at (get_or-append own _ 0 (n % 64) (omega arith))

  other : (n : ℕ) → n / 64 ≢ me % 32 → get_or all n 0 ≡ get_or cells n 0
  other n d =
      elim (cases_Bool (ltb n (me % 32 * 64))) [
        | inl y ↦ let b = ltb-true n (me % 32 * 64) y in get_or-append (take (me % 32 * 64) cells) _ 0 n (omega (arith, front)) ∙ get_or-take (me % 32 * 64) cells n 0 b
        | inr y ↦
            let b = ltb-false n (me % 32 * 64) y in
            get_or-append_right (take (me % 32 * 64) cells) _ _ n 0 front b
            ∙ get_or-append_right own _ 64 (n - me % 32 * 64) 0 size (omega arith)
            ∙ get_or-drop _ (drop (me % 32 * 64) cells) _ 0 ∙ get_or-drop (me % 32 * 64) cells _ 0
            ∙ (let e : me % 32 * 64 + (me % 32 * 64 + 64 - me % 32 * 64 + (n - me % 32 * 64 - 64)) ≡ n = omega arith in rw e)
      ]

  pub own_swept : ((p j c : ℕ) → p ≢ me % 32 → f p j c ≡ c) → ((i : ℕ) → i < 64 → get_or own i 0 ≡ f (me % 32) i (get_or cells (me % 32 * 64 + i) 0)) → all ≡ swept f cells
  unfolding swept map_cells
  own_swept others becomes =
      ext_get_or 0 all _ (whole ∙ sym (length_map_from 0 (cellwise f) cells ∙ long)) (λ n b. each n (omega (arith, whole)) ∙ sym (get_or_map_from (cellwise f) cells n 0 (omega (arith, whole))))
    where
      whole : length all ≡ 2048
      whole = omega (arith, length-append (take (me % 32 * 64) cells) (own ++ drop (me % 32 * 64 + 64 - me % 32 * 64) (drop (me % 32 * 64) cells)), length-append own (drop (me % 32 * 64 + 64 - me % 32 * 64) (drop (me % 32 * 64) cells)), length-drop (me % 32 * 64 + 64 - me % 32 * 64) (drop (me % 32 * 64) cells), length-drop (me % 32 * 64) cells, front)

      each : (n : ℕ) → n < 2048 → get_or all n 0 ≡ cellwise f n (get_or cells n 0)
      each n b =
          elim (same (n / 64) (me % 32)) [
            | inl e ↦
                let at : me % 32 * 64 + n % 64 ≡ n = omega arith in
                mine n e ∙ rw at at (becomes (n % 64) (omega arith)) ∙ sym (within f n _ (omega arith) ∙ rw e)
            | inr d ↦ other n d ∙ sym (kept f n _ (others (n / 64) (n % 64) _ d))
          ]

-- "All its write locks become certify locks", of which the first N have
pub converted_own : (cells own : List ℕ) (me N : ℕ) → length cells ≡ 2048
    → Sofar 0 (λ n. n) (λ n c. cond (has Write c) (marked Certify (unmarked Write c)) c) N (lent cells me) own → length (lent cells me) ≤ N
    → put_mid (me % 32 * 64) (me % 32 * 64 + 64 - me % 32 * 64) cells own ≡ swept (converted_cell (me % 32)) cells
unfolding converted_cell
converted_own cells own me N long s h =
    let size = own_long cells me long in
    own_swept _ cells own me long (s.long ∙ size) (λ p j c d. rw (ne_eqb p (me % 32) d))
    (λ i b. s.done i (omega arith) (omega arith) ∙ rw (own_at cells me long i b, eq-eqb (me % 32) (me % 32) refl))

-- "its cells are cleared"
pub cleared_own : (cells own : List ℕ) (me : ℕ) → length cells ≡ 2048 → own ≡ replicate (length (lent cells me)) 0
    → put_mid (me % 32 * 64) (me % 32 * 64 + 64 - me % 32 * 64) cells own ≡ swept (cleared_cell (me % 32)) cells
unfolding cleared_cell
cleared_own cells own me long e =
    let size = own_long cells me long in
    own_swept _ cells own me long (rw e (length-replicate _ 0 ∙ size)) (λ p j c d. rw (ne_eqb p (me % 32) d))
    (λ i b. rw (e, eq-eqb (me % 32) (me % 32) refl) (get_or-replicate (length (lent cells me)) i 0 0 (omega arith)))

-- Ending: round i handles item i

pub uncommitted : (cells pending : List ℕ) (me i : ℕ) (x : Item) → has Certify (get_or cells (me * 64 + i) 0) ≡ false → committed_item cells pending me i x ≡ x
unfolding committed_item holds cell_at
uncommitted cells pending me i x e = rw e

module _ (cells own : List ℕ) (me i : ℕ) (long : length cells ≡ 2048) (is_own : own ≡ lent cells me) (b : i < length own) where
  own_cell : get_or own i 0 ≡ get_or cells (me % 32 * 64 + i) 0
  own_cell = let size = own_long cells me long in rw is_own (own_at cells me long i (omega (arith, ap length is_own)))

  module _ (pending : List ℕ) {old items : List Item} (s : Sofar blank (λ n. n) (committed_item cells pending (me % 32)) i old items) (new : List Item) (test : Bool) (t : test ≡ has Certify (get_or own i 0)) where
    pub committed_one : (x : Item) → test ≡ true → new ≡ set items i x
        → x ≡ record { level = (get_or items i blank).level; value = get_or pending i 0; version = grown (get_or items i blank).version }
        → Sofar blank (λ n. n) (committed_item cells pending (me % 32)) (i + 1) old new
    unfolding committed_item holds cell_at
    committed_one x y p e = rw p (sofar_set _ _ _ i i x s refl (e ∙ rw (← own_cell, ← t, y)) (λ n h k ne. absurd (ne k)))

    pub passed_one : test ≡ false → new ≡ items → Sofar blank (λ n. n) (committed_item cells pending (me % 32)) (i + 1) old new
    passed_one y p = rw p (sofar_skip _ _ _ i s (λ n h k. rw k (uncommitted cells pending (me % 32) i _ (rw own_cell at (sym t ∙ y)))))

  pub dropped_one : (v : ℕ) {old values : List ℕ} → Sofar 0 (λ n. n) (dropped_pending cells (me % 32)) i old values
      → v ≡ cond (has Write (get_or own i 0) || has Certify (get_or own i 0)) 0 (get_or values i 0)
      → Sofar 0 (λ n. n) (dropped_pending cells (me % 32)) (i + 1) old (set values i v)
  unfolding dropped_pending wrote holds cell_at
  dropped_one v s e = sofar_set _ _ _ i i v s refl (e ∙ rw own_cell) (λ n h k ne. absurd (ne k))

-- 64 rounds are all
pub rounds : (cells own : List ℕ) (me N : ℕ) → length cells ≡ 2048 → own ≡ lent cells me → length own ≤ N → 64 ≤ N
rounds cells own me N long e h = let size = own_long cells me long in omega (arith, ap length e)

pub all_items : {A : Type 0} (d : A) (f : ℕ → A → A) (N : ℕ) (old new : List A) → Sofar d (λ n. n) f N old new → length old ≡ 64 → 64 ≤ N → new ≡ map_from 0 f old
all_items d f N old new s long h = sofar_all d (λ n. n) f N s (λ n b. omega arith)
