-- What a chain over one's own cells finds.
-- Assumes nothing.
use Rattle.std.proofs.Common.{ℕ, ◌+◌, ◌-◌, ◌*◌, ◌%◌, ◌<◌, ◌≡◌, sym, ap, ◌∙◌, Bool, false, ◌||◌, List, length, get_or, slice_range, drop, length-take-le, length-drop, arith}
use native.Mathlib.Nat.{zero-add}
use Rattle.std.specs.List.{fold, position, filter}
use Rattle.std.proofs.lemmas.List.{get_or-take, get_or-drop}
use Rattle.house.specs.Search.{any, find, count}
use Rattle.house.proofs.Scans.{Tells, any_folded, first_found, counted}

-- The 64 cells of place me % 32
abbrev pub own : List ℕ → ℕ → List ℕ
own cells me = slice_range cells (me % 32 * 64) (me % 32 * 64 + 64)

module _ (cells : List ℕ) (me : ℕ) (long : length cells ≡ 2048) where
  pub own_long : length (own cells me) ≡ 64
  own_long = length-take-le (me % 32 * 64 + 64 - me % 32 * 64) (drop (me % 32 * 64) cells) (simp (length-drop, long) (omega arith)) ∙ omega arith

  pub own_at : (i : ℕ) → i < 64 → get_or (own cells me) i 0 ≡ get_or cells (me % 32 * 64 + i) 0
  own_at i b = get_or-take _ (drop (me % 32 * 64) cells) i 0 (omega arith) ∙ get_or-drop (me % 32 * 64) cells i 0

  tells_own : (p : ℕ → Bool) → Tells p 0 (own cells me) 0 (λ i. p (get_or cells (me % 32 * 64 + i) 0))
  tells_own p = λ j b. let at : 0 + j ≡ j = zero-add j in rw at (ap p (sym (own_at j (omega (arith, own_long)))))

  -- what a scan over them finds
  pub own_any : (p : ℕ → Bool) → fold (λ hit c. hit || p c) false (own cells me) ≡ any (λ i. p (get_or cells (me % 32 * 64 + i) 0)) 0 64
  own_any p = any_folded p 0 (own cells me) 0 (λ i. p (get_or cells (me % 32 * 64 + i) 0)) false (tells_own p) ∙ rw own_long

  pub own_position : (p : ℕ → Bool) → position p (own cells me) ≡ find (λ i. p (get_or cells (me % 32 * 64 + i) 0)) 0 64
  own_position p = first_found p 0 (own cells me) (λ i. p (get_or cells (me % 32 * 64 + i) 0)) (tells_own p) ∙ rw own_long

  pub own_count : (p : ℕ → Bool) → length (filter p (own cells me)) ≡ count (λ i. p (get_or cells (me % 32 * 64 + i) 0)) 0 64
  own_count p = counted p 0 (own cells me) 0 (λ i. p (get_or cells (me % 32 * 64 + i) 0)) (tells_own p) ∙ rw own_long
