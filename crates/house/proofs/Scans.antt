-- What a chain over a list finds, in the words of the bounded searches.
-- Assumes nothing.
use Rattle.std.proofs.Common.{ℕ, suc, ◌+◌, ◌<◌, ◌≡◌, refl, sym, ◌∙◌, Bool, true, false, ◌||◌, cond, List, [], ◌∷◌, length, get_or, arith}
use native.Mathlib.Nat.{add-zero}
use native.Mathlib.Numerals.{add-one}
use mathlib.Core.Logic.{inl, inr}
use Rattle.std.specs.List.{fold, position, position_from, filter}
use Rattle.std.proofs.lemmas.Iterator.Adapters.{position_from-zero}
use Rattle.house.specs.Search.{scan, any, find, count}
use Rattle.std.proofs.lemmas.Bool.{cases_Bool}
use Rattle.std.proofs.Math.Bool.{or-false}

-- f says of each number from k on what p says of the list's elements
abbrev pub Tells : {A : Type 0} → (A → Bool) → A → List A → ℕ → (ℕ → Bool) → Type 0
Tells p d xs k f = (j : ℕ) → j < length xs → f (k + j) ≡ p (get_or xs j d)

module _ {A : Type 0} (p : A → Bool) (d : A) where
  here : (x : A) (xs : List A) (k : ℕ) (f : ℕ → Bool) → Tells p d (x ∷ xs) k f → f k ≡ p x
  here x xs k f e = rw add-zero at (e 0 (omega arith))

  there : (x : A) (xs : List A) (k : ℕ) (f : ℕ → Bool) → Tells p d (x ∷ xs) k f → Tells p d xs (suc k) f
  there x xs k f e = λ j b. let s : suc k + j ≡ k + suc j = omega arith in rw s (e (suc j) (omega arith))

  -- a yes or no that is kept to the end
  pub any_folded : (xs : List A) (k : ℕ) (f : ℕ → Bool) (hit : Bool) → Tells p d xs k f → fold (λ hit x. hit || p x) hit xs ≡ (hit || any f k (length xs))
  unfolding scan
  any_folded [] k f hit e = sym (or-false hit)
  any_folded (x ∷ xs) k f hit e =
      any_folded xs (suc k) f (hit || p x) (there x xs k f e) ∙ rw (here x xs k f e) (regroup hit (p x) (any f (suc k) (length xs)))
    where
      regroup : (a b c : Bool) → ((a || b) || c) ≡ (a || cond b true c)
      regroup true b c = refl
      regroup false true c = refl
      regroup false false c = refl

  -- the first that passes
  found : (xs : List A) (k : ℕ) (f : ℕ → Bool) → Tells p d xs k f → position_from p k xs ≡ find f k (length xs)
  unfolding scan
  found [] k f e = refl
  found (x ∷ xs) k f e = rw (here x xs k f e, add-one, found xs (suc k) f (there x xs k f e))

  pub first_found : (xs : List A) (f : ℕ → Bool) → Tells p d xs 0 f → position p xs ≡ find f 0 (length xs)
  first_found xs f e = position_from-zero p xs ∙ found xs 0 f e

  -- how many pass
  pub counted : (xs : List A) (k : ℕ) (f : ℕ → Bool) → Tells p d xs k f → length (filter p xs) ≡ count f k (length xs)
  unfolding scan
  counted [] k f e = refl
  counted (x ∷ xs) k f e = rw (here x xs k f e) (elim (cases_Bool (p x)) [ inl y ↦ rw (y, counted xs (suc k) f (there x xs k f e)) | inr n ↦ rw (n, counted xs (suc k) f (there x xs k f e)) ])
