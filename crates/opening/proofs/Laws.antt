-- A bounded search is one of a list; the rows that are made one by one are those of the definition.
-- Assumes nothing.
use Rattle.std.proofs.Common.{ℕ, zero, suc, ◌+◌, ◌<◌, ◌≤◌, ◌≡◌, Bool, List, [], ◌∷◌, length, get_or, replicate, refl, sym, ◌∙◌, subst, inl, inr, arith}
use native.Mathlib.Numerals.{add-one}
use denote.Param.Members.{Mut}
use Rattle.std.proofs.Math.ListN.{length-replicate}
use Rattle.std.proofs.Math.Seq.{ext_get_or}
use Rattle.std.specs.Array.{IsFromFnResultFrom, IsFromFnResult}
use Rattle.std.specs.Fn.{Called}
use Rattle.std.specs.List.{list_any, range_with_len}
use Rattle.house.specs.declared.Item.{Item}
use Rattle.house.specs.Search.{scan, any}
use Rattle.house.specs.House.{blank}
use Rattle.house.specs.Opening.{unsaved, row_at, rows}
use Rattle.house.proofs.Lists.{length_map_from, get_or_map_from}
use Rattle.std.proofs.lemmas.Bool.{cases_Bool}
use Rattle.house.proofs.Tests.{same}

-- over the numbers from k on
pub any_ranged : (f : ℕ → Bool) (k n : ℕ) → any f k n ≡ list_any f (range_with_len k n)
unfolding scan
any_ranged f k zero = refl
any_ranged f k (suc n) = elim (cases_Bool (f k)) [ inl y ↦ rw y | inr y ↦ rw (y, add-one) (any_ranged f (suc k) n) ]

shifted : (f : ℕ → Bool) (k n : ℕ) → any f (suc k) n ≡ any (λ i. f (suc i)) k n
unfolding scan
shifted f k zero = refl
shifted f k (suc n) = rw (shifted f (suc k) n)

-- over a list's places
pub any_listed : (p : ℕ → Bool) (xs : List ℕ) → any (λ i. p (get_or xs i 0)) 0 (length xs) ≡ list_any p xs
unfolding scan
any_listed p [] = refl
any_listed p (x ∷ xs) = elim (cases_Bool (p x)) [ inl y ↦ rw y | inr y ↦ rw y (shifted (λ i. p (get_or (x ∷ xs) i 0)) 0 (length xs) ∙ any_listed p xs) ]

-- the rows, one by one
pub made_rows : (levels : List ℕ) (out : List Item) → length out ≡ 64 → ((i : ℕ) → i < 64 → get_or out i blank ≡ unsaved (get_or levels i 0)) → out ≡ rows levels
unfolding rows row_at
made_rows levels out long each =
    let n = length-replicate 64 blank in
    ext_get_or blank out (rows levels) (long ∙ sym (length_map_from 0 (row_at levels) (replicate 64 blank) ∙ n))
    (λ i h. each i (omega arith) ∙ sym (get_or_map_from (row_at levels) (replicate 64 blank) i blank (omega arith)))

-- an array whose elements a closure gave, which gives `made k` for k and stays as it is
module _ {F B : Type 0} (g : Mut F (ℕ × Unit {0}) B) (f : F) (made : ℕ → B) (gives : (k : ℕ) (y : B) (q : F) → Called g f (k, tt) y q → (q ≡ f) × (y ≡ made k)) (ys : List B) (d : B) where
  given_from : (from n : ℕ) → IsFromFnResultFrom g f ys from n → (k : ℕ) → from ≤ k → k < from + n → get_or ys k d ≡ made k
  given_from from zero r k a b = absurd (omega arith)
  given_from from (suc n) r k a b =
      let e = gives from r.1 r.0 r.3 in
      elim (same k from) [
        | inl s ↦ rw s (r.2.1 d ∙ e.1)
        | inr s ↦ given_from (from + 1) n (subst (λ q. IsFromFnResultFrom g q ys (from + 1) n) e.0 r.4) k (omega arith) (omega arith)
      ]

  pub given : (n : ℕ) → IsFromFnResult g f ys n → (k : ℕ) → k < n → get_or ys k d ≡ made k
  given n r k h = given_from 0 n r.each k (omega arith) (omega arith)
