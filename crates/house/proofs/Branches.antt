-- How code goes through its tests, in the words of the definitions. `search followed` says what a definition comes to where the code
-- stands: each law goes past one test of the definition, or takes it, from what a call promises (it answered b, which is t) and the
-- way that the code's branch went. `search` finds both wherever in the code they stand, so a proof counts no steps and names no place.
-- It is given `depth` for more than five tests and `fits` for more than seven. Past eight it comes to its own bound of steps: then what
-- the first few come to is proved at a stage in between, which `search` finds by its type.
-- Assumes nothing.
use Prim.Native.Nat.{ℕ, ◌<◌, ◌≤◌}
use mathlib.Core.Path.{◌≡◌, sym, ◌∙◌}
use mathlib.Core.Bool.{Bool, true, false, cond, not, ◌&&◌, ◌||◌}
use mathlib.Core.Logic.{◌≢◌}
use lib.Dec.{eqb, leb, ltb}
use borrow.Author.Tests.{eq-eqb, ne_eqb, le-leb, lt-leb, le-ltb, lt-ltb}
use Rattle.std.specs.Prelude.{Option, Some, None}
use Rattle.house.specs.Search.{if_found}

module _ {A : Type 0} (r x y : A) where
  -- a test that a call answers
  pub past : (b t : Bool) → b ≡ t → b ≡ false → r ≡ y → r ≡ cond t x y
  past b t s n e = rw (sym s ∙ n) e

  pub taken : (b t : Bool) → b ≡ t → b ≡ true → r ≡ x → r ≡ cond t x y
  taken b t s n e = rw (sym s ∙ n) e

  -- one that two calls answer
  pub past_both : (a b t u : Bool) → a ≡ t → b ≡ u → (a && b) ≡ false → r ≡ y → r ≡ cond (t && u) x y
  past_both a b t u p q n e = rw (sym p, sym q, n) e

  pub taken_both : (a b t u : Bool) → a ≡ t → b ≡ u → (a && b) ≡ true → r ≡ x → r ≡ cond (t && u) x y
  taken_both a b t u p q n e = rw (sym p, sym q, n) e

  pub past_either : (a b t u : Bool) → a ≡ t → b ≡ u → (a || b) ≡ false → r ≡ y → r ≡ cond (t || u) x y
  past_either a b t u p q n e = rw (sym p, sym q, n) e

  pub taken_either : (a b t u : Bool) → a ≡ t → b ≡ u → (a || b) ≡ true → r ≡ x → r ≡ cond (t || u) x y
  taken_either a b t u p q n e = rw (sym p, sym q, n) e

  -- numbers that are equal, or not
  pub past_equal : (m n : ℕ) → m ≢ n → r ≡ y → r ≡ cond (eqb m n) x y
  past_equal m n d e = rw (ne_eqb m n d) e

  pub taken_equal : (m n : ℕ) → m ≡ n → r ≡ x → r ≡ cond (eqb m n) x y
  taken_equal m n s e = rw (eq-eqb m n s) e

  pub past_unequal : (m n : ℕ) → m ≡ n → r ≡ y → r ≡ cond (not (eqb m n)) x y
  past_unequal m n s e = rw (eq-eqb m n s) e

  pub taken_unequal : (m n : ℕ) → m ≢ n → r ≡ x → r ≡ cond (not (eqb m n)) x y
  taken_unequal m n d e = rw (ne_eqb m n d) e

  -- an arm of a match on m, which is k: the keys before it
  pub past_key : (m k n : ℕ) → m ≡ k → eqb k n ≡ false → r ≡ y → r ≡ cond (eqb m n) x y
  past_key m k n s d e = rw (s, d) e

  pub past_least : (m n : ℕ) → n < m → r ≡ y → r ≡ cond (leb m n) x y
  past_least m n h e = rw (lt-leb m n h) e

  pub taken_least : (m n : ℕ) → m ≤ n → r ≡ x → r ≡ cond (leb m n) x y
  taken_least m n h e = rw (le-leb m n h) e

  pub past_less : (m n : ℕ) → n ≤ m → r ≡ y → r ≡ cond (ltb m n) x y
  past_less m n h e = rw (le-ltb m n h) e

  pub taken_less : (m n : ℕ) → m < n → r ≡ x → r ≡ cond (ltb m n) x y
  taken_less m n h e = rw (lt-ltb m n h) e

-- "and", which stops at the first that fails
pub both : (r b t u : Bool) → b ≡ t → b ≡ true → r ≡ u → r ≡ (t && u)
both r b t u s y e = rw (sym s ∙ y) e

pub not_both : (r b t u : Bool) → b ≡ t → b ≡ false → r ≡ false → r ≡ (t && u)
not_both r b t u s n e = rw (sym s ∙ n) e

-- a search that a call made, which answered a
pub found : {A : Type 0} (r : A) (a who : Option ℕ) (k : ℕ) (f : ℕ → A) (x : A) → a ≡ who → a ≡ Some k → r ≡ f k → r ≡ if_found who f x
found r a who k f x s e p = rw (sym s ∙ e) p

pub none : {A : Type 0} (r : A) (a who : Option ℕ) (f : ℕ → A) (x : A) → a ≡ who → a ≡ None → r ≡ x → r ≡ if_found who f x
none r a who f x s e p = rw (sym s ∙ e) p

pub ruleset followed = (past_equal, past_unequal, past_key, past_least, past_less, past_both, past_either, past, taken_equal, taken_unequal, taken_least, taken_less, taken_both, taken_either, taken, both, not_both, found, none)

-- what a call answered is what it promises
pub answered : {A : Type 0} {b t v : A} → b ≡ t → b ≡ v → t ≡ v
answered p q = sym p ∙ q

-- where two branches have met: a part made anew, or left
module _ {A B : Type 0} (f : A → B) where
  pub went : (g : B) (b : Bool) (x y z : A) → b ≡ true → z ≡ x → g ≡ f z → g ≡ f (cond b x y)
  went g b x y z e p q = rw (e, ← p) q

  pub passed : (g : B) (b : Bool) (x y : A) → b ≡ false → g ≡ f y → g ≡ f (cond b x y)
  passed g b x y e q = rw e q
