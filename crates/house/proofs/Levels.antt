-- Laws of the order of the levels, and that the tests of an opening find out whether a table is a partial order.
-- Assumes nothing.
use Rattle.std.proofs.Math.Bool.{and-false}
use Prim.Native.Nat.{ℕ, ◌+◌, ◌*◌, ◌/◌, ◌%◌, ◌≤◌, ◌<◌}
use native.Mathlib.Omega.{arith}
use mathlib.Core.Path.{◌≡◌, refl}
use mathlib.Core.Logic.{◌≢◌, inl, inr}
use mathlib.Core.Bool.{true, false, ◌&&◌, ◌||◌}
use mathlib.Core.List.{List}
use lib.ListN.{length, get_or, get_or-eq_default}
use lib.Dec.{ltb}
use borrow.Author.Tests.{eq-eqb, ne_eqb, eqb-true, eqb-false, ltb-true, ltb-false, le-ltb, not-true}
use Rattle.house.specs.Search.{scan}
use Rattle.house.specs.House.{dominates, above}
use Rattle.house.specs.Order.{PartialOrder, old_chain, large, loose, tied, broken, wrong_at, disordered}
use Rattle.std.proofs.lemmas.Bool.{cases_Bool, false_from_ne_true, and_parts, and_from, or_parts, not-false, not_from_false}
use Rattle.house.proofs.Tests.{clash, and_right_false}
use Rattle.house.proofs.Searches.{any_none, any_some}

pub above_itself : (order : List ℕ) (a : ℕ) → above order a a ≡ false
unfolding above
above_itself order a = rw (eq-eqb a a refl) (and-false (dominates order a a))

-- one that dominates another level is above it
pub above_intro : (order : List ℕ) (a b : ℕ) → dominates order a b ≡ true → a ≢ b → above order a b ≡ true
unfolding above
above_intro order a b d n = and_from _ _ d (not_from_false _ (ne_eqb a b n))

-- what is dominated is a level
pub dominated_low : (order : List ℕ) → length order ≡ 16 → (a b : ℕ) → dominates order a b ≡ true → b < 4
unfolding dominates
dominated_low order z a b e =
    elim (cases_Bool (ltb b 4)) [
      | inl y ↦ ltb-true b 4 y
      | inr y ↦
          let n : 4 ≤ b = ltb-false b 4 y in
          let d : get_or order (4 * b + a) 0 ≡ 0 = get_or-eq_default order 0 {n = 4 * b + a} (omega arith) in
          clash e (rw d)
    ]

-- what is dominated by what a level dominates, it dominates
pub dominates_on : {order : List ℕ} → PartialOrder order → length order ≡ 16 → (a b c : ℕ) → a < 4 → dominates order a b ≡ true → dominates order b c ≡ true → dominates order a c ≡ true
dominates_on {order} P z a b c x d e = P.transitive a b c x (dominated_low order z a b d) (dominated_low order z b c e) d e

-- A table that the tests pass is a partial order

module _ (order : List ℕ) (e : disordered order ≡ false) where
  right : (a b c : ℕ) → a < 4 → b < 4 → c < 4 → (large order a b || loose order a || tied order a b || broken order a b c) ≡ false
  unfolding disordered wrong_at
  right a b c x y z =
      let n = 16 * a + 4 * b + c in
      let p : n / 16 ≡ a = omega arith in
      let r : n / 4 % 4 ≡ b = omega arith in
      let s : n % 4 ≡ c = omega arith in
      rw (p, r, s) at (any_none (wrong_at order) 0 64 e n (omega arith) (omega arith))

  -- the first three tests look at two levels
  two : (a b : ℕ) → a < 4 → b < 4 → ((large order a b ≡ false) × (loose order a ≡ false)) × (tied order a b ≡ false)
  two a b x y =
      let m = or_parts _ (tied order a b) (or_parts _ (broken order a b 0) (right a b 0 x y (omega arith))).0 in
      (or_parts (large order a b) (loose order a) m.0, m.1)

  small : (n : ℕ) → n < 16 → get_or order n 0 ≤ 1
  unfolding large
  small n x =
      let p : 4 * (n / 4) + n % 4 ≡ n = omega arith in
      ltb-false 1 (get_or order n 0) (rw p at (two (n % 4) (n / 4) (omega arith) (omega arith)).0.0)

  pub ordered : PartialOrder order
  unfolding loose tied broken
  ordered =
      record {
        bits = small;
        reflexive = λ a x. not-false _ (two a 0 x (omega arith)).0.1;
        antisymmetric = λ a b x y d f. eqb-true a b (not-false _ (and_right_false _ _ (and_from _ _ d f) (two a b x y).1));
        transitive = λ a b c x y z d f. not-false _ (and_right_false _ _ (and_from _ _ d f) (or_parts (large order a b || loose order a || tied order a b) (broken order a b c) (right a b c x y z)).1);
      }

-- and a partial order passes them

module _ (order : List ℕ) (P : PartialOrder order) where
  not_large : (a b : ℕ) → a < 4 → b < 4 → large order a b ≡ false
  unfolding large
  not_large a b x y = le-ltb 1 _ (P.bits (4 * b + a) (omega arith))

  not_loose : (a : ℕ) → a < 4 → loose order a ≡ false
  unfolding loose
  not_loose a x = rw (P.reflexive a x)

  not_tied : (a b : ℕ) → a < 4 → b < 4 → tied order a b ≡ false
  unfolding tied
  not_tied a b x y =
      false_from_ne_true _
      (λ e.
      let k = and_parts (dominates order a b && dominates order b a) _ e in
      let d = and_parts (dominates order a b) _ k.0 in
      eqb-false a b (not-true _ k.1) (P.antisymmetric a b x y d.0 d.1))

  not_broken : (a b c : ℕ) → a < 4 → b < 4 → c < 4 → broken order a b c ≡ false
  unfolding broken
  not_broken a b c x y z =
      false_from_ne_true _
      (λ e.
      let k = and_parts (dominates order a b && dominates order b c) _ e in
      let d = and_parts (dominates order a b) _ k.0 in
      clash (P.transitive a b c x y z d.0 d.1) (not-true _ k.1))

  pub undisordered : disordered order ≡ false
  unfolding disordered wrong_at
  undisordered =
      false_from_ne_true _
      (λ e.
      let r = any_some (wrong_at order) 0 64 e in
      let n = r.0 in
      let x : n / 16 < 4 = omega (arith, r.2) in
      let y : n / 4 % 4 < 4 = omega arith in
      let z : n % 4 < 4 = omega arith in
      clash r.3 (rw (not_large (n / 16) (n / 4 % 4) x y, not_loose (n / 16) x, not_tied (n / 16) (n / 4 % 4) x y) (not_broken (n / 16) (n / 4 % 4) (n % 4) x y z)))

pub old_chain_long : length old_chain ≡ 16
unfolding old_chain
old_chain_long = refl

pub old_chain_ordered : PartialOrder old_chain
unfolding disordered scan wrong_at large loose tied broken dominates old_chain
old_chain_ordered = ordered old_chain refl
