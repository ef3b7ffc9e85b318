-- When an opening gets which number; and the house that it yields is `Kept`, so that every house that can be reached is.
-- Assumes nothing.
use Prim.Native.Nat.{ℕ, ◌≤◌, ◌<◌}
use native.Mathlib.Omega.{arith}
use mathlib.Core.Path.{◌≡◌, refl, sym, ◌∙◌}
use mathlib.Core.Logic.{inl, inr}
use mathlib.Core.Bool.{Bool, true, false, ◌||◌}
use mathlib.Core.List.{List, [], ◌∷◌, ◌++◌}
use lib.ListN.{length, get_or, get_or-eq_default}
use lib.Dec.{eqb, ltb}
use borrow.Author.Tests.{eq-eqb, ne_eqb, eqb-true, eqb-false, ltb-true, ltb-false, le-ltb}
use Rattle.house.specs.declared.House.{House}
use Rattle.house.specs.declared.Rule.{Rule}
use Rattle.house.specs.declared.Rule.TheVariants.{A}
use Rattle.house.specs.House.{place_at, is_free}
use Rattle.house.specs.Checks.{foremost}
use Rattle.house.specs.Order.{PartialOrder, disordered, old_chain}
use Rattle.house.specs.Opening.{wrong_count, wrong_length, high_at, wrong_level, wrong_table, open_verdict, opened, opening}
use Rattle.std.proofs.lemmas.Bool.{cases_Bool, false_from_ne_true, and_parts, or_parts, not-false}
use Rattle.house.proofs.Tests.{clash}
use Rattle.house.proofs.Searches.{any_none, any_some}
use Rattle.house.proofs.Levels.{ordered, undisordered, old_chain_long, old_chain_ordered}
use Rattle.house.proofs.Checks.{none_applies, test_fails, foremost_stands, given_last}
use Rattle.house.proofs.Openings.{opening_none, opening_number, opened_sizes, opened_item, opened_pending, opened_place, opened_cell, opened_next}
use Rattle.reach.specs.Kept.{Kept, OpeningHas, ReachableHas}
use Rattle.reach.specs.Opening.{Passable, OpeningStands, SixteenExactly, OpenedExactly, RefusedIsOld}
use Rattle.reach.proofs.Law.{clear_held, clear_law}
use Rattle.reach.proofs.Kept.{kept, finally_keeps}

module _ (levels table : List ℕ) where
  -- the checks 13 and 14 are passed exactly by what is passable
  passable : (wrong_length levels || wrong_table table) ≡ false → wrong_level levels ≡ false → Passable levels table
  unfolding wrong_count wrong_table wrong_level high_at
  passable e f =
      let k = or_parts (wrong_length levels) (wrong_table table) e in
      let l = or_parts (eqb (length levels) 0) (ltb 64 (length levels)) k.0 in
      record {
        some = eqb-false _ 0 l.0;
        few = ltb-false 64 (length levels) l.1;
        whole = eqb-true _ 16 (not-false _ k.1);
        low = λ i b. ltb-false 3 (get_or levels i 0) (any_none (high_at levels) 0 (length levels) f i (omega arith) (omega arith));
      }

  module _ (P : Passable levels table) where
    right_sizes : (wrong_length levels || wrong_table table) ≡ false
    unfolding wrong_count wrong_table
    right_sizes = rw (ne_eqb (length levels) 0 P.some, le-ltb 64 (length levels) P.few, eq-eqb (length table) 16 P.whole)

    right_levels : wrong_level levels ≡ false
    unfolding wrong_level high_at
    right_levels =
        false_from_ne_true _
        (λ y.
        let r = any_some (high_at levels) 0 (length levels) y in
        omega (arith, P.low r.0 (omega (arith, r.2)), ltb-true 3 (get_or levels r.0 0) r.3))

    -- so the order alone decides
    verdict_order : open_verdict levels table ≡ foremost ((16, disordered table) ∷ [])
    unfolding open_verdict
    verdict_order = rw (right_sizes, right_levels)

  abbrev sized : List (ℕ × Bool)
  sized = (13, wrong_length levels || wrong_table table) ∷ (14, wrong_level levels) ∷ []

  past_sized : foremost sized ≡ 0 → Passable levels table
  past_sized e = let past = test_fails sized (none_applies sized refl e) in passable (past 13) (past 14)

-- 16 comes last, where neither 13 nor 14 is given
sixteen : (levels table : List ℕ) → open_verdict levels table ≡ 16 → Passable levels table × (¬ PartialOrder table)
unfolding open_verdict
sixteen levels table e =
    let given = given_last (sized levels table) 16 (disordered table) (λ z. omega arith) refl refl in
    let k = and_parts (eqb (foremost (sized levels table)) 0) (disordered table) (sym given ∙ eq-eqb _ 16 e) in
    (past_sized levels table (eqb-true _ 0 k.0), λ P. clash k.1 (undisordered table P))

pub sixteen_exactly : SixteenExactly
sixteen_exactly levels table rule = (
  λ e. sixteen levels table (sym (opening_number levels table rule) ∙ e),
  λ P n. rw (opening_number levels table rule, verdict_order levels table P) (elim (cases_Bool (disordered table)) [ inl w ↦ rw w | inr w ↦ absurd (n (ordered table w)) ]),
)

pub opening_stands : OpeningStands
unfolding open_verdict
opening_stands levels table rule = rw (opening_number levels table rule) (foremost_stands (sized levels table ++ (16, disordered table) ∷ []))

-- an opening whose number is 0 was of a partial order
opened_by : (levels table : List ℕ) → open_verdict levels table ≡ 0 → Passable levels table × PartialOrder table
unfolding open_verdict
opened_by levels table e =
    let checks = sized levels table ++ (16, disordered table) ∷ [] in
    let past = test_fails checks (none_applies checks refl e) in
    (passable levels table (past 13) (past 14), ordered table (past 16))

pub opened_exactly : OpenedExactly
unfolding opening
opened_exactly levels table rule = (
  λ e. let z = sym (opening_number levels table rule) ∙ e in let k = opened_by levels table z in (k.0, k.1, rw (opening_none levels table, eq-eqb _ 0 z)),
  λ P O. rw (opening_number levels table rule, verdict_order levels table P, undisordered table O),
)

pub refused_is_old : RefusedIsOld
unfolding opening
refused_is_old levels table rule n = rw (opening_none levels table, ne_eqb (open_verdict levels table) 0 (λ e. n (opening_number levels table rule ∙ e)))

-- an opening yields the house of such levels, table and rule, or the house of no items with the old chain and rule A
pub opening_cases : (P : House → Type 0) (levels table : List ℕ) (rule : Rule) → (Passable levels table → PartialOrder table → P (opened levels table rule)) → P (opened [] old_chain A) → P (opening levels table rule).house
unfolding opening
opening_cases P levels table rule done refused =
    rw (opening_none levels table)
    (elim (cases_Bool (eqb (open_verdict levels table) 0)) [
      | inl y ↦ rw y (let k = opened_by levels table (eqb-true _ 0 y) in done k.0 k.1)
      | inr y ↦ rw y refused
    ])

-- nobody stands there yet
opened_free : (levels table : List ℕ) (rule : Rule) (p : ℕ) → p < 32 → is_free (place_at (opened levels table rule).places p).standing ≡ true
opened_free levels table rule p b = rw (opened_place levels table rule p b)

module _ (levels table : List ℕ) (rule : Rule) (few : length levels ≤ 64) (low : (i : ℕ) → i < length levels → get_or levels i 0 ≤ 3) (whole : length table ≡ 16) (O : PartialOrder table) where
  -- past the last byte there is 0
  low_all : (i : ℕ) → get_or levels i 0 < 4
  low_all i =
      elim (cases_Bool (ltb i (length levels))) [
        | inl y ↦ omega (arith, low i (ltb-true i (length levels) y))
        | inr y ↦ rw (get_or-eq_default levels 0 {n = i} (ltb-false i (length levels) y)) (omega arith)
      ]

  opened_kept : Kept (opened levels table rule)
  unfolding opened
  opened_kept =
      kept (clear_law (opened_sizes levels table rule whole) (opened_free levels table rule) (opened_cell levels table rule))
      (record {
        order = O;
        count = few;
        levels = λ i a. rw (opened_item levels table rule i a) (low_all i);
        rows = λ i a c. rw (opened_item levels table rule i a, get_or-eq_default levels 0 {n = i} c);
        pending = λ i a none. opened_pending levels table rule i a;
        drawn = λ p i b a w. clash w (clear_held _ (opened_cell levels table rule p i b a));
        ticketless = λ p b f. rw (opened_place levels table rule p b);
        named = λ p b o. clash (opened_free levels table rule p b) o;
        next = λ l b. rw (opened_next levels table rule l b) (omega arith);
        inside = λ p i b a c. opened_cell levels table rule p i b a;
      })

pub opening_has : OpeningHas
opening_has levels table rule =
    opening_cases Kept levels table rule
    (λ P O. opened_kept levels table rule P.few P.low P.whole O)
    (opened_kept [] old_chain A (omega arith) (λ i b. omega arith) old_chain_long old_chain_ordered)

pub opening_free : (levels table : List ℕ) (rule : Rule) (p : ℕ) → p < 32 → is_free (place_at (opening levels table rule).house.places p).standing ≡ true
opening_free levels table rule = opening_cases (λ h. (p : ℕ) → p < 32 → is_free (place_at h.places p).standing ≡ true) levels table rule (λ P O. opened_free levels table rule) (opened_free [] old_chain A)

-- and so after all requests
pub reachable_has : ReachableHas
reachable_has h R = rw (← R.comes) (finally_keeps (opening_has R.levels R.table R.rule) R.requests)
