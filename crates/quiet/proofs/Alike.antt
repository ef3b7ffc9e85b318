-- Laws of houses that are alike for k.
-- Assumes nothing.
use Prim.Native.Nat.{ℕ}
use mathlib.Core.Path.{◌≡◌, refl, sym, ◌∙◌}
use Rattle.house.specs.declared.House.{House}
use Rattle.house.specs.House.{item_at}
use Rattle.reach.proofs.Law.{same_order, same_rule, same_level}
use Rattle.quiet.specs.Alike.{Alike}

-- the levels have one order in both, the signals one rule, and each item one level
pub order_alike : {k : ℕ} {h g : House} → Alike k h g → h.order ≡ g.order
order_alike {k} {h} {g} A = same_order h g A.fixed

pub rule_alike : {k : ℕ} {h g : House} → Alike k h g → h.rule ≡ g.rule
rule_alike {k} {h} {g} A = same_rule h g A.fixed

pub level_alike : {k : ℕ} {h g : House} → Alike k h g → (i : ℕ) → (item_at h.items i).level ≡ (item_at g.items i).level
level_alike {k} {h} {g} A = same_level h g A.fixed

pub alike_itself : (k : ℕ) (h : House) → Alike k h h
alike_itself k h = record { fixed = refl; items = λ i a d. (refl, refl); places = λ p b d. refl; tickets = λ l b d. refl; cells = λ p i b a d. refl }

pub alike_back : {k : ℕ} {h g : House} → Alike k h g → Alike k g h
alike_back {k} {h} {g} A =
    let o = order_alike A in
    record {
      fixed = sym A.fixed;
      items = λ i a d. let e = A.items i a (rw (o, level_alike A i) d) in (sym e.0, sym e.1);
      places = λ p b d. sym (A.places p b (rw o d));
      tickets = λ l b d. sym (A.tickets l b (rw o d));
      cells = λ p i b a d. sym (A.cells p i b a (rw o d));
    }

pub alike_on : {k : ℕ} {f g h : House} → Alike k f g → Alike k g h → Alike k f h
alike_on A B =
    let o = order_alike A in
    record {
      fixed = A.fixed ∙ B.fixed;
      items = λ i a d. let e = A.items i a d in let f = B.items i a (rw (o, level_alike A i) at d) in (e.0 ∙ f.0, e.1 ∙ f.1);
      places = λ p b d. A.places p b d ∙ B.places p b (rw o at d);
      tickets = λ l b d. A.tickets l b d ∙ B.tickets l b (rw o at d);
      cells = λ p i b a d. A.cells p i b a d ∙ B.cells p i b a (rw o at d);
    }
