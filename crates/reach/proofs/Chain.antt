-- The old chain gives the old replies: proofs of the statements in specs/Chain.antt.
-- Assumes nothing.
use Prim.Native.Nat.{ℕ, ◌+◌, ◌*◌, ◌/◌, ◌%◌, ◌≤◌, ◌<◌}
use native.Mathlib.Omega.{arith}
use mathlib.Core.Path.{◌≡◌, refl, sym, ap, ◌∙◌}
use mathlib.Core.Logic.{inl, inr}
use mathlib.Core.Bool.{Bool, true, false, ◌||◌, not, cond}
use mathlib.Core.List.{List, [], ◌∷◌}
use lib.Dec.{eqb, ltb}
use borrow.Author.Tests.{eq-eqb, ne_eqb, eqb-true, eqb-false, ltb-true, ltb-false, lt-ltb, le-ltb}
use Rattle.house.specs.declared.Answer.TheVariants.{Refused, Ticket}
use Rattle.std.specs.Prelude.{Option, Some, None}
use Rattle.house.specs.declared.House.{House}
use Rattle.house.specs.declared.Mark.TheVariants.{Write, Certify}
use Rattle.house.specs.declared.Outcome.{Outcome}
use Rattle.house.specs.declared.Request.{Request}
use Rattle.house.specs.declared.Rule.{Rule}
use Rattle.house.specs.declared.Rule.TheVariants.{A}
use Rattle.house.specs.Search.{scan, any, if_found}
use Rattle.house.specs.Cell.{has, cell_at, map_cells, holds}
use Rattle.house.specs.Checks.{foremost}
use Rattle.house.specs.House.{dominates, above, level_of, item_at, next_at, vacancy}
use Rattle.house.specs.Order.{old_chain}
use Rattle.house.specs.Rules.{begin, read, write, certify, commit, abort, ◌does◌, asker, no_level, forbidden, refusals, checks, verdict, untimely, wrote, signals_at, signalled_cell, signalled, converted_cell, certified_by, begun, read_by, read_answer, written_by, left, committed_by, ask_answer, outcome, served, performed, unserved, stepped}
use Rattle.house.specs.Opening.{wrong_length, wrong_table, open_verdict, opened, opening}
use Rattle.house.specs.Run.{finally, replies}
use Rattle.house.proofs.Unfolding.{tests}
use Rattle.std.proofs.lemmas.Bool.{cases_Bool, false_from_ne_true, or_parts}
use Rattle.std.proofs.Math.Bool.{or-false}
use Rattle.house.proofs.Tests.{same, clash}
use Rattle.house.proofs.Searches.{any_none}
use Rattle.house.proofs.Openings.{opening_number}
use Rattle.house.proofs.Levels.{dominated_low, undisordered, old_chain_long, old_chain_ordered}
use Rattle.house.proofs.Checks.{level_there, clear, passes, asker_known}
use Rattle.house.proofs.Cells.{cell_mapped, length_map_cells, cells_same}
use Rattle.house.proofs.Effects.{signalled_long, signalled_cell_lem, signalled_none}
use Rattle.reach.specs.Kept.{Kept}
use Rattle.reach.specs.Seeking.{run_by}
use Rattle.reach.specs.Chain.{old_forbidden, old_certified_cell, old_certified_by, old_committed_by, old_verdict, old_served, old_performed, old_stepped, with_terms, OldLooksAtNone, OldOpening, ChainIsOld}
use Rattle.reach.proofs.Law.{same_order, same_rule}
use Rattle.reach.proofs.Turns.{found}
use Rattle.reach.proofs.Kept.{step_keeps}
use Rattle.reach.proofs.Opened.{opening_cases, opening_has}
use Rattle.reach.proofs.Answers.{fixed_stays}

-- BY THE CHAIN'S TABLE a level dominates those whose number is not larger, and is above those whose number is smaller

differ : Bool → Bool → Bool
differ x y = cond x (not y) y

agree : (x y : Bool) → differ x y ≡ false → x ≡ y
unfolding differ
agree true true e = refl
agree true false e = e
agree false true e = sym e
agree false false e = refl

-- the sixteen entries, one by one
new_at : ℕ → Bool
new_at n =
    let a = n % 4 in
    let b = n / 4 in
    differ (not (dominates old_chain a b)) (ltb a b) || differ (above old_chain a b) (ltb b a)

none_new : any new_at 0 16 ≡ false
unfolding scan new_at differ dominates above old_chain
none_new = refl

entry : (a b : ℕ) → a < 4 → b < 4 → (not (dominates old_chain a b) ≡ ltb a b) × (above old_chain a b ≡ ltb b a)
unfolding new_at
entry a b x y =
    let n = 4 * b + a in
    let p : n / 4 ≡ b = omega arith in
    let r : n % 4 ≡ a = omega arith in
    let k = or_parts (differ (not (dominates old_chain a b)) (ltb a b)) _ (rw (p, r) at (any_none new_at 0 16 none_new n (omega arith) (omega arith))) in
    (agree _ _ k.0, agree _ _ k.1)

-- past them nothing is dominated, and every number is larger
chain_is : (a b : ℕ) → a < 4 → (not (dominates old_chain a b) ≡ ltb a b) × (above old_chain a b ≡ ltb b a)
unfolding above
chain_is a b x =
    elim (cases_Bool (ltb b 4)) [
      | inl y ↦ entry a b x (ltb-true b 4 y)
      | inr y ↦
          let n : 4 ≤ b = ltb-false b 4 y in
          let none : dominates old_chain a b ≡ false = false_from_ne_true _ (λ d. omega (arith, dominated_low old_chain old_chain_long a b d)) in
          (rw none (sym (lt-ltb a b (omega arith))), rw none (sym (le-ltb b a (omega arith))))
    ]

-- so the two sentences say what they said

module _ (h : House) (o : h.order ≡ old_chain) (r : h.rule ≡ A) where
  forbidden_old : (q : Request) → q.level < 4 → old_forbidden h q ≡ forbidden h q
  unfolding old_forbidden forbidden
  forbidden_old q b = rw (o, (chain_is q.level (item_at h.items q.item).level b).0)

  -- an active transaction has written what it holds write on
  cell_old : (me p i : ℕ) → p < 32 → holds h.cells Certify me i ≡ false → let c = cell_at h.cells p i in old_certified_cell h.cells me p i c ≡ converted_cell me p i (signalled_cell true h.order h.cells me p i c)
  unfolding old_certified_cell converted_cell signalled_cell wrote holds
  cell_old me p i b none =
      let c = cell_at h.cells p i in
      rw (o, (chain_is (level_of p) (level_of me) (omega arith)).1, none, or-false (has Write (cell_at h.cells me i)))
      (elim (cases_Bool (has Write (cell_at h.cells me i))) [
        | inl w ↦ elim (same p me) [ inl e ↦ rw (e, w, eq-eqb me me refl, le-ltb (level_of me) (level_of me) (omega arith)) (rw w) | inr n ↦ rw (w, ne_eqb p me n) ]
        | inr w ↦ elim (same p me) [ inl e ↦ rw (e, w, eq-eqb me me refl) (rw w) | inr n ↦ rw (w, ne_eqb p me n) ]
      ])

  certified_old : Kept h → (me : ℕ) → ((i : ℕ) → i < 64 → holds h.cells Certify me i ≡ false) → old_certified_by h me ≡ certified_by h me
  unfolding old_certified_by certified_by
  certified_old K me none =
      let z = K.sizes in
      let told = signalled certify h me in
      rw (cells_same (map_cells (old_certified_cell h.cells me) h.cells) (map_cells (converted_cell me) told) (length_map_cells h.cells z.cells _) (length_map_cells told (signalled_long z certify me) _)
      (λ p i b a.
      cell_mapped h.cells z.cells (old_certified_cell h.cells me) p i b a
      ∙ cell_old me p i b (none i a)
      ∙ sym (cell_mapped told (signalled_long z certify me) (converted_cell me) p i b a ∙ ap (converted_cell me p i) (signalled_cell_lem z certify me p i b a ∙ ap (λ x. signalled_cell (eqb (signals_at x) certify) h.order h.cells me p i (cell_at h.cells p i)) r))))

  committed_old : Kept h → (me : ℕ) → old_committed_by h me ≡ committed_by h me
  unfolding old_committed_by
  committed_old K me = rw (signalled_none K.sizes commit me (rw r))

  -- a level above 3 is refused before its items are looked at
  verdict_old : (q : Request) → old_verdict h q ≡ verdict h q
  unfolding old_verdict verdict checks refusals
  verdict_old q = elim (cases_Bool (no_level q)) [ inl y ↦ rw y | inr y ↦ rw (forbidden_old q (level_there q y)) ]

  module _ (K : Kept h) (q : Request) (z : foremost (refusals h q) ≡ 0) where
    served_old : (me : ℕ) → asker h q ≡ Some me → old_served h q me ≡ served h q me
    unfolding old_served served untimely
    served_old me at =
        elim (cases_Bool (q does certify)) [
          | inl y ↦
              let c : q.operation ≡ certify = eqb-true _ certify y in
              let m = (found {h = h} {q = q} (clear h q z).level at).seated.within.place in
              rw (c, certified_old K me (λ i a. false_from_ne_true _ (λ e. clash (K.certifying me i m a e) (rw (c, at) at (clear h q z).timely))))
          | inr y ↦ rw y (elim (cases_Bool (q does commit)) [ inl w ↦ rw (eqb-true q.operation commit w, committed_old K me) | inr w ↦ rw w ])
        ]

    performed_old : old_performed h q ≡ performed h q
    unfolding old_performed performed
    performed_old =
        elim (cases_Bool (q does begin)) [
          | inl y ↦ rw y
          | inr y ↦ let who = asker_known h q (eqb-false _ begin y) z in rw (y, who.1) (served_old who.0 who.1)
        ]

  stepped_old : Kept h → (q : Request) → old_stepped h q ≡ stepped h q
  unfolding old_stepped stepped
  stepped_old K q =
      rw (verdict_old q)
      (elim (same (verdict h q) 0) [ inl z ↦ rw (z, performed_old K q (passes h q z).0) | inr n ↦ rw (ne_eqb (verdict h q) 0 n) ])

pub old_opening : OldOpening
unfolding open_verdict wrong_table
old_opening levels = rw (opening_number levels old_chain A, old_chain_long, or-false (wrong_length levels), undisordered old_chain old_chain_ordered)

-- every opening with the chain's table under rule A yields a house that has them
opening_old : (levels : List ℕ) → let h = (opening levels old_chain A).house in (h.order ≡ old_chain) × (h.rule ≡ A)
unfolding opened
opening_old levels = opening_cases (λ h. (h.order ≡ old_chain) × (h.rule ≡ A)) levels old_chain A (λ P O. (refl, refl)) (refl, refl)

pub chain_is_old : ChainIsOld
unfolding run_by finally replies
chain_is_old levels qs = let old = opening_old levels in runs (opening levels old_chain A).house (opening_has levels old_chain A) old.0 old.1 qs
  where
    runs : (h : House) → Kept h → h.order ≡ old_chain → h.rule ≡ A → (qs : List Request) → run_by old_stepped h qs ≡ (finally h qs, replies h qs)
    runs h K o r [] = refl
    runs h K o r (q ∷ qs) = let f = fixed_stays h q in rw (stepped_old h o r K q, runs (stepped h q).house (step_keeps h K q) (same_order _ h f ∙ o) (same_rule _ h f ∙ r) qs)

-- THE OLD DESK LOOKS AT NO TABLE AND AT NO RULE: each of its cases is the same with others

module _ (order : List ℕ) (rule : Rule) where
  abbrev Other : Outcome → Outcome
  Other o = record { house = with_terms o.house order rule; reply = o.reply }

  by_cond : (b : Bool) (x y : Outcome) → cond b (Other x) (Other y) ≡ Other (cond b x y)
  by_cond true x y = refl
  by_cond false x y = refl

  by_found : (who : Option ℕ) (f : ℕ → Outcome) (y : Outcome) → if_found who (λ me. Other (f me)) (Other y) ≡ Other (if_found who f y)
  by_found (Some me) f y = refl
  by_found None f y = refl

  module _ (h : House) (q : Request) where
    verdict_same : old_verdict (with_terms h order rule) q ≡ old_verdict h q
    unfolding old_verdict old_forbidden tests
    verdict_same = refl

    -- but for a certify and a commit, the rules look at none either
    served_same : q does certify ≡ false → q does commit ≡ false → (me : ℕ) → served (with_terms h order rule) q me ≡ Other (served h q me)
    unfolding served read_by read_answer written_by left ask_answer
    served_same c w me =
        rw (c, w)
        (elim (cases_Bool (q does read)) [
          | inl y ↦ rw y
          | inr y ↦ elim (cases_Bool (q does write)) [
            | inl z ↦ rw (y, z)
            | inr z ↦ elim (cases_Bool (q does abort)) [ inl x ↦ rw (y, z, x) | inr x ↦ rw (y, z, x) ]
          ]
        ])

    old_same : (me : ℕ) → old_served (with_terms h order rule) q me ≡ Other (old_served h q me)
    unfolding old_served old_certified_by old_committed_by left
    old_same me =
        elim (cases_Bool (q does certify)) [
          | inl c ↦ rw c
          | inr c ↦ rw c (elim (cases_Bool (q does commit)) [ inl w ↦ rw w | inr w ↦ rw w (served_same c w me) ])
        ]

    performed_same : old_performed (with_terms h order rule) q ≡ Other (old_performed h q)
    unfolding old_performed performed begun
    performed_same =
        elim (cases_Bool (q does begin)) [
          | inl y ↦ rw y (by_found (vacancy h.places q.level) (λ me. outcome (begun h q.level me) q (Ticket (next_at h.next q.level))) (outcome h q (Refused 11)))
          | inr y ↦ rw y (served_by (asker h q))
        ]
      where
        served_by : (who : Option ℕ) → if_found who (old_served (with_terms h order rule) q) (outcome (with_terms h order rule) q (Refused 6)) ≡ Other (if_found who (old_served h q) (outcome h q (Refused 6)))
        served_by (Some me) = old_same me
        served_by None = refl

pub old_looks_at_none : OldLooksAtNone
unfolding old_stepped unserved
old_looks_at_none h order rule q = rw (verdict_same order rule h q, performed_same order rule h q) (by_cond order rule (eqb (old_verdict h q) 0) (old_performed h q) (outcome h q (unserved h q (old_verdict h q))))
