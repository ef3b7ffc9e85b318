-- Two houses that are alike for k refuse a request of a level that k dominates alike, and the same one holds what it asks for: each test
-- looks only at what is alike. Of what a house keeps, the tests need the laws of the order alone.
-- Assumes nothing.
use Prim.Native.Nat.{ℕ, ◌*◌, ◌<◌}
use native.Mathlib.Omega.{arith}
use mathlib.Core.Path.{◌≡◌, refl, sym, ap, ◌∙◌}
use mathlib.Core.Logic.{inl, inr}
use mathlib.Core.Bool.{Bool, true, false, ◌&&◌, ◌||◌, not, cond}
use mathlib.Core.List.{List, [], ◌∷◌}
use lib.Dec.{eqb, leb}
use borrow.Author.Tests.{eqb-true, ne_eqb}
use Rattle.std.specs.Prelude.{Option, Some, None}
use Rattle.house.specs.declared.House.{House}
use Rattle.house.specs.declared.Mark.{Mark}
use Rattle.house.specs.declared.Mark.TheVariants.{Read, Write, Certify, Signalled}
use Rattle.house.specs.declared.Request.{Request}
use Rattle.house.specs.Search.{if_found, nobody}
use Rattle.house.specs.Cell.{has, cell_at, holds, another_holds, is_signalled}
use Rattle.house.specs.House.{vacant, dominates, level_of, item_at, place_at, free_at, is_active, is_certified, has_ticket, seek, vacancy}
use Rattle.house.specs.Checks.{foremost}
use Rattle.house.specs.Rules.{begin, read, write, certify, commit, ◌does◌, asker, uses_item, unknown, no_item, forbidden, stopped, untimely, worn_out, crowded, ticketless, another_claims, peer_reads, hinders, wants, holder_on, conflict, holder, refusals}
use Rattle.std.proofs.lemmas.Bool.{cases_Bool, false_from_ne_true, and_parts, or_parts, or_right}
use Rattle.house.proofs.Tests.{same, clash}
use Rattle.house.proofs.Searches.{scan_same, round_same, first_same}
use Rattle.house.proofs.Holders.{hinders_claims, holder_at}
use Rattle.house.proofs.Places.{seek_at}
use Rattle.house.proofs.Levels.{dominated_low, dominates_on}
use Rattle.house.proofs.Checks.{Clear, level_there, item_there, allowed_below}
use Rattle.reach.specs.Kept.{Kept}
use Rattle.reach.proofs.Law.{held, held_write, held_certify, Law, claimed_below, same_count}
use Rattle.reach.proofs.Kept.{kept_law}
use Rattle.quiet.specs.Alike.{Alike}
use Rattle.quiet.proofs.Alike.{order_alike, level_alike}

-- two lists of checks that agree as far as they are read: those behind a test are looked at where it does not apply
data Agree : List (ℕ × Bool) → List (ℕ × Bool) → Type 0 where
  none : Agree [] []
  check : (n : ℕ) {a b : Bool} {xs ys : List (ℕ × Bool)} → a ≡ b → (a ≡ false → Agree xs ys) → Agree ((n, a) ∷ xs) ((n, b) ∷ ys)

agreed : {xs ys : List (ℕ × Bool)} → Agree xs ys → foremost xs ≡ foremost ys
agreed none = refl
agreed (check n {a} e f) = elim (cases_Bool a) [ inl t ↦ rw (t, sym e ∙ t) | inr t ↦ rw (t, sym e ∙ t) (agreed (f t)) ]

module _ (k : ℕ) {h g : House} (A : Alike k h g) where
  -- the two searches over the places of a level
  module _ (l : ℕ) (b : l < 4) (d : dominates h.order k l ≡ true) where
    place_alike : (p : ℕ) → level_of p ≡ l → place_at h.places p ≡ place_at g.places p
    place_alike p e = A.places p (omega arith) (rw e d)

    seek_alike : (t : ℕ) → seek h.places l t ≡ seek g.places l t
    unfolding seek has_ticket free_at
    seek_alike t = round_same (has_ticket h.places t) (has_ticket g.places t) (l * 8) 8 t (λ p x y. rw (place_alike p (omega arith)))

    pub vacancy_alike : vacancy h.places l ≡ vacancy g.places l
    unfolding vacancy free_at
    vacancy_alike = scan_same _ _ _ _ (l * 8) 8 (λ p x y. rw (place_alike p (omega arith)))

  module _ (me : ℕ) (m : me < 32) (d : dominates h.order k (level_of me) ≡ true) where
    pub mark_alike : (n : Mark) (i : ℕ) → i < 64 → holds h.cells n me i ≡ holds g.cells n me i
    unfolding holds
    mark_alike n i a = ap (has n) (A.cells me i m a d)

    signalled_alike : is_signalled h.cells me ≡ is_signalled g.cells me
    unfolding is_signalled
    signalled_alike = scan_same _ _ _ _ 0 64 (λ i x y. mark_alike Signalled i (omega arith))

    -- who reads at my level
    peer_alike : (i p : ℕ) → i < 64 → p < 32 → peer_reads h.cells me i p ≡ peer_reads g.cells me i p
    unfolding peer_reads another_holds holds
    peer_alike i p a b =
        elim (same (level_of p) (level_of me)) [
          | inl e ↦ ap (λ c. eqb (level_of p) (level_of me) && (not (eqb p me) && has Read c)) (A.cells p i b a (rw e d))
          | inr n ↦ rw (ne_eqb _ _ n)
        ]

    -- what a request asks for a lock on
    wants_alike : (q : Request) (i : ℕ) → i < 64 → wants h.cells q me i ≡ wants g.cells q me i
    unfolding wants
    wants_alike q i a = ap (λ w. cond (uses_item q) (eqb i q.item) (q does certify && w)) (mark_alike Write i a)

  module _ (four : k < 4) (K : Kept h) (q : Request) (d : dominates h.order k q.level ≡ true) where
    -- an item that may be read or written is of a level that k dominates
    pub item_seen : uses_item q ≡ true → forbidden h q ≡ false → dominates h.order k (item_at h.items q.item).level ≡ true
    item_seen u e =
        let z = K.sizes.order in
        dominates_on K.order z k q.level _ four d (allowed_below h q (K.order.reflexive q.level (dominated_low h.order z k q.level d)) u e)

    module _ (b : q.level < 4) where
      pub asker_alike : asker h q ≡ asker g q
      asker_alike = seek_alike q.level b d q.ticket

      -- what is asked of the asker is asked of one at a level that k dominates
      by_asker : {X : Type 0} (x y : ℕ → X) (z : X) → ((me : ℕ) → me < 32 → dominates h.order k (level_of me) ≡ true → x me ≡ y me) → if_found (asker h q) x z ≡ if_found (asker g q) y z
      by_asker x y z e = either (asker h q) refl ∙ ap (λ who. if_found who y z) asker_alike
        where
          either : (who : Option ℕ) → asker h q ≡ who → if_found who x z ≡ if_found who y z
          either (Some me) s = let w = (seek_at h.places q.level q.ticket me b s).within in e me w.place (rw w.level d)
          either None s = refl

      -- the tests, in the order of the checks
      unknown_alike : unknown h q ≡ unknown g q
      unfolding unknown
      unknown_alike = ap (λ who. not (q does begin) && nobody who) asker_alike

      item_alike : no_item h q ≡ no_item g q
      unfolding no_item
      item_alike = ap (λ c. uses_item q && (leb c q.item || leb 64 q.item)) (same_count h g A.fixed)

      forbidden_alike : forbidden h q ≡ forbidden g q
      unfolding forbidden
      forbidden_alike = rw (order_alike A, level_alike A q.item)

      stopped_alike : stopped h q ≡ stopped g q
      unfolding stopped
      stopped_alike = ap (λ s. (q does read || q does write || q does certify || q does commit) && s) (by_asker (is_signalled h.cells) (is_signalled g.cells) false signalled_alike)

      untimely_alike : untimely h q ≡ untimely g q
      unfolding untimely
      untimely_alike =
          ap (λ s. cond (q does read || q does write || q does certify) (is_certified s) (cond (q does commit) (is_active s) false))
          (by_asker (λ me. (place_at h.places me).standing) (λ me. (place_at g.places me).standing) vacant.standing (λ me m low. ap (λ x. x.standing) (A.places me m low)))

      worn_alike : no_item h q ≡ false → forbidden h q ≡ false → worn_out h q ≡ worn_out g q
      unfolding worn_out
      worn_alike c7 c8 =
          elim (cases_Bool (q does write)) [
            | inl w ↦ let u = or_right (q does read) (q does write) w in rw (A.items q.item (item_there h q u c7).1 (item_seen u c8)).0
            | inr n ↦ rw n
          ]

      crowded_alike : crowded h q ≡ crowded g q
      unfolding crowded
      crowded_alike = ap (λ who. q does begin && nobody who) (vacancy_alike q.level b d)

      ticketless_alike : ticketless h q ≡ ticketless g q
      unfolding ticketless
      ticketless_alike = ap (λ t. q does begin && eqb t 0) (A.tickets q.level b d)

    refusals_agree : Agree (refusals h q) (refusals g q)
    unfolding refusals
    refusals_agree =
        check 3 refl
        (λ c3. check 4 refl
        (λ c4. let b = level_there q c4 in check 5 refl
        (λ c5. check 6 (unknown_alike b)
        (λ c6. check 7 (item_alike b)
        (λ c7. check 8 (forbidden_alike b)
        (λ c8. check 15 refl
        (λ c15. check 2 (stopped_alike b)
        (λ c2. check 9 (untimely_alike b)
        (λ c9. check 10 (worn_alike b c7 c8)
        (λ c10. check 11 (crowded_alike b)
        (λ c11. check 12 (ticketless_alike b)
        (λ c12. none))))))))))))

    pub refusals_alike : foremost (refusals h q) ≡ foremost (refusals g q)
    refusals_alike = agreed refusals_agree

  -- and the holder
  module _ (four : k < 4) (K : Kept h) (J : Kept g) where
    -- on an item of a level that k dominates nobody else has a write or certify lock: those are at the item's level
    module _ (m : Mark) (writes : (c : ℕ) → has m c ≡ true → held c ≡ true) (i : ℕ) (a : i < 64) (d : dominates h.order k (item_at h.items i).level ≡ true) where
      unheld : {f : House} → Law f → (item_at h.items i).level ≡ (item_at f.items i).level → (p : ℕ) → p < 32 → dominates h.order k (level_of p) ≡ false → has m (cell_at f.cells p i) ≡ false
      unheld {f} N e p b n = false_from_ne_true _ (λ y. clash (rw (e, (N.cells p i b a).owned (writes _ y)) at d) n)

      held_alike : (p : ℕ) → p < 32 → has m (cell_at h.cells p i) ≡ has m (cell_at g.cells p i)
      held_alike p b =
          elim (cases_Bool (dominates h.order k (level_of p))) [
            | inl y ↦ ap (has m) (A.cells p i b a y)
            | inr n ↦ unheld (kept_law K) refl p b n ∙ sym (unheld (kept_law J) (level_alike A i) p b n)
          ]

      other_alike : (me p : ℕ) → p < 32 → another_holds h.cells m me i p ≡ another_holds g.cells m me i p
      unfolding another_holds holds
      other_alike me p b = ap (λ y. not (eqb p me) && y) (held_alike p b)

    module _ (q : Request) (d : dominates h.order k q.level ≡ true) where
      -- a transaction of a level that k dominates asks, and what it asks for is, of a read and a write, on an item that may be seen
      module _ (c : Clear h q) (me : ℕ) (m : me < 32) (low : dominates h.order k (level_of me) ≡ true) where
        wanted_seen : (i : ℕ) → wants h.cells q me i ≡ true → uses_item q ≡ true → dominates h.order k (item_at h.items i).level ≡ true
        unfolding wants
        wanted_seen i w u = rw (eqb-true i q.item (rw u at w)) (item_seen four K q d u c.allowed)

        -- who stands in its way is the same, and at a level that k dominates
        module _ (i p : ℕ) (a : i < 64) (b : p < 32) (w : wants h.cells q me i ≡ true) where
          hinders_alike : hinders h.cells q.operation me i p ≡ hinders g.cells q.operation me i p
          unfolding hinders another_claims
          hinders_alike =
              elim (cases_Bool (uses_item q)) [
                | inl u ↦ let s = wanted_seen i w u in rw (other_alike Certify held_certify i a s me p b, other_alike Write held_write i a s me p b, peer_alike me m low i p a b)
                | inr n ↦ let none = or_parts (q does read) (q does write) n in rw (none.0, none.1, peer_alike me m low i p a b)
              ]

          -- (as `holder_below` of reach; CR 3 does without it, so that edits of the rules which both notice can be tried on CR 3 alone)
          hinders_seen : hinders h.cells q.operation me i p ≡ true → dominates h.order k (level_of p) ≡ true
          unfolding hinders peer_reads
          hinders_seen y =
              elim (cases_Bool (uses_item q)) [
                | inl u ↦ claimed_below (kept_law K) k me p i b a (wanted_seen i w u) (hinders_claims h.cells q me i p u y)
                | inr n ↦
                    let none = or_parts (q does read) (q does write) n in
                    let l : level_of p ≡ level_of me = eqb-true _ _ (and_parts (eqb (level_of p) (level_of me)) _ (rw (none.0, none.1) at y)).0 in
                    rw l low
              ]

        on_alike : (i : ℕ) → i < 64 → holder_on h.cells q me i ≡ holder_on g.cells q me i
        unfolding holder_on
        on_alike i a =
            let e = wants_alike me m low q i a in
            elim (cases_Bool (wants h.cells q me i)) [
              | inl w ↦ rw (w, sym e ∙ w) (scan_same _ _ _ _ 0 32 (λ p x y. hinders_alike i p a (omega arith) w))
              | inr w ↦ rw (w, sym e ∙ w)
            ]

        conflict_alike : conflict h.cells q me ≡ conflict g.cells q me
        unfolding conflict
        conflict_alike = first_same _ _ 0 64 (λ i x y. on_alike i (omega arith))

      pub holder_alike : Clear h q → holder h q ≡ holder g q
      holder_alike c = by_asker four K q d c.level (conflict h.cells q) (conflict g.cells q) None (conflict_alike c)

      pub holder_seen : Clear h q → (p : ℕ) → holder h q ≡ Some p → (p < 32) × (dominates h.order k (level_of p) ≡ true)
      holder_seen c p e =
          let w = holder_at h q p e in
          let H = w.2 in
          let s = (seek_at h.places q.level q.ticket w.0 c.level w.1).within in
          (H.place, hinders_seen c w.0 s.place (rw s.level d) H.item p H.row H.place H.wanted H.by)
