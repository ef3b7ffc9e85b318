-- CR 5: proof of the statement in specs/Holder.antt, and of the one in specs/Beside.antt that speaks of a delay. Whoever hinders a request
-- has a lock on the item, so it is open; its write or certify lock is at the item's level, which the asker may read or write at, and a read
-- lock counts at the asker's own level alone.
-- Assumes nothing.
use Prim.Native.Nat.{ℕ, ◌<◌}
use mathlib.Core.Path.{◌≡◌, refl, sym, ◌∙◌}
use mathlib.Core.Logic.{inl, inr}
use mathlib.Core.Bool.{true, false, not}
use mathlib.Core.List.{List}
use lib.Dec.{eqb}
use borrow.Author.Tests.{eqb-true, eqb-false, not-true}
use Rattle.std.specs.Prelude.{Some}
use Rattle.house.specs.declared.House.{House}
use Rattle.house.specs.declared.Mark.TheVariants.{Read, Write, Certify}
use Rattle.house.specs.declared.Request.{Request}
use Rattle.house.specs.Matrix.{Lock}
use Rattle.house.specs.House.{dominates, level_of}
use Rattle.house.specs.Checks.{foremost}
use Rattle.house.specs.Rules.{read, write, certify, ◌does◌, uses_item, peer_reads, hinders, wants, holder, refusals}
use Rattle.std.proofs.lemmas.Bool.{cases_Bool, false_from_ne_true, and_parts, or_parts}
use Rattle.house.proofs.Tests.{clash}
use Rattle.house.proofs.Checks.{Clear, clear, allowed_below}
use Rattle.house.proofs.Steps.{waits_is}
use Rattle.house.proofs.Holders.{Hindered, hinders_claims, holder_at}
use Rattle.reach.specs.Kept.{Kept}
use Rattle.reach.specs.Decides.{refuses, refused_by}
use Rattle.reach.specs.Holder.{Holds, HolderNamed}
use Rattle.reach.specs.Beside.{WaitsForPeers}
use Rattle.reach.proofs.Law.{Law, clear_has, claimed_below}
use Rattle.reach.proofs.Turns.{Asker, found}
use Rattle.reach.proofs.Kept.{kept_law}
use Rattle.reach.proofs.Opened.{reachable_has}
use Rattle.reach.proofs.Guards.{delay_held}
use Rattle.reach.proofs.Decides.{hinders_refused}

-- the matrix refuses nothing for a clear cell
clear_grants : (order : List ℕ) (k : Lock) (l x c : ℕ) → c ≡ 0 → refuses order k l x c ≡ false
unfolding refuses
clear_grants order k l x c z = rw (clear_has Read c z, clear_has Write c z, clear_has Certify c z)

module _ {h : House} (L : Law h) (q : Request) (itself : dominates h.order q.level q.level ≡ true) (U : Clear h q) (me : ℕ) (A : Asker h q me) where
  holder_below : (p i : ℕ) → p < 32 → i < 64 → wants h.cells q me i ≡ true → hinders h.cells q.operation me i p ≡ true → dominates h.order q.level (level_of p) ≡ true
  unfolding hinders wants peer_reads
  holder_below p i b a w y =
      elim (cases_Bool (uses_item q)) [
        | inl u ↦ claimed_below L q.level me p i b a (rw (eqb-true i q.item (rw u at w)) (allowed_below h q itself u U.allowed)) (hinders_claims h.cells q me i p u y)
        | inr n ↦
            let none = or_parts (q does read) (q does write) n in
            let l : level_of p ≡ level_of me = eqb-true _ _ (and_parts (eqb (level_of p) (level_of me)) _ (rw (none.0, none.1) at y)).0 in
            rw (l, A.seated.within.level) itself
      ]

  holds : (p : ℕ) → Hindered h.cells q me p → Holds h q p
  unfolding refused_by
  holds p H =
      let at = hinders_refused L q me A.seated.within.place in
      let y = sym (at H.item p H.row H.place H.wanted) ∙ H.by in
      let k = and_parts (not (eqb p me)) _ y in
      record {
        place = H.place;
        me = me;
        item = H.item;
        asking = A.at;
        row = H.row;
        stands = false_from_ne_true _ (λ f. clash k.1 (clear_grants _ _ _ _ _ ((L.cells p H.item H.place H.row).idle f)));
        other = eqb-false p me (not-true _ k.0);
        wanted = H.wanted;
        refused = y;
        lowest = λ i r a b w z. H.lowest i r a b w (at i r a b w ∙ z);
        below = holder_below p H.item H.place H.row H.wanted H.by;
      }

-- whom the rules find holds it
pub held_by : {h : House} → Kept h → (q : Request) → foremost (refusals h q) ≡ 0 → (p : ℕ) → holder h q ≡ Some p → Holds h q p
held_by {h} K q z p e =
    let U = clear h q z in
    let w = holder_at h q p e in
    holds (kept_law K) q (K.order.reflexive q.level U.level) U w.0 (found U.level w.1) p w.2

pub holder_named : HolderNamed
holder_named h R q e =
    let K = reachable_has h R in
    let d = delay_held h q e in
    let p = d.1 in
    let H = held_by K q d.0 p d.2 in
    rw (waits_is h q p d.0 d.2) (record { holder = p; holds = H; value = refl; ticket = K.named p H.place H.stands; version = refl })

-- A CERTIFY waits for its own level alone, in every house

-- whoever hinders a certify reads at the asker's level
hinders_peer : (cells : List ℕ) (operation me i p : ℕ) → operation ≡ certify → hinders cells operation me i p ≡ true → level_of p ≡ level_of me
unfolding hinders peer_reads
hinders_peer cells operation me i p o y = eqb-true _ _ (and_parts (eqb (level_of p) (level_of me)) _ (rw o at y)).0

pub waits_for_peers : WaitsForPeers
waits_for_peers h q o e =
    let d = delay_held h q e in
    let w = holder_at h q d.1 d.2 in
    let H = w.2 in
    let A : Asker h q w.0 = found (clear h q d.0).level w.1 in
    rw (waits_is h q d.1 d.0 d.2) (hinders_peer h.cells q.operation w.0 H.item d.1 o H.by ∙ A.seated.within.level)
