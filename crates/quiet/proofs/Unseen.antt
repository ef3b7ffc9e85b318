-- A request that is struck changes nothing of the levels that k dominates: it touches no place and no cell but of its own level and of
-- levels above it (reach, Beside), and no item and no ticket but of its own level; and whoever is above what k does not dominate, k does
-- not dominate either.
-- Assumes nothing.
use Prim.Native.Nat.{ℕ, ◌<◌}
use native.Mathlib.Omega.{arith}
use mathlib.Core.Path.{◌≡◌, refl, sym}
use mathlib.Core.Logic.{◌≢◌}
use mathlib.Core.Bool.{true, false}
use borrow.Author.Tests.{le-ltb}
use Rattle.house.specs.declared.House.{House}
use Rattle.house.specs.declared.Outcome.{Outcome}
use Rattle.house.specs.declared.Request.{Request}
use Rattle.house.specs.Cell.{cell_at}
use Rattle.house.specs.House.{dominates, above, level_of, item_at, pending_at, next_at}
use Rattle.house.specs.Rules.{commit, begun, read_by, written_by, signalled, certified_by, left, committed_by, aborted_by}
use Rattle.std.proofs.lemmas.Bool.{false_from_ne_true, and_parts, and_from, not_from_false}
use Rattle.house.proofs.Tests.{clash}
use Rattle.house.proofs.Levels.{dominated_low, dominates_on}
use Rattle.house.proofs.Effects.{begun_next_other, written_pending_other}
use Rattle.reach.specs.Kept.{Kept}
use Rattle.reach.proofs.Law.{held, held_neither, Law}
use Rattle.reach.proofs.Turns.{MayBegin, MayWrite, Turn, refused, waits, begins, reads, writes, certifies, commits, aborts, asks, turn}
use Rattle.reach.proofs.Changes.{left_stays, committed_row}
use Rattle.reach.proofs.Kept.{kept_law}
use Rattle.reach.proofs.Answers.{fixed_stays}
use Rattle.reach.proofs.Beside.{reaches_up}
use Rattle.quiet.specs.Alike.{stays, StruckUnseen}

-- what a change by level l leaves as it was: items and next tickets of other levels
record Spares (h h' : House) (l : ℕ) : Type 0 where
  items : (i : ℕ) → i < 64 → (item_at h.items i).level ≢ l → (item_at h'.items i ≡ item_at h.items i) × (pending_at h'.pending i ≡ pending_at h.pending i)
  tickets : (j : ℕ) → j < 4 → j ≢ l → next_at h'.next j ≡ next_at h.next j

-- so does a change that leaves all items, pending values and next tickets
spares_all : {h h' : House} {l : ℕ} → h'.items ≡ h.items → h'.pending ≡ h.pending → h'.next ≡ h.next → Spares h h' l
spares_all x y z = record { items = λ i a n. (rw x, rw y); tickets = λ j b n. rw z }

module _ {h : House} (L : Law h) where
  begin_spares : {l me : ℕ} → MayBegin h l me → Spares h (begun h l me) l
  unfolding begun
  begin_spares {l} {me} K = record { items = λ i a n. (refl, refl); tickets = λ j b n. begun_next_other h l me j n }

  write_spares : {me i v : ℕ} → MayWrite h me i v → Spares h (written_by h me i v) (level_of me)
  unfolding written_by
  write_spares {me} {i} {v} K = record { items = λ j a n. (refl, written_pending_other h me i v j (λ e. n (rw e K.mine))); tickets = λ j b n. refl }

  -- an item of another level I have not written
  unwritten : {me : ℕ} → me < 32 → (i : ℕ) → i < 64 → (item_at h.items i).level ≢ level_of me → held (cell_at h.cells me i) ≡ false
  unwritten {me} m i a n = false_from_ne_true _ (λ y. n ((L.cells me i m a).owned y))

  abort_spares : {me : ℕ} → me < 32 → Spares h (aborted_by h me) (level_of me)
  unfolding left
  abort_spares {me} m = record { items = λ i a n. (refl, left_stays L.sizes h.cells me i a (unwritten m i a n)); tickets = λ j b n. refl }

  commit_spares : {me : ℕ} → me < 32 → Spares h (committed_by h me) (level_of me)
  unfolding left
  commit_spares {me} m =
      record {
        items = λ i a n. let none = unwritten m i a n in (committed_row L m i a (held_neither _ none).1, left_stays L.sizes (signalled commit h me) me i a none);
        tickets = λ j b n. refl;
      }

  turn_spares : {q : Request} {o : Outcome} → Turn h q o → Spares h o.house q.level
  unfolding read_by certified_by
  turn_spares (refused n) = spares_all refl refl refl
  turn_spares (waits p z e) = spares_all refl refl refl
  turn_spares (begins me o K) = begin_spares K
  turn_spares (reads me o A K) = spares_all refl refl refl
  turn_spares (writes me o A K) = rw (← A.seated.within.level) (write_spares K)
  turn_spares (certifies me o A K) = spares_all refl refl refl
  turn_spares (commits me o A K) = rw (← A.seated.within.level) (commit_spares K.place)
  turn_spares (aborts me o A) = rw (← A.seated.within.level) (abort_spares A.seated.within.place)
  turn_spares (asks me o A) = spares_all refl refl refl

-- a level byte above 3 is dominated by none: the table has four rows
struck_hidden : {h : House} → Kept h → (k : ℕ) (q : Request) → stays h.order k q ≡ false → dominates h.order k q.level ≡ false
struck_hidden {h} K k q d =
    false_from_ne_true _
    (λ y.
    let low = dominated_low h.order K.sizes.order k q.level y in
    clash (and_from _ _ (not_from_false _ (le-ltb 3 q.level (omega arith))) y) d)

pub struck_unseen : StruckUnseen
unfolding above
struck_unseen k b h K q d =
    let S = turn_spares (kept_law K) (turn h q) in
    record {
      fixed = sym (fixed_stays h q);
      items = λ i a x. let e = S.items i a (other _ x) in (sym e.0, sym e.1);
      places = λ p c x. sym (reaches_up h K.sizes q p c (other _ x) (not_above p x)).0;
      tickets = λ l c x. sym (S.tickets l c (other _ x));
      cells = λ p i c a x. sym ((reaches_up h K.sizes q p c (other _ x) (not_above p x)).1 i a);
    }
  where
    other : (l : ℕ) → dominates h.order k l ≡ true → l ≢ q.level
    other l x e = clash (rw e at x) (struck_hidden K k q d)

    not_above : (p : ℕ) → dominates h.order k (level_of p) ≡ true → above h.order (level_of p) q.level ≡ false
    not_above p x = false_from_ne_true _ (λ y. clash (dominates_on K.order K.sizes.order k (level_of p) q.level b x (and_parts (dominates h.order (level_of p) q.level) _ y).0) (struck_hidden K k q d))
