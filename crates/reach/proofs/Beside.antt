-- Levels side by side: what a request reads and reaches, by its cases. (Whom it waits for is in Holder.antt.)
-- Assumes nothing.
use Prim.Native.Nat.{ℕ, ◌<◌}
use native.Mathlib.Omega.{arith}
use mathlib.Core.Path.{◌≡◌, refl, ◌∙◌}
use mathlib.Core.Logic.{◌≢◌}
use mathlib.Core.Bool.{true, false}
use Rattle.house.specs.declared.House.{House}
use Rattle.house.specs.declared.Outcome.{Outcome}
use Rattle.house.specs.declared.Request.{Request}
use Rattle.house.specs.Cell.{cell_at}
use Rattle.house.specs.House.{Sizes, dominates, above, level_of, item_at, place_at}
use Rattle.house.specs.Rules.{read, certify, commit, begun, read_by, written_by, signalled, certified_by, committed_by, aborted_by}
use Rattle.house.proofs.Effects.{signalled_long, begun_place_other, read_cell_other, written_cell_other, certified_place_other, left_place_other}
use Rattle.reach.specs.Beside.{ReadsBelow, ReachesUp}
use Rattle.reach.proofs.Turns.{Turn, refused, waits, begins, reads, writes, certifies, commits, aborts, asks, turn}
use Rattle.reach.proofs.Changes.{signal_passes, certify_other, left_other}

turn_below : {h : House} {q : Request} {o : Outcome} → q.operation ≡ read → o.reply.number ≡ 0 → Turn h q o → dominates h.order q.level (item_at h.items q.item).level ≡ true
turn_below o z (refused n) = absurd (n z)
turn_below o z (waits p y e) = absurd (omega (arith, z))
turn_below o z (begins me e K) = absurd (omega arith)
turn_below o z (reads me e A K) = rw (← A.seated.within.level) K.may
turn_below o z (writes me e A K) = absurd (omega arith)
turn_below o z (certifies me e A K) = absurd (omega arith)
turn_below o z (commits me e A K) = absurd (omega arith)
turn_below o z (aborts me e A) = absurd (omega arith)
turn_below o z (asks me e A) = absurd (omega arith)

pub reads_below : ReadsBelow
reads_below h q o z = turn_below o z (turn h q)

-- place p and its cells are as they were
abbrev Stays : House → House → ℕ → Type 0
Stays h h' p = (place_at h'.places p ≡ place_at h.places p) × ((i : ℕ) → i < 64 → cell_at h'.cells p i ≡ cell_at h.cells p i)

module _ {h : House} (z : Sizes h) (p : ℕ) (b : p < 32) where
  certify_stays : (me : ℕ) → p ≢ me → above h.order (level_of p) (level_of me) ≡ false → Stays h (certified_by h me) p
  certify_stays me n u = (
    certified_place_other h me p n,
    λ i a. certify_other z me p i b a n ∙ signal_passes z certify me p i b a u,
  )

  abort_stays : (me : ℕ) → p ≢ me → Stays h (aborted_by h me) p
  abort_stays me n = (left_place_other h h.cells me p n, λ i a. left_other z h.cells me z.cells p i b a n)

  commit_stays : (me : ℕ) → p ≢ me → above h.order (level_of p) (level_of me) ≡ false → Stays h (committed_by h me) p
  commit_stays me n u =
      let cells = signalled commit h me in
      (left_place_other h cells me p n, λ i a. left_other z cells me (signalled_long z commit me) p i b a n ∙ signal_passes z commit me p i b a u)

  turn_stays : {q : Request} {o : Outcome} → level_of p ≢ q.level → above h.order (level_of p) q.level ≡ false → Turn h q o → Stays h o.house p
  unfolding begun read_by written_by
  turn_stays n u (refused x) = (refl, λ i a. refl)
  turn_stays n u (waits r x e) = (refl, λ i a. refl)
  turn_stays {q} n u (begins me o K) = (begun_place_other h q.level me p (λ e. n (rw e K.placed)), λ i a. refl)
  turn_stays {q} n u (reads me o A K) = (refl, λ i a. read_cell_other h me q.item p i K.row a (λ e. absurd (n (rw e A.seated.within.level))))
  turn_stays {q} n u (writes me o A K) = (refl, λ i a. written_cell_other h me q.item q.value p i K.row a (λ e. absurd (n (rw e A.seated.within.level))))
  turn_stays n u (certifies me o A K) = let l = A.seated.within.level in certify_stays me (λ e. n (rw e l)) (rw l u)
  turn_stays n u (commits me o A K) = let l = A.seated.within.level in commit_stays me (λ e. n (rw e l)) (rw l u)
  turn_stays n u (aborts me o A) = abort_stays me (λ e. n (rw e A.seated.within.level))
  turn_stays n u (asks me o A) = (refl, λ i a. refl)

pub reaches_up : ReachesUp
reaches_up h z q p b n u = turn_stays z p b n u (turn h q)
