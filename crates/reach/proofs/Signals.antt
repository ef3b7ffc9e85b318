-- When a signal is given, by whom and to whom: by the cases of a request.
-- Assumes nothing.
use Prim.Native.Nat.{ℕ, ◌<◌}
use native.Mathlib.Omega.{arith}
use mathlib.Core.Path.{◌≡◌, refl, sym, ap, ◌∙◌}
use mathlib.Core.Logic.{◌≢◌, inl, inr}
use mathlib.Core.Bool.{true, false}
use lib.Dec.{eqb}
use borrow.Author.Tests.{eq-eqb, eqb-true, eqb-false}
use Rattle.std.specs.Prelude.{Some}
use Rattle.house.specs.declared.House.{House}
use Rattle.house.specs.declared.Mark.TheVariants.{Read, Signalled}
use Rattle.house.specs.declared.Outcome.{Outcome}
use Rattle.house.specs.declared.Request.{Request}
use Rattle.house.specs.Search.{if_found}
use Rattle.house.specs.Cell.{has, cell_at, holds}
use Rattle.house.specs.House.{item_at}
use Rattle.house.specs.Rules.{certify, commit, asker, begun, read_by, written_by, signals_at, signalled, certified_by, left, stepped}
use Rattle.std.proofs.lemmas.Bool.{cases_Bool}
use Rattle.house.proofs.Tests.{same, clash}
use Rattle.house.proofs.Levels.{above_itself}
use Rattle.house.proofs.Effects.{signalled_long, read_cell_other, written_cell_other}
use Rattle.reach.specs.Signals.{Gives, OnlySignals, SignalsAll, ReadersTold}
use Rattle.reach.proofs.Law.{Law, clear_has}
use Rattle.reach.proofs.Turns.{Asker, Turn, refused, waits, begins, reads, writes, certifies, commits, aborts, asks, turn}
use Rattle.reach.proofs.Changes.{either, read_mine, write_mine, signal_only, signal_reaches, certify_other, certify_signalled, left_other, left_mine, commit_frame}
use Rattle.reach.proofs.Kept.{kept_law}
use Rattle.reach.proofs.Opened.{reachable_has}

module _ {h : House} (L : Law h) (q : Request) (p i : ℕ) (b : p < 32) (a : i < 64) where
  -- the cell is signalled
  abbrev Told : House → Type 0
  Told g = has Signalled (cell_at g.cells p i) ≡ true

  -- ONLY: it was, or the request gives the signal

  module _ (none : has Signalled (cell_at h.cells p i) ≡ false) where
    -- the transaction at me gave the signals of operation n
    given : {o : Outcome} (n me : ℕ) → o ≡ stepped h q → o.reply.number ≡ 0 → q.operation ≡ n → Asker h q me → has Signalled (cell_at (signalled n h me) p i) ≡ true → Gives h q p i
    unfolding holds
    given n me e z o A s =
        let k = signal_only L.sizes n me p i b a none s in
        record {
          operation = o ∙ sym (eqb-true _ n k.gives);
          done = ap (λ x. x.reply.number) (sym e) ∙ z;
          writer = me;
          asks = A.at;
          wrote = k.wrote;
          read = k.read;
          higher = rw (← A.seated.within.level) k.higher;
        }

    turn_only : {o : Outcome} → o ≡ stepped h q → Turn h q o → Told o.house → Gives h q p i
    unfolding begun
    turn_only e (refused n) s = clash s none
    turn_only e (waits r z x) s = clash s none
    turn_only e (begins me o K) s = clash s none
    turn_only e (reads me o A K) s =
        clash s
        (elim (same p me) [
          | inl x ↦ rw x (read_mine L K Signalled i a ∙ rw x at none)
          | inr n ↦ ap (has Signalled) (read_cell_other h me q.item p i K.row a (λ x. absurd (n x))) ∙ none
        ])
    turn_only e (writes me o A K) s =
        clash s
        (elim (same p me) [
          | inl x ↦ rw x (write_mine L K Signalled i a ∙ rw x at none)
          | inr n ↦ ap (has Signalled) (written_cell_other h me q.item q.value p i K.row a (λ x. absurd (n x))) ∙ none
        ])
    turn_only e (certifies me o A K) s =
        elim (same p me) [
          | inl x ↦ clash (rw x at s) (certify_signalled L K i a ∙ rw x at none)
          | inr n ↦ given certify me e refl o A (rw (certify_other L.sizes me p i b a n) at s)
        ]
    turn_only e (commits me o A K) s =
        let long = signalled_long L.sizes commit me in
        elim (same p me) [
          | inl x ↦ clash (rw x at s) (clear_has Signalled _ (left_mine L.sizes (signalled commit h me) me long i K.place a))
          | inr n ↦ given commit me e refl o A (rw (left_other L.sizes (signalled commit h me) me long p i b a n) at s)
        ]
    turn_only e (aborts me o A) s =
        elim (same p me) [
          | inl x ↦ clash (rw x at s) (clear_has Signalled _ (left_mine L.sizes h.cells me L.sizes.cells i A.seated.within.place a))
          | inr n ↦ clash (rw (left_other L.sizes h.cells me L.sizes.cells p i b a n) at s) none
        ]
    turn_only e (asks me o A) s = clash s none

  -- ALL

  module _ (G : Gives h q p i) where
    -- the operation is one of two
    gives_none : (n : ℕ) → q.operation ≡ n → eqb n certify ≡ false → eqb n commit ≡ false → ⊥
    gives_none n o c d =
        let e = sym o ∙ G.operation in
        elim (either h.rule) [ inl r ↦ eqb-false n certify c (e ∙ ap signals_at r) | inr r ↦ eqb-false n commit d (e ∙ ap signals_at r) ]

    -- and the asker is the writer, below the reader
    reached : (n me : ℕ) → q.operation ≡ n → Asker h q me → has Signalled (cell_at (signalled n h me) p i) ≡ true
    unfolding holds
    reached n me o A =
        let mine : me ≡ G.writer = ap (λ who. if_found who (λ k. k) 0) (sym A.at ∙ G.asks) in
        signal_reaches L.sizes n me p i b a (record { gives = eq-eqb _ n (sym G.operation ∙ o); wrote = rw mine G.wrote; higher = rw A.seated.within.level G.higher; read = G.read })

    not_me : (me : ℕ) → Asker h q me → p ≢ me
    not_me me A x = clash (rw (x, A.seated.within.level) at G.higher) (above_itself h.order q.level)

    turn_all : {o : Outcome} → o ≡ stepped h q → Turn h q o → Told o.house
    turn_all e (refused n) = absurd (n (ap (λ x. x.reply.number) e ∙ G.done))
    turn_all e (waits r z x) = absurd (omega (arith, ap (λ y. y.reply.number) e ∙ G.done))
    turn_all e (begins me o K) = absurd (gives_none 0 o refl refl)
    turn_all e (reads me o A K) = absurd (gives_none 1 o refl refl)
    turn_all e (writes me o A K) = absurd (gives_none 2 o refl refl)
    turn_all e (certifies me o A K) = rw (certify_other L.sizes me p i b a (not_me me A)) (reached certify me o A)
    turn_all e (commits me o A K) = rw (left_other L.sizes (signalled commit h me) me (signalled_long L.sizes commit me) p i b a (not_me me A)) (reached commit me o A)
    turn_all e (aborts me o A) = absurd (gives_none 5 o refl refl)
    turn_all e (asks me o A) = absurd (gives_none 6 o refl refl)

  -- NO CHANGE PASSES A READER BY: only a commit changes items

  turn_told : {o : Outcome} → asker h q ≢ Some p → has Read (cell_at h.cells p i) ≡ true → item_at o.house.items i ≢ item_at h.items i → Turn h q o → Told o.house
  unfolding begun read_by written_by certified_by left
  turn_told other r n (refused x) = absurd (n refl)
  turn_told other r n (waits k z x) = absurd (n refl)
  turn_told other r n (begins me o K) = absurd (n refl)
  turn_told other r n (reads me o A K) = absurd (n refl)
  turn_told other r n (writes me o A K) = absurd (n refl)
  turn_told other r n (certifies me o A K) = absurd (n refl)
  turn_told other r n (commits me o A K) =
      elim (cases_Bool (has Signalled (cell_at (left (signalled commit h me) h me).cells p i))) [
        | inl s ↦ s
        | inr s ↦ absurd (n ((commit_frame L K.place).row p i b a (λ x. other (rw x A.at)) r s))
      ]
  turn_told other r n (aborts me o A) = absurd (n refl)
  turn_told other r n (asks me o A) = absurd (n refl)

pub only_signals : OnlySignals
unfolding holds
only_signals h R q p i b a none s = turn_only (kept_law (reachable_has h R)) q p i b a none refl (turn h q) s

pub signals_all : SignalsAll
unfolding holds
signals_all h R q p i b a G = turn_all (kept_law (reachable_has h R)) q p i b a G refl (turn h q)

pub readers_told : ReadersTold
unfolding holds
readers_told h R q p i b a other r n = turn_told (kept_law (reachable_has h R)) q p i b a other r n (turn h q)
