-- No ticket is given twice: what a begin gives was not given out before it, and is from then on.
-- Assumes nothing.
use Rattle.std.proofs.Math.Bool.{and-false}
use Prim.Native.Nat.{ℕ}
use native.Mathlib.Omega.{arith}
use mathlib.Core.Path.{◌≡◌, refl}
use mathlib.Core.Logic.{inl, inr}
use mathlib.Core.Bool.{true, false, ◌&&◌}
use mathlib.Core.List.{List, [], ◌∷◌}
use lib.Dec.{eqb}
use borrow.Author.Tests.{eqb-true, ne_eqb}
use Rattle.house.specs.declared.House.{House}
use Rattle.house.specs.declared.Outcome.{Outcome}
use Rattle.house.specs.declared.Request.{Request}
use Rattle.house.specs.Search.{distinct}
use Rattle.house.specs.Rules.{begin, stepped}
use Rattle.house.specs.Run.{same_name, trace, done}
use Rattle.std.proofs.lemmas.Bool.{cases_Bool, and_parts}
use Rattle.house.proofs.Tests.{clash}
use Rattle.reach.specs.Kept.{Issued, Kept}
use Rattle.reach.specs.Tickets.{given, among, TicketsOnce}
use Rattle.reach.proofs.Law.{Law}
use Rattle.reach.proofs.Turns.{Turn, refused, waits, begins, reads, writes, certifies, commits, aborts, asks, turn}
use Rattle.reach.proofs.Changes.{now_issued, begin_frame, read_frame, write_frame, certify_frame, commit_frame, abort_frame}
use Rattle.reach.proofs.Kept.{kept_law, step_keeps}
use Rattle.reach.proofs.Opened.{opening_has}

-- what has been given out stays so
turn_issued : {h : House} {q : Request} {o : Outcome} → Law h → Turn h q o → (l t : ℕ) → Issued h l t → Issued o.house l t
turn_issued L (refused n) l t i = i
turn_issued L (waits p z e) l t i = i
turn_issued L (begins me o K) l t i = (begin_frame L K).issued l t i
turn_issued L (reads me o A K) l t i = (read_frame L K).issued l t i
turn_issued L (writes me o A K) l t i = (write_frame L K).issued l t i
turn_issued L (certifies me o A K) l t i = (certify_frame L K).issued l t i
turn_issued L (commits me o A K) l t i = (commit_frame L K.place).issued l t i
turn_issued L (aborts me o A) l t i = (abort_frame L A.seated.within.place).issued l t i
turn_issued L (asks me o A) l t i = i

-- a ticket given between two houses
record Given (h h' : House) (l t : ℕ) : Type 0 where
  new : ¬ Issued h l t
  out : Issued h' l t

begin_gives : {h : House} {q : Request} {o : Outcome} → Law h → Turn h q o → done (q, o.reply) begin ≡ true → Given h o.house q.level o.reply.ticket
unfolding Issued
begin_gives L (refused n) d = clash d (rw (ne_eqb _ 0 n))
begin_gives L (waits p z e) d = clash d refl
begin_gives L (begins me o K) d = record { new = λ i. omega (arith, i K.ticket); out = now_issued L K }
begin_gives L (reads me o A K) d = clash d (rw (o, and-false _))
begin_gives L (writes me o A K) d = clash d (rw o)
begin_gives L (certifies me o A K) d = clash d (rw o)
begin_gives L (commits me o A K) d = clash d (rw o)
begin_gives L (aborts me o A) d = clash d (rw o)
begin_gives L (asks me o A) d = clash d (rw (o, and-false _))

-- what has been given out is not given again
not_again : {h : House} → Kept h → (l t : ℕ) → Issued h l t → (qs : List Request) → among (l, t) (given (trace h qs)) ≡ false
unfolding trace given
not_again K l t i [] = refl
not_again {h = h} K l t i (q ∷ qs) =
    let L = kept_law K in
    let rest = not_again {h = (stepped h q).house} (step_keeps h K q) l t (turn_issued L (turn h q) l t i) qs in
    elim (cases_Bool (done (q, (stepped h q).reply) begin)) [
      | inl d ↦ rw (d, other (begin_gives L (turn h q) d)) rest
      | inr d ↦ rw d rest
    ]
  where
    other : {h' : House} {k s : ℕ} → Given h h' k s → (eqb k l && eqb s t) ≡ false
    other {k = k} {s = s} G =
        elim (cases_Bool (eqb k l && eqb s t)) [
          | inl y ↦ let e = and_parts (eqb k l) (eqb s t) y in absurd (G.new (rw (eqb-true k l e.0, eqb-true s t e.1) i))
          | inr y ↦ y
        ]

once : {h : House} → Kept h → (qs : List Request) → distinct same_name (given (trace h qs)) ≡ true
unfolding trace given
once K [] = refl
once {h = h} K (q ∷ qs) =
    let K' = step_keeps h K q in
    elim (cases_Bool (done (q, (stepped h q).reply) begin)) [
      | inl d ↦ rw (d, not_again K' _ _ (begin_gives (kept_law K) (turn h q) d).out qs) (once {h = (stepped h q).house} K' qs)
      | inr d ↦ rw d (once {h = (stepped h q).house} K' qs)
    ]

pub tickets_once : TicketsOnce
unfolding Issued
tickets_once levels table rule qs = let K = opening_has levels table rule in (once K qs, λ l. not_again K l 0 (λ n. omega arith) qs)
