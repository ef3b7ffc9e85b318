-- The whole reply, by the cases of a request.
-- Assumes nothing.
use Prim.Native.Nat.{ℕ}
use mathlib.Core.Path.{◌≡◌, refl}
use mathlib.Core.Logic.{inl, inr}
use mathlib.Core.Bool.{false}
use lib.Dec.{eqb}
use borrow.Author.Tests.{ne_eqb}
use Rattle.house.specs.declared.Answer.TheVariants.{Done}
use Rattle.std.specs.Prelude.{Some}
use Rattle.house.specs.declared.House.{House}
use Rattle.house.specs.declared.Mark.TheVariants.{Write}
use Rattle.house.specs.declared.Outcome.{Outcome}
use Rattle.house.specs.declared.Request.{Request}
use Rattle.house.specs.Cell.{holds}
use Rattle.house.specs.Rules.{begin, read, ask, asker, verdict, read_answer, read_for, ask_answer, replied}
use Rattle.std.proofs.lemmas.Bool.{cases_Bool}
use Rattle.house.proofs.Checks.{refusal_not_delay}
use Rattle.reach.specs.Replies.{Whole, ReplyWhole}
use Rattle.reach.proofs.Turns.{Turn, refused, waits, begins, reads, writes, certifies, commits, aborts, asks, turn}
use Rattle.reach.proofs.Guards.{number}

module _ (h : House) (q : Request) where
  -- a done reply that carries nothing
  plain : (k : ℕ) → q.operation ≡ k → eqb k begin ≡ false → eqb k read ≡ false → eqb k ask ≡ false → 0 ≡ verdict h q → Whole h q (replied q Done)
  plain k o b r a n = record { number = n; operation = refl; item = rw (o, a); ticket = rw (o, b); value = rw (o, r, a); version = rw (o, r) }

  read_whole : (me : ℕ) → q.operation ≡ 1 → asker h q ≡ Some me → (replied q (read_for h me q.item)).number ≡ verdict h q → Whole h q (replied q (read_for h me q.item))
  unfolding read_answer
  read_whole me o a n =
      elim (cases_Bool (holds h.cells Write me q.item)) [
        | inl w ↦ rw w (record { number = rw w at n; operation = refl; item = rw o; ticket = rw o; value = rw (o, a, w); version = rw (o, a, w) })
        | inr w ↦ rw w (record { number = rw w at n; operation = refl; item = rw o; ticket = rw o; value = rw (o, a, w); version = rw (o, a, w) })
      ]

  ask_whole : (me : ℕ) → q.operation ≡ 6 → asker h q ≡ Some me → (replied q (ask_answer h.cells me)).number ≡ verdict h q → Whole h q (replied q (ask_answer h.cells me))
  unfolding ask_answer
  ask_whole me o a n = record { number = n; operation = refl; item = rw (o, a); ticket = rw o; value = rw (o, a); version = rw o }

turn_whole : {h : House} {q : Request} {o : Outcome} → o.reply.number ≡ verdict h q → Turn h q o → Whole h q o.reply
turn_whole {h} {q} n (refused z) = let e = ne_eqb _ 0 z in let d = refusal_not_delay h q in record { number = n; operation = refl; item = rw e; ticket = rw e; value = rw (e, d); version = rw (e, d) }
turn_whole n (waits p z e) = record { number = n; operation = refl; item = refl; ticket = refl; value = rw e; version = rw e }
turn_whole n (begins me o K) = record { number = n; operation = refl; item = rw o; ticket = rw o; value = rw o; version = rw o }
turn_whole {h} {q} n (reads me o A K) = read_whole h q me o A.at n
turn_whole {h} {q} n (writes me o A K) = plain h q 2 o refl refl refl n
turn_whole {h} {q} n (certifies me o A K) = plain h q 3 o refl refl refl n
turn_whole {h} {q} n (commits me o A K) = plain h q 4 o refl refl refl n
turn_whole {h} {q} n (aborts me o A) = plain h q 5 o refl refl refl n
turn_whole {h} {q} n (asks me o A) = ask_whole h q me o A.at n

pub reply_whole : ReplyWhole
reply_whole h q = turn_whole (number h q) (turn h q)
