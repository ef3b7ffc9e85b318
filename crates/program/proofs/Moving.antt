-- A round moves what it should: what is known where it ends.
-- Assumes nothing.
use Rattle.std.proofs.Common.{ℕ, ◌<◌, ◌≤◌, ◌≡◌, ◌⊎◌, inl, inr, List, ◌++◌, Option, Result, Ok, Err, IsOk, OnOk, IfOk, length, take, ap, subst}
use Rattle.std.specs.Io.KnownBytes.{Consumes, Appends}
use Rattle.dialogue.specs.declared.Dialogue.{Dialogue}
use Rattle.dialogue.specs.declared.Heard.{Heard}
use Rattle.dialogue.specs.Dialogue.{heard}
use Rattle.dialogue.specs.Rounds.{round}
use Rattle.dialogue.proofs.Rounds.{brought_read}
use Rattle.dialogue.specs.declared.Stage.{Stage}
use Rattle.program.specs.declared.Next.{Next}
use Rattle.program.specs.declared.Next.TheVariants.{Round, End}
use Rattle.program.specs.Moves.{at_next, IsRefused, AfterReplies, Answered}

where_ok : {E T P : Type 0} (r : Result T E) → IsOk r → OnOk r P → P
where_ok (Ok x) i p = p
where_ok (Err e) i p = cc

-- another round and the end come only where the replies were written
pub comes : {E F A P : Type 0} (B C : Type 0) (put : Result (Unit {0}) E) (stage : Stage) (next : Result Next F) → AfterReplies put stage next → OnOk put P → (P → A) → IfOk next (λ n. at_next n (A ⊎ B) (C ⊎ (A × IsRefused stage)))
comes B C put stage (Ok Round) i p a = inl (a (where_ok put i p))
comes B C put stage (Ok End) i p a = inr (a (where_ok put i.0 p), i.1)
comes B C put stage (Err f) i p a = tt

-- what a read brought was heard, and the replies were written
pub answered : (given left held holds : Option (List ℕ)) (s : Dialogue) (buffer : List ℕ) (have : ℕ) (room part : List ℕ) (got : ℕ) (x : Heard) (after out : List ℕ)
    → (x, after, out) ≡ heard s (take have buffer ++ part) have got room → have < length buffer → length (take have buffer ++ part) ≡ length buffer → got ≤ length part
    → Consumes given left (take got part) → Appends held holds (take x.written out)
    → Answered given left held holds s buffer have room x.dialogue x.have after out
unfolding round
answered given left held holds s buffer have room part got x after out e b l g p w =
    record {
      read = record { part = part; got = got };
      reading = brought_read s buffer have room part got b l g;
      brought = p;
      dialogue = ap (λ y. y.0.dialogue) e;
      keeps = ap (λ y. y.0.have) e;
      front = ap (λ y. y.1) e;
      written = subst (λ y. Appends held holds (take y.0.written y.2)) e w;
    }
