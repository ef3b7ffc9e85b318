-- What is still to be written, before a round and after it.
-- Assumes nothing.
use Rattle.std.proofs.Common.{ℕ, ◌+◌, ◌≡◌, List, ◌++◌, take, drop, arith}
use Rattle.std.proofs.Math.ListN.{length-take}
use Rattle.dialogue.specs.declared.Dialogue.{Dialogue}
use Rattle.dialogue.specs.declared.Heard.{Heard}
use Rattle.dialogue.specs.Dialogue.{fed, heard}
use Rattle.dialogue.specs.Pieces.{Enough}
use Rattle.dialogue.proofs.Keeping.{front_kept}
use Rattle.dialogue.proofs.Pieces.{before, expected, Unfinished, Fresh, After, after}

-- with these bytes to come, it is the same before as after, with the replies of the round first
pub record AfterRound (s : Dialogue) (buffer : List ℕ) (have got : ℕ) (room : List ℕ) (x : Heard × List ℕ × List ℕ) : Type 0 where
  pub same : (future : List ℕ) → before (take x.0.written x.2) (expected x.0.dialogue (take x.0.have x.1 ++ future)) ≡ expected s (take (have + got) buffer ++ future)
  pub fresh : Fresh s → Fresh x.0.dialogue
  pub unfinished : Unfinished x.0.dialogue (take x.0.have x.1)

pub after_round : (s : Dialogue) (buffer : List ℕ) (have got : ℕ) (room : List ℕ) → Enough buffer room → AfterRound s buffer have got room (heard s buffer have got room)
unfolding heard
after_round s buffer have got room enough =
    let bytes = take (have + got) buffer in
    let f = fed s bytes room in
    let roomy : Enough bytes room = rw (length-take (have + got) buffer) (omega arith) in
    let a : After s bytes f = after s bytes room roomy in
    let e = front_kept f.0.used bytes (drop (have + got) buffer) in
    record {
      same = λ future. rw e (a.same future);
      fresh = a.fresh;
      unfinished = rw e a.unfinished;
    }
