-- The program, round after round, writes what it should.
-- Assumes nothing.
use Prim.Native.Nat.{ℕ, ◌+◌, ◌≤◌, ◌<◌}
use native.Mathlib.Omega.{arith}
use mathlib.Core.Path.{◌≡◌, refl, sym, ap, subst, ◌∙◌}
use mathlib.Core.Logic.{inl, inr}
use mathlib.Core.List.{List, [], ◌∷◌, ◌++◌, append_assoc, append-nil}
use lib.ListN.{length, take, drop, length-append, length-take, length-drop}
use lib.Seq.{take_at, take-append-add, length-take-le}
use Rattle.house.specs.declared.House.{House}
use Rattle.dialogue.specs.declared.Dialogue.{Dialogue}
use Rattle.dialogue.specs.declared.Heard.{Heard}
use Rattle.dialogue.specs.Dialogue.{at_stage, started, fed, kept, heard}
use Rattle.dialogue.specs.Pieces.{Enough}
use Rattle.dialogue.specs.Rounds.{Read, brought, filled, round, Exchanged, ending, told, Reads, Room, AsProgrammed, NeverFull, Reading}
use Rattle.dialogue.proofs.AfterRound.{after_round}
use Rattle.dialogue.proofs.Stages.{waiting, opened, refused, at_stage_lem, fed_within}
use Rattle.dialogue.proofs.Pieces.{before, expected, Unfinished, Fresh, expected_last, leaves_little, fresh_start, nothing_yet, all_expected}

-- the buffer stays as long as it was
module _ (used end : ℕ) (buffer : List ℕ) where
  abbrev bytes : List ℕ
  bytes = take end buffer

  abbrev next : List ℕ
  next = kept used bytes ++ drop end buffer

  next_long : length next ≡ length buffer
  unfolding kept
  next_long =
      rw (length-append (kept used bytes) (drop end buffer), length-append (drop used bytes) (drop (length (drop used bytes)) bytes), length-drop (length (drop used bytes)) bytes, length-drop used bytes, length-take end buffer, length-drop end buffer)
      (omega arith)

-- A ROUND

module _ (s : Dialogue) (buffer : List ℕ) (have got : ℕ) (room : List ℕ) (enough : Enough buffer room) where
  abbrev given : List ℕ
  given = take (have + got) buffer

  given_enough : Enough given room
  given_enough = rw (length-take (have + got) buffer) (omega arith)

  stays : Enough (heard s buffer have got room).1 (heard s buffer have got room).2
  unfolding heard
  stays = rw (next_long (fed s given room).0.used (have + got) buffer, (fed_within s given room).0) enough

pub never_full : NeverFull
unfolding heard
never_full s buffer have got room r =
    let enough = given_enough s buffer have got room r.1 in
    let given = take (have + got) buffer in
    let long = next_long (fed s given room).0.used (have + got) buffer in
    let little = leaves_little s given room enough in
    (rw long (omega arith), (rw long r.0, stays s buffer have got room r.1))

-- so a caller that has the room has it after each round, in a buffer as long, and the replies to be written are there
module _ (s : Dialogue) (b : List ℕ) (have got : ℕ) (room : List ℕ) (x : Heard) (left out : List ℕ) (hears : (x, left, out) ≡ heard s b have got room) (buffer : List ℕ) (r : Room buffer room) (same : length b ≡ length buffer) where
  pub round_over : (x.have < length left) × Room left out × (x.written ≤ length out)
  unfolding heard
  round_over =
      let f = never_full s b have got room (rw same r) in
      let w = (fed_within s (take (have + got) b) room).1 in
      subst (λ y. (y.0.have < length y.1) × Room y.1 y.2 × (y.0.written ≤ length y.2)) (sym hears) (f.0, f.1, w)

-- a read, which left `part` behind the bytes that were kept, brought nothing and changed nothing that was kept; or what it brought
-- was heard
module _ (s : Dialogue) (buffer : List ℕ) (have : ℕ) (room part : List ℕ) where
  abbrev behind : List ℕ
  behind = take have buffer ++ part

  pub nothing_brought : have < length buffer → Exchanged s buffer have room s have behind room
  nothing_brought b = inr (refl, refl, take_at (take have buffer) part have (length-take-le have buffer (omega arith)), refl)

  -- what it brought is a read of this buffer, which is as long as before
  pub brought_read : (got : ℕ) → have < length buffer → length behind ≡ length buffer → got ≤ length part → Reading buffer have (record { part = part; got = got })
  brought_read got b l g =
      let front = length-take-le have buffer (omega arith) in
      (ap (λ m. m + length part) (sym front) ∙ sym (length-append (take have buffer) part) ∙ l, g)

  pub bytes_heard : (got : ℕ) (x : Heard) (left out : List ℕ) → (x, left, out) ≡ heard s behind have got room → have < length buffer → length behind ≡ length buffer → got ≤ length part → Exchanged s buffer have room x.dialogue x.have left out
  unfolding round
  bytes_heard got x left out e b l g =
      inl (record { part = part; got = got }, brought_read got b l g, (ap (λ y. y.0.dialogue) e, ap (λ y. y.0.have) e, ap (λ y. y.1) e, ap (λ y. y.2) e))

-- ROUND AFTER ROUND

-- whether the program goes on or not, what it expects is the same
goes_on : (s : Dialogue) (next : List ℕ × House) (b : List ℕ) → next ≡ expected s b → at_stage s.stage next next (ending s) ≡ expected s b
unfolding expected
goes_on s next b e = elim (at_stage_lem s.stage) [ waiting w ↦ rw w (rw w at e) | opened o ↦ rw o (rw o at e) | refused n r ↦ rw r ]

-- the buffer after a read
module _ (buffer : List ℕ) (have : ℕ) (r : Read) (fits : have + length r.part ≡ length buffer) where
  front_long : length (take have buffer) ≡ have
  front_long = length-take-le have buffer (omega arith)

  filled_long : length (filled buffer have r) ≡ length buffer
  filled_long = rw (length-append (take have buffer) r.part, front_long) fits

  -- what was not used, and what was brought
  filled_given : take (have + r.got) (filled buffer have r) ≡ take have buffer ++ take r.got r.part
  filled_given = ap (λ n. take (n + r.got) (filled buffer have r)) (sym front_long) ∙ take-append-add (take have buffer) r.part r.got

told_expected : (s : Dialogue) (buffer : List ℕ) (have : ℕ) (room : List ℕ) (rs : List Read) → Enough buffer room → Fresh s → Unfinished s (take have buffer) → Reads s buffer have room rs → told s buffer have room rs ≡ expected s (take have buffer ++ brought rs)
unfolding told brought Reads round
told_expected s buffer have room [] enough e u rd = rw (append-nil (take have buffer)) (expected_last s (take have buffer) e u)
told_expected s buffer have room (r ∷ rs) enough e u rd =
    let fill = filled buffer have r in
    let wide : Enough fill room = rw (filled_long buffer have r rd.0.0) enough in
    let x = heard s fill have r.got room in
    let a = after_round s fill have r.got room wide in
    let next = told_expected x.0.dialogue x.1 x.0.have x.2 rs (stays s fill have r.got room wide) (a.fresh e) a.unfinished rd.1 in
    ap (before (take x.0.written x.2)) (goes_on x.0.dialogue _ _ next)
    ∙ a.same (brought rs)
    ∙ ap (λ l. expected s (l ++ brought rs)) (filled_given buffer have r rd.0.0)
    ∙ ap (expected s) (append_assoc (take have buffer) (take r.got r.part) (brought rs))

pub as_programmed : AsProgrammed
as_programmed buffer room r rs rd = told_expected started buffer 0 room rs r.1 fresh_start nothing_yet rd ∙ all_expected (brought rs)
