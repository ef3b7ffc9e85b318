-- The program, round after round: it reads into a buffer, behind the bytes that were not used, hears what came, and writes what is
-- answered, until the input ends or its opening is refused.
-- Assumes nothing. Proved in proofs/Rounds.antt.
use Rattle.std.specs.Prelude.{ℕ, ◌+◌, ◌≤◌, ◌<◌, ◌≡◌, ◌⊎◌, List, [], ◌∷◌, ◌++◌, length, take}
use Rattle.house.specs.declared.House.{House}
use Rattle.dialogue.specs.declared.Dialogue.{Dialogue}
use Rattle.dialogue.specs.declared.Heard.{Heard}
use Rattle.dialogue.specs.Dialogue.{at_stage, started, ended, heard}
use Rattle.dialogue.specs.Pieces.{programmed, farewell, Enough}

-- a read: what it left in the part of the buffer that it was lent, and how many bytes of that it brought
pub record Read : Type 0 where
  pub part : List ℕ
  pub got : ℕ

unfoldable pub brought : List Read → List ℕ
brought [] = []
brought (r ∷ rs) = take r.got r.part ++ brought rs

-- the buffer after it: it was lent all but the first `have` bytes
abbrev pub filled : List ℕ → ℕ → Read → List ℕ
filled buffer have r = take have buffer ++ r.part

-- what `read` promises of it: the part is as long as it was, and it brought no more than that
abbrev pub Reading : List ℕ → ℕ → Read → Type 0
Reading buffer have r = (have + length r.part ≡ length buffer) × (r.got ≤ length r.part)

-- A ROUND: what it brought is heard
unfoldable pub round : Dialogue → List ℕ → ℕ → List ℕ → Read → Heard × List ℕ × List ℕ
round s buffer have room r = heard s (filled buffer have r) have r.got room

-- such a round leads to the dialogue t, `keeps` bytes that are kept, the buffer `left` and the reply bytes `out`; or a read brought
-- nothing, and the dialogue, the bytes that are kept and the reply bytes are as they were
abbrev pub Exchanged : Dialogue → List ℕ → ℕ → List ℕ → Dialogue → ℕ → List ℕ → List ℕ → Type 0
Exchanged s buffer have room t keeps left out =
    ((r : Read) × Reading buffer have r × (let x = round s buffer have room r in (t ≡ x.0.dialogue) × (keeps ≡ x.0.have) × (left ≡ x.1) × (out ≡ x.2)))
    ⊎ ((t ≡ s) × (keeps ≡ have) × (take have left ≡ take have buffer) × (out ≡ room))

-- ROUND AFTER ROUND

-- what is written last, and the house at the end
abbrev pub ending : Dialogue → List ℕ × House
ending s = (farewell (ended s.stage), s.house)

-- what is written, with these reads and then the end of the input, and the house at the end
unfoldable pub told : Dialogue → List ℕ → ℕ → List ℕ → List Read → List ℕ × House
told s buffer have room [] = ending s
told s buffer have room (r ∷ rs) =
    let x = round s buffer have room r in
    let next = told x.0.dialogue x.1 x.0.have x.2 rs in
    let rest = at_stage x.0.dialogue.stage next next (ending x.0.dialogue) in
    (take x.0.written x.2 ++ rest.0, rest.1)

unfoldable pub Reads : Dialogue → List ℕ → ℕ → List ℕ → List Read → Type 0
Reads s buffer have room [] = Unit {0}
Reads s buffer have room (r ∷ rs) =
    let x = round s buffer have room r in
    Reading buffer have r × Reads x.0.dialogue x.1 x.0.have x.2 rs

-- a buffer that holds an unfinished opening and more, and room for a reply to each request that it holds
abbrev pub Room : List ℕ → List ℕ → Type 0
Room buffer room = (80 < length buffer) × Enough buffer room

-- THE STATEMENTS

-- the program writes what it should, and holds the house that it should
abbrev pub AsProgrammed : Type 0
AsProgrammed = (buffer room : List ℕ) → Room buffer room → (rs : List Read) → Reads started buffer 0 room rs → told started buffer 0 room rs ≡ programmed (brought rs)

-- of every round, whatever was in the buffer: it is not full afterwards, so that a read which brings nothing is the end of the
-- input; and the room stays
abbrev pub NeverFull : Type 0
NeverFull = (s : Dialogue) (buffer : List ℕ) (have got : ℕ) (room : List ℕ) → Room buffer room → let x = heard s buffer have got room in (x.0.have < length x.1) × Room x.1 x.2
