-- The whole input at once, and in pieces: the program writes the same, and holds the same house at the end.
-- Assumes nothing. Proved in proofs/Pieces.antt.
use Rattle.std.specs.Prelude.{ℕ, ◌*◌, ◌/◌, ◌≤◌, ◌≡◌, cond, List, [], ◌∷◌, ◌++◌, length, take, drop, eqb}
use Rattle.house.specs.declared.House.{House}
use Rattle.house.specs.Opening.{number_of}
use Rattle.house.specs.Run.{finally, replies}
use Rattle.desk.specs.Turn.{whole_requests, wired}
use Rattle.dialogue.specs.declared.Dialogue.{Dialogue}
use Rattle.dialogue.specs.declared.Stage.{Stage}
use Rattle.dialogue.specs.declared.Stage.TheVariants.{Waiting, Open, Refused}
use Rattle.dialogue.specs.Dialogue.{header, opening_of, refusal, started, ended, fed}

-- the replies to the whole requests of these bytes, and the house after them. "An unfinished last request gets no reply."
unfoldable pub run_of : House → List ℕ → List ℕ × House
run_of h bytes = let qs = whole_requests bytes in (wired (replies h qs), finally h qs)

-- "one byte n, n level bytes", the table, "then requests"
abbrev pub past_opening : List ℕ → List ℕ
past_opening input = drop (header input) input

-- "If opening is refused, or input ends before the levels do (13)" or the table, "it writes one reply of that number with all else zero,
-- and stops."
unfoldable pub programmed : List ℕ → List ℕ × House
programmed input =
    let o = opening_of input in
    cond (eqb (number_of o) 0) (run_of o.house (past_opening input)) (refusal (number_of o), o.house)

-- a piece of input, and the reply bytes that are lent for it
abbrev pub Piece : Type 0
Piece = List ℕ × List ℕ

unfoldable pub joined : List Piece → List ℕ
joined [] = []
joined (p ∷ ps) = p.0 ++ joined ps

-- what is written last
abbrev pub farewell : Stage → List ℕ
farewell Waiting = []
farewell Open = []
farewell (Refused n) = refusal n

-- what is written for pieces, the unused bytes of each before the next one, and the house at the end
unfoldable pub conversed : Dialogue → List ℕ → List Piece → List ℕ × House
conversed s unused [] = (farewell (ended s.stage), s.house)
conversed s unused (p ∷ ps) =
    let bytes = unused ++ p.0 in
    let f = fed s bytes p.1 in
    let rest = conversed f.0.dialogue (drop f.0.used bytes) ps in
    (take f.0.written f.1 ++ rest.0, rest.1)

-- there is room for a reply to each whole request
abbrev pub Enough : List ℕ → List ℕ → Type 0
Enough bytes room = length bytes / 12 * 16 ≤ length room

unfoldable pub Roomy : Dialogue → List ℕ → List Piece → Type 0
Roomy s unused [] = Unit {0}
Roomy s unused (p ∷ ps) =
    let bytes = unused ++ p.0 in
    let f = fed s bytes p.1 in
    Enough bytes p.1 × Roomy f.0.dialogue (drop f.0.used bytes) ps

-- in whatever pieces the input comes
abbrev pub InPieces : Type 0
InPieces = (ps : List Piece) → Roomy started [] ps → conversed started [] ps ≡ programmed (joined ps)

-- what is not used is little, of every dialogue and all bytes: a buffer of 81 bytes or more is never full before a read
abbrev pub LeavesLittle : Type 0
LeavesLittle = (s : Dialogue) (bytes room : List ℕ) → Enough bytes room → length (drop (fed s bytes room).0.used bytes) ≤ 80
