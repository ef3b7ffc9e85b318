-- Demand 3 over a whole dialogue, from its opening to the end of the input: in whatever pieces that comes, and of the program,
-- round after round.
-- Assumes nothing. Proved in proofs/Pieces.antt.
use Rattle.std.specs.Prelude.{ℕ, ◌/◌, min, ◌≡◌, List, [], map, length, replicate}
use Rattle.house.specs.declared.House.{House}
use Rattle.desk.specs.Turn.{requests}
use Rattle.dialogue.specs.Dialogue.{started}
use Rattle.dialogue.specs.Pieces.{past_opening, Piece, joined, conversed, Roomy}
use Rattle.dialogue.specs.Rounds.{Read, brought, told, Reads, Room}
use Rattle.serial.specs.Demand.{Event, Table, work, commits, answers, serially, table}
use Rattle.serial_bytes.specs.Bytes.{exchanged, Bytes}

-- what was asked and answered, read from the bytes in and out alone: past the opening, each whole request with its reply. The one
-- reply to a refused opening may be read so too; it is no reply of a done request
unfoldable pub seen : List ℕ → List ℕ → List Event
seen input output =
    let asked = past_opening input in
    exchanged (requests (min (length asked / 12) (length output / 16)) asked) output

-- the plain table at an opening, done or refused: "both 0 at opening"
abbrev pub blank_table : Table
blank_table = replicate 64 (0, 0)

-- of the input, what was written, and the house at the end: "run alone, one after another in the order of their commits, on a
-- plain table, the committed transactions read what the desk answered them, and the table ends as the committed items do"
unfoldable pub Demand3Seen : List ℕ → List ℕ × House → Type 0
Demand3Seen input end =
    let es = seen input end.0 in
    serially blank_table (map (λ n. work n es) (commits es)) ≡ (map (λ n. answers (work n es)) (commits es), table end.1)

-- THE STATEMENTS

-- of every input, refused openings included, in any pieces, with room for the replies to each
abbrev pub OverPieces : Type 0
OverPieces = (ps : List Piece) → Roomy started [] ps → Bytes (joined ps) → Demand3Seen (joined ps) (conversed started [] ps)

-- of the program, with a buffer and reply bytes such as it has, whatever its reads bring
abbrev pub OverRounds : Type 0
OverRounds = (buffer room : List ℕ) → Room buffer room → (rs : List Read) → Reads started buffer 0 room rs → Bytes (brought rs) → Demand3Seen (brought rs) (told started buffer 0 room rs)
