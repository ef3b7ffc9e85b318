-- A dialogue: one house, from its opening to the end of the input. "The program reads from standard input one byte n, n level
-- bytes", the table's 16 "after the level bytes" (CR 6), "then requests, and writes the replies only. If opening is refused, or input
-- ends before the levels do (13)" or before the table does (CR 6: "cut short in the input, gives 13"), "it writes one reply of that
-- number with all else zero, and stops. An unfinished last request gets no reply."
-- The bytes come in pieces of any size. What is unfinished is not used, and is given again with what follows it.
-- Assumes nothing.
use Rattle.std.specs.Prelude.{ℕ, ◌+◌, ◌*◌, Bool, ◌&&◌, ◌||◌, cond, List, [], ◌++◌, length, get_or, take, drop, eqb, ltb, leb}
use Rattle.house.specs.declared.House.{House}
use Rattle.house.specs.declared.Opening.{Opening}
use Rattle.house.specs.declared.Rule.TheVariants.{A}
use Rattle.house.specs.Opening.{wrong_count, number_of, opening}
use Rattle.wire.specs.Wire.{reply_bytes}
use Rattle.desk.specs.Turn.{turned, answered}
use Rattle.dialogue.specs.declared.Fed.{Fed}
use Rattle.dialogue.specs.declared.Heard.{Heard}
use Rattle.dialogue.specs.declared.Dialogue.{Dialogue}
use Rattle.dialogue.specs.declared.Stage.{Stage}
use Rattle.dialogue.specs.declared.Stage.TheVariants.{Waiting, Open, Refused}

-- THE OPENING

-- the n that the bytes begin with
abbrev pub announced : List ℕ → ℕ
announced bytes = get_or bytes 0 0

-- how many bytes an opening has: "one byte n, n level bytes", and the table's 16
abbrev pub header : List ℕ → ℕ
header bytes = announced bytes + 17

-- the levels and the table, as far as they came. Where input ends before they do, the table is not of 16 bytes, and that is refused
-- with 13
abbrev pub levels : List ℕ → List ℕ
levels bytes = take (announced bytes) (drop 1 bytes)

abbrev pub table : List ℕ → List ℕ
table bytes = take 16 (drop (announced bytes + 1) bytes)

-- what they open: "the program .. take[s] A" (CR 7)
abbrev pub opening_of : List ℕ → Opening
opening_of bytes = opening (levels bytes) (table bytes) A

-- all of the opening came; or n did, and is refused whatever follows
unfoldable pub decided : List ℕ → Bool
decided bytes = leb (header bytes) (length bytes) || (ltb 0 (length bytes) && wrong_count (announced bytes))

-- "one reply of that number with all else zero"
unfoldable pub refusal : ℕ → List ℕ
refusal n = reply_bytes (record { number = n; operation = 0; item = 0; ticket = 0; value = 0; version = 0 })

-- THE STAGES

abbrev pub at_stage {ℓ} : {A : Type ℓ} → Stage → A → A → A → A
at_stage Waiting waiting opened refused = waiting
at_stage Open waiting opened refused = opened
at_stage (Refused n) waiting opened refused = refused

-- nothing came yet
unfoldable pub started : Dialogue
started = record { stage = Waiting; house = (opening [] [] A).house }

-- "or input ends before the levels do (13)", or before the table does
abbrev pub ended : Stage → Stage
ended s = at_stage s (Refused 13) s s

-- WHAT IS MADE OF BYTES: the next dialogue, how many bytes were used, how many reply bytes were written, and the reply bytes

-- they are kept for later, or dropped
abbrev pub waits : Dialogue → List ℕ → Fed × List ℕ
waits s room = (record { dialogue = s; used = 0; written = 0 }, room)

abbrev pub drops : Dialogue → List ℕ → List ℕ → Fed × List ℕ
drops s bytes room = (record { dialogue = s; used = length bytes; written = 0 }, room)

-- past the first k, they are requests
unfoldable pub serves : House → ℕ → List ℕ → List ℕ → Fed × List ℕ
serves h k bytes room =
    let t = turned h (drop k bytes) room (length bytes) in (
      record { dialogue = record { stage = Open; house = t.house }; used = k + t.count * 12; written = t.count * 16 },
      answered h (drop k bytes) room (length bytes),
    )

-- they have all of an opening
unfoldable pub opens : List ℕ → List ℕ → Fed × List ℕ
opens bytes room =
    let o = opening_of bytes in
    cond (eqb (number_of o) 0) (serves o.house (header bytes) bytes room)
    (drops (record { stage = Refused (number_of o); house = o.house }) bytes room)

unfoldable pub fed : Dialogue → List ℕ → List ℕ → Fed × List ℕ
fed s bytes room =
    at_stage s.stage (cond (decided bytes) (opens bytes room) (waits s room))
    (serves s.house 0 bytes room)
    (drops s bytes room)

-- THE CALLER'S BYTES

-- those past the first `used`, moved to the front
unfoldable pub kept : ℕ → List ℕ → List ℕ
kept used bytes = drop used bytes ++ drop (length (drop used bytes)) bytes

-- A ROUND of a caller that reads into a buffer: it begins with `have` bytes that were not used before, and a read put `got` more
-- behind them. The next dialogue, how many bytes are kept, how many reply bytes are to be written; the buffer; the reply bytes
unfoldable pub heard : Dialogue → List ℕ → ℕ → ℕ → List ℕ → Heard × List ℕ × List ℕ
heard s buffer have got room =
    let bytes = take (have + got) buffer in
    let f = fed s bytes room in (
      record { dialogue = f.0.dialogue; have = length (drop f.0.used bytes); written = f.0.written },
      kept f.0.used bytes ++ drop (have + got) buffer,
      f.1,
    )
