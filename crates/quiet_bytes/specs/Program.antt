-- CR 3 over a whole dialogue, from its opening to the end of the input: at once, in whatever pieces it comes, and of the program, round
-- after round.
-- Assumes nothing. Proved in proofs/Program.antt.
use Rattle.std.specs.Prelude.{ℕ, ◌<◌, ◌≡◌, cond, List, [], ◌++◌, take, eqb}
use Rattle.house.specs.declared.Request.{Request}
use Rattle.house.specs.Opening.{number_of}
use Rattle.desk.specs.Turn.{whole_requests}
use Rattle.dialogue.specs.Dialogue.{header, opening_of, started}
use Rattle.dialogue.specs.Pieces.{past_opening, programmed, Piece, joined, conversed, Roomy}
use Rattle.dialogue.specs.Rounds.{Read, brought, told, Reads, Room}
use Rattle.quiet_bytes.specs.Struck.{struck_bytes, UnnoticedIn}

-- the order of the levels in the house that an input opens
abbrev pub order_in : List ℕ → List ℕ
order_in input = (opening_of input).house.order

-- the opening stays, and the requests past it are struck
unfoldable pub struck_input : ℕ → List ℕ → List ℕ
struck_input k input = take (header input) input ++ struck_bytes (order_in input) k (past_opening input)

-- the requests that get a reply. Where the opening is refused there are none: the one reply is the opening's
unfoldable pub replied_to : List ℕ → List Request
replied_to input = cond (eqb (number_of (opening_of input)) 0) (whole_requests (past_opening input)) []

-- THE STATEMENTS, of every input, refused openings included

abbrev pub OverInput : Type 0
OverInput = (k : ℕ) → k < 4 → (input : List ℕ) → UnnoticedIn (order_in input) k (replied_to input) (programmed input) (programmed (struck_input k input))

-- the two inputs each in pieces of its own, with room for the replies to each
abbrev pub OverPieces : Type 0
OverPieces =
    (k : ℕ) → k < 4 → (ps qs : List Piece) → Roomy started [] ps → Roomy started [] qs → joined qs ≡ struck_input k (joined ps)
    → UnnoticedIn (order_in (joined ps)) k (replied_to (joined ps)) (conversed started [] ps) (conversed started [] qs)

-- of the program, each time with a buffer and reply bytes such as it has, whatever its reads bring
abbrev pub OverRounds : Type 0
OverRounds =
    (k : ℕ) → k < 4 → (buffer room : List ℕ) → Room buffer room → (rs : List Read) → Reads started buffer 0 room rs
    → (buffer' room' : List ℕ) → Room buffer' room' → (rs' : List Read) → Reads started buffer' 0 room' rs'
    → brought rs' ≡ struck_input k (brought rs)
    → UnnoticedIn (order_in (brought rs)) k (replied_to (brought rs)) (told started buffer 0 room rs) (told started buffer' 0 room' rs')
