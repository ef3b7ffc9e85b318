-- Two turns, one after the other, are one turn on the whole.
-- Assumes nothing. Proved in proofs/TwoTurns.antt.
use Rattle.std.specs.Prelude.{ℕ, ◌+◌, ◌*◌, ◌≤◌, ◌≡◌, List, ◌++◌, length, take, drop}
use Rattle.house.specs.declared.House.{House}
use Rattle.desk.specs.declared.Served.{Served}
use Rattle.desk.specs.Turn.{turned, answered}

-- The first turn was served, and left these reply bytes. A second turn, on these request bytes, is lent what is past its
-- replies; both together
abbrev pub then : Served → List ℕ → List ℕ → ℕ → Served × List ℕ
then first bytes input most =
    let rest = drop (first.count * 16) bytes in
    let second = turned first.house input rest most in (
      record { house = second.house; count = first.count + second.count },
      take (first.count * 16) bytes ++ answered first.house input rest most,
    )

-- The second turn goes on where the first one stopped, whatever stopped it: both are a turn that may handle as many as both
-- together. Of every house, all bytes and all numbers
abbrev pub GoesOn : Type 0
GoesOn =
    (h : House) (input room : List ℕ) (a b : ℕ)
    → let first = turned h input room a in
    then first (answered h input room a) (drop (first.count * 12) input) b ≡ (turned h input room (a + b), answered h input room (a + b))

-- The input came in two parts, the first of k whole requests, and its turn had the room and the number for them
abbrev pub InParts : Type 0
InParts =
    (h : House) (part rest room : List ℕ) (k a b : ℕ)
    → length part ≡ k * 12 → k ≤ a → k * 16 ≤ length room
    → then (turned h part room a) (answered h part room a) rest b ≡ (turned h (part ++ rest) room (k + b), answered h (part ++ rest) room (k + b))
