-- A map is the same as its single reads, sent over the wire: the same reply bytes, the same house, the same count.
-- Assumes nothing. Proved in proofs/Sent.antt.
use Rattle.std.specs.Prelude.{ℕ, ◌<◌, ◌≡◌, List, [], ◌∷◌, ◌++◌, length, get_or}
use Rattle.house.specs.declared.House.{House}
use Rattle.wire.specs.Wire.{request_bytes}
use Rattle.desk.specs.Turn.{turned, answered}
use Rattle.maps.specs.Map.{read_of, mapped, filled}

-- the bytes of the single reads
unfoldable pub sent : ℕ → ℕ → List ℕ → List ℕ
sent level ticket [] = []
sent level ticket (i ∷ items) = request_bytes (read_of level ticket i) ++ sent level ticket items

-- a ticket of 32 bits, "16-bit item numbers"
pub record Numbers (ticket : ℕ) (items : List ℕ) : Type 0 where
  pub ticket_fits : ticket < 4294967296
  pub items_fit : (k : ℕ) → get_or items k 0 < 65536

-- THE STATEMENT: of every house, level, list and room
abbrev pub SameAsSent : Type 0
SameAsSent =
    (h : House) (level ticket : ℕ) (items room : List ℕ) → Numbers ticket items
    → let bytes = sent level ticket items in
    (mapped h level ticket items room ≡ turned h bytes room (length items)) × (filled h level ticket items room ≡ answered h bytes room (length items))
