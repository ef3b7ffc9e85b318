-- The whole dialogue: what the program writes, of all that it reads.
-- Assumes nothing.
use Rattle.std.specs.Prelude.{ℕ, ◌≡◌, List, ◌++◌, Option, IfSome}
use Rattle.std.specs.Io.KnownBytes.{Appends}
use Rattle.dialogue.specs.declared.Dialogue.{Dialogue}
use Rattle.dialogue.specs.Dialogue.{ended}
use Rattle.dialogue.specs.Pieces.{programmed, farewell}

-- where the bytes are known that there were to be read: what was written, with the farewell of the last dialogue still to be written, is
-- what the program should write of them, and the house is the one that it should hold at the end
abbrev pub AllButFarewell : Option (List ℕ) → Option (List ℕ) → Option (List ℕ) → Dialogue → Type 0
AllButFarewell given held holds t = IfSome given (λ bytes. (told : List ℕ) × Appends held holds told × ((told ++ farewell (ended t.stage), t.house) ≡ programmed bytes))

abbrev pub AllWritten : Option (List ℕ) → Option (List ℕ) → Option (List ℕ) → Type 0
AllWritten given held holds = IfSome given (λ bytes. Appends held holds (programmed bytes).0)
