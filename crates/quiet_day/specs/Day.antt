-- CR 3 on a small day, in bytes, with marking and without: both sides of its equation, worked out. Items 0 and 1 are layers at level 0,
-- where pupils draw; item 2 is a mark at level 2, where teachers mark. The order is the diamond.
-- Assumes nothing. Proved in proofs/Day.antt.
use Rattle.std.specs.Prelude.{ℕ, zero, suc, ◌/◌, ◌%◌, ◌^◌, ◌≡◌, Bool, true, false, cond}
use mathlib.Core.List.{List, [], ◌∷◌, ◌++◌, flat_map}
use Rattle.house.specs.declared.Item.{Item}
use Rattle.house.specs.House.{item_at}
use Rattle.house.specs.Order.{diamond}
use Rattle.dialogue.specs.Pieces.{programmed}
use Rattle.quiet_bytes.specs.Struck.{of_others}
use Rattle.quiet_bytes.specs.Program.{struck_input, replied_to}

-- the n bytes of a numeral as it is written, from left to right
unfoldable pub bytes : ℕ → ℕ → List ℕ
bytes zero x = []
bytes (suc n) x = x / 256 ^ n % 256 ∷ bytes n x

-- a line of the day: a request, a pupil's or the teacher's, and what it is answered
pub record Line : Type 0 where
  pub marks : Bool
  pub request : List ℕ
  pub reply : List ℕ

abbrev drawing : ℕ → ℕ → Line
drawing q r = record { marks = false; request = bytes 12 q; reply = bytes 16 r }

abbrev marking : ℕ → ℕ → Line
marking q r = record { marks = true; request = bytes 12 q; reply = bytes 16 r }

-- behind each line stands what it says, the pupils' on the left and the teacher's on the right; 2 #1 is level 2, ticket 1. A pupil's certify
-- is delayed for an item that the teacher reads too, and names the other pupil
abbrev pub day : List Line
day =
    -- of the request operation, level, item, ticket, value; of the reply number, operation, item, ticket, value, version
    drawing 0x00_00_0000_00000000_00000000 0x00_00_0000_01000000_00000000_00000000 ∷  -- begin 0
    drawing 0x00_00_0000_00000000_00000000 0x00_00_0000_02000000_00000000_00000000 ∷  -- begin 0
    marking 0x00_02_0000_00000000_00000000 0x00_00_0000_01000000_00000000_00000000 ∷  --                                     begin 2
    marking 0x01_02_0000_01000000_00000000 0x00_01_0000_01000000_00000000_00000000 ∷  --                                     read 2 #1 item 0
    drawing 0x02_00_0000_01000000_07000000 0x00_02_0000_01000000_00000000_00000000 ∷  -- write 0 #1 item 0 = 7
    drawing 0x01_00_0000_02000000_00000000 0x00_01_0000_02000000_00000000_00000000 ∷  -- read 0 #2 item 0
    marking 0x02_02_0200_01000000_05000000 0x00_02_0200_01000000_00000000_00000000 ∷  --                                     write 2 #1 item 2 = 5
    drawing 0x03_00_0000_01000000_00000000 0x01_03_0000_01000000_02000000_00000000 ∷  -- certify 0 #1 gets 1: 0 #2 holds it
    drawing 0x05_00_0000_02000000_00000000 0x00_05_0000_02000000_00000000_00000000 ∷  -- abort 0 #2
    drawing 0x03_00_0000_01000000_00000000 0x00_03_0000_01000000_00000000_00000000 ∷  -- certify 0 #1
    marking 0x03_02_0000_01000000_00000000 0x02_03_0000_01000000_00000000_00000000 ∷  --                                     certify 2 #1 gets 2
    drawing 0x00_00_0000_00000000_00000000 0x00_00_0000_03000000_00000000_00000000 ∷  -- begin 0
    drawing 0x04_00_0000_01000000_00000000 0x00_04_0000_01000000_00000000_00000000 ∷  -- commit 0 #1
    marking 0x05_02_0000_01000000_00000000 0x00_05_0000_01000000_00000000_00000000 ∷  --                                     abort 2 #1
    marking 0x00_02_0000_00000000_00000000 0x00_00_0000_02000000_00000000_00000000 ∷  --                                     begin 2
    marking 0x01_02_0000_02000000_00000000 0x00_01_0000_02000000_07000000_01000000 ∷  --                                     read 2 #2 item 0
    drawing 0x01_00_0000_03000000_00000000 0x00_01_0000_03000000_07000000_01000000 ∷  -- read 0 #3 item 0
    marking 0x02_02_0200_02000000_05000000 0x00_02_0200_02000000_00000000_00000000 ∷  --                                     write 2 #2 item 2 = 5
    drawing 0x02_00_0100_03000000_08000000 0x00_02_0100_03000000_00000000_00000000 ∷  -- write 0 #3 item 1 = 8
    marking 0x03_02_0000_02000000_00000000 0x00_03_0000_02000000_00000000_00000000 ∷  --                                     certify 2 #2
    marking 0x04_02_0000_02000000_00000000 0x00_04_0000_02000000_00000000_00000000 ∷  --                                     commit 2 #2
    drawing 0x03_00_0000_03000000_00000000 0x00_03_0000_03000000_00000000_00000000 ∷  -- certify 0 #3
    drawing 0x04_00_0000_03000000_00000000 0x00_04_0000_03000000_00000000_00000000 ∷  -- commit 0 #3
    drawing 0x00_00_0000_00000000_00000000 0x00_00_0000_04000000_00000000_00000000 ∷  -- begin 0
    drawing 0x01_00_0100_04000000_00000000 0x00_01_0100_04000000_08000000_01000000 ∷  -- read 0 #4 item 1
    []

abbrev pub without_marking : List Line → List Line
without_marking ls = flat_map (λ l. cond l.marks [] (l ∷ [])) ls

-- what the program reads, the opening and the requests, and what it is to write
abbrev pub input : List Line → List ℕ
input ls = bytes 4 0x03_00_00_02 ++ diamond ++ flat_map (λ l. l.request) ls

abbrev pub output : List Line → List ℕ
output ls = flat_map (λ l. l.reply) ls

-- item 2 at the end
abbrev pub mark_after : List Line → Item
mark_after ls = item_at (programmed (input ls)).1.items 2

-- THE STATEMENT
pub record Worked : Type 0 where
  -- the program writes the replies of the table
  pub written : (programmed (input day)).0 ≡ output day
  -- what is above level 0 struck, the pupils' requests are left
  pub struck : struck_input 0 (input day) ≡ input (without_marking day)
  -- "The replies to the others", those of the table
  pub others : of_others diamond 0 16 (replied_to (input day)) (output day) ≡ output (without_marking day)
  -- "are the same bytes in the same order"
  pub same : (programmed (input (without_marking day))).0 ≡ output (without_marking day)
  -- and on the one day a mark was committed
  pub marked : mark_after day ≡ record { level = 2; value = 5; version = 1 }
  pub unmarked : mark_after (without_marking day) ≡ record { level = 2; value = 0; version = 0 }
