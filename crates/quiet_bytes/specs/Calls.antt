-- CR 3 over calls: turns and maps in any order, each with reply bytes of its own; a run is one turn.
-- Assumes nothing. Proved in proofs/Calls.antt.
use Rattle.std.specs.Prelude.{ℕ, ◌/◌, ◌≤◌, ◌<◌, cond, List, [], ◌∷◌, map, length}
use Rattle.house.specs.declared.Rule.{Rule}
use Rattle.house.specs.Opening.{opening}
use Rattle.maps.specs.Calls.{Call, by_turn, by_map, asked_by, told_by, after_calls}
use Rattle.dialogue.specs.Pieces.{Enough}
use Rattle.quiet.specs.Alike.{covers}
use Rattle.quiet_bytes.specs.Struck.{struck_bytes, UnnoticedIn}

-- the same call, with its requests struck that k does not dominate. All reads of a map are of its level
abbrev pub struck_call : List ℕ → ℕ → Call → Call
struck_call order k (by_turn input room most) = by_turn (struck_bytes order k input) room most
struck_call order k (by_map level ticket items room) = by_map level ticket (cond (covers order k level) items []) room

-- "A run is covered only when its turn limit and reply room suffice for the whole list." Of a map, which stays or is struck as a whole,
-- nothing is asked
abbrev pub Suffices : Call → Type 0
Suffices (by_turn input room most) = (length input / 12 ≤ most) × Enough input room
Suffices (by_map level ticket items room) = Unit {0}

unfoldable pub AllSuffice : List Call → Type 0
AllSuffice [] = Unit {0}
AllSuffice (c ∷ cs) = Suffices c × AllSuffice cs

-- THE STATEMENT: from any opening, under either rule, refused ones too
abbrev pub OverCalls : Type 0
OverCalls =
    (k : ℕ) → k < 4 → (levels order : List ℕ) (rule : Rule) (cs : List Call) → AllSuffice cs
    → let h = (opening levels order rule).house in
    let ds = map (struck_call h.order k) cs in
    UnnoticedIn h.order k (asked_by cs) (told_by h cs, after_calls h cs) (told_by h ds, after_calls h ds)
