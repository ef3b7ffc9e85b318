-- Demand 3 over bytes: the running desk, turns and maps one after another, seen from outside alone. What was asked is read from the
-- request bytes of a turn, and from the level, ticket and items of a map; what was answered from the reply bytes; neither from the house.
-- Assumes nothing. Proved in proofs/Bytes.antt.
use Rattle.std.specs.Prelude.{ℕ, ◌<◌, ◌≡◌, List, [], ◌∷◌, ◌++◌, map, get_or, drop}
use Rattle.house.specs.declared.House.{House}
use Rattle.house.specs.declared.Request.{Request}
use Rattle.house.specs.declared.Rule.{Rule}
use Rattle.house.specs.Opening.{opening}
use Rattle.wire.specs.Wire.{reply_at}
use Rattle.maps.specs.Calls.{Call, by_turn, by_map, asked, reported, told, after_calls}
use Rattle.maps.specs.Sent.{Numbers}
use Rattle.serial.specs.Demand.{Event, work, commits, answers, serially, table}

-- requests, each with its reply in the output
unfoldable pub exchanged : List Request → List ℕ → List Event
exchanged [] output = []
exchanged (q ∷ qs) output = (q, reply_at output 0) ∷ exchanged qs (drop 16 output)

-- all that was asked and answered, in the order of time
unfoldable pub events : House → List Call → List Event
events h [] = []
events h (c ∷ cs) = exchanged (asked c) (told h c) ++ events (reported h c).house cs

-- each number is that of a byte; of a map, ticket and items are of their size
abbrev pub Bytes : List ℕ → Type 0
Bytes b = (k : ℕ) → get_or b k 0 < 256

abbrev pub Sized : Call → Type 0
Sized (by_turn input room most) = Bytes input
Sized (by_map level ticket items room) = Numbers ticket items

unfoldable pub InBytes : List Call → Type 0
InBytes [] = Unit {0}
InBytes (c ∷ cs) = Sized c × InBytes cs

-- "run alone, one after another in the order of their commits, on a plain table, the committed transactions read what the desk
-- answered them, and the table ends as the committed items do"
unfoldable pub Demand3OverBytes : House → List Call → Type 0
Demand3OverBytes h cs =
    let es = events h cs in
    serially (table h) (map (λ n. work n es) (commits es)) ≡ (map (λ n. answers (work n es)) (commits es), table (after_calls h cs))

-- THE STATEMENT: of every opened house, under either rule, refused openings included; whatever each turn and each map is given
abbrev pub OverBytes : Type 0
OverBytes = (levels order : List ℕ) (rule : Rule) (cs : List Call) → InBytes cs → Demand3OverBytes (opening levels order rule).house cs
