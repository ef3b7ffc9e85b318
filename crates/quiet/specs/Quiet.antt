-- No marking can be noticed (CR 3). "For any level k, strike from any list of requests" "every request whose level byte is above 3 or not
-- dominated by k" (CR 6). "The replies to the others are the same bytes in the same order, and so afterwards are the items, places,
-- tickets and places' cells of" "the levels k dominates" (CR 6). Of requests and replies here; of their bytes in quiet_bytes.
-- Assumes nothing.
use Rattle.std.specs.Prelude.{ℕ, ◌<◌, ◌≡◌, cond, List, [], ◌∷◌}
use Rattle.house.specs.declared.House.{House}
use Rattle.house.specs.declared.Reply.{Reply}
use Rattle.house.specs.declared.Request.{Request}
use Rattle.house.specs.declared.Rule.{Rule}
use Rattle.house.specs.Opening.{opening}
use Rattle.house.specs.Run.{Event, finally, replies, trace}
use Rattle.quiet.specs.Alike.{stays, Alike}

-- what is left of these requests
unfoldable pub struck : List ℕ → ℕ → List Request → List Request
struck order k [] = []
struck order k (q ∷ qs) = cond (stays order k q) (q ∷ struck order k qs) (struck order k qs)

-- of all that was asked and answered, "the replies to the others"
unfoldable pub to_others : List ℕ → ℕ → List Event → List Reply
to_others order k [] = []
to_others order k (e ∷ es) = cond (stays order k e.0) (e.1 ∷ to_others order k es) (to_others order k es)

-- nobody at a level that k dominates notices whether the others asked, from this house on
pub record Unnoticed (k : ℕ) (h : House) (qs : List Request) : Type 0 where
  pub told : to_others h.order k (trace h qs) ≡ replies h (struck h.order k qs)
  pub afterwards : Alike k (finally h qs) (finally h (struck h.order k qs))

-- THE STATEMENTS, proved in proofs/Quiet.antt: from any opening, under either rule, refused ones too, whatever is asked

abbrev pub NoMarking : Type 0
NoMarking = (k : ℕ) → k < 4 → (levels table : List ℕ) (rule : Rule) (qs : List Request) → Unnoticed k (opening levels table rule).house qs

-- so of two days on which the same is asked at the levels that k dominates, whatever the others do, nobody there can tell which it is
abbrev pub NobodyCanTell : Type 0
NobodyCanTell =
    (k : ℕ) → k < 4 → (levels table : List ℕ) (rule : Rule) (qs rs : List Request)
    → let h = (opening levels table rule).house in
    struck h.order k qs ≡ struck h.order k rs
    → (to_others h.order k (trace h qs) ≡ to_others h.order k (trace h rs)) × Alike k (finally h qs) (finally h rs)
