-- No marking can be noticed (CR 3), over bytes. "For any level k, strike from any list of requests" "every request whose level byte is
-- above 3 or not dominated by k" (CR 6). "The replies to the others are the same bytes in the same order, and so afterwards are the items,
-- places, tickets and places' cells of" "the levels k dominates" (CR 6).
-- Assumes nothing.
use Rattle.std.specs.Prelude.{ℕ, ◌≡◌, cond, List, [], ◌∷◌, ◌++◌, take, drop}
use Rattle.house.specs.declared.House.{House}
use Rattle.house.specs.declared.Request.{Request}
use Rattle.desk.specs.Turn.{whole_requests}
use Rattle.quiet.specs.Alike.{stays, Alike}

-- bytes that have w for each of these requests, as request bytes have 12 and reply bytes 16: those of "the others", which are not struck,
-- and what is behind the last
unfoldable pub of_others : List ℕ → ℕ → ℕ → List Request → List ℕ → List ℕ
of_others order k w [] bytes = bytes
of_others order k w (q ∷ qs) bytes =
    let rest = of_others order k w qs (drop w bytes) in
    cond (stays order k q) (take w bytes ++ rest) rest

-- "strike from any list of requests"; an unfinished request at the end stays
unfoldable pub struck_bytes : List ℕ → ℕ → List ℕ → List ℕ
struck_bytes order k input = of_others order k 12 (whole_requests input) input

-- what was written and the house at the end, with all of these requests, and with those struck that k does not dominate
pub record UnnoticedIn (order : List ℕ) (k : ℕ) (qs : List Request) (end end' : List ℕ × House) : Type 0 where
  -- "The replies to the others are the same bytes in the same order"
  pub told : of_others order k 16 qs end.0 ≡ end'.0
  -- "and so afterwards are the items, places, tickets and places' cells of" "the levels k dominates"
  pub afterwards : Alike k end.1 end'.1
