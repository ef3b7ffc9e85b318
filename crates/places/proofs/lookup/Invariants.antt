-- What is left of the round gives the answer.
use Rattle.std.proofs.Common.{◌≡◌, ◌≤◌, ◌-◌}
use Rattle.std.specs.Prelude.{None}
use Rattle.house.specs.House.{has_ticket}
use Rattle.house.specs.Search.{scan, find_round}
use Rattle.places.proofs.Rounds.{has_at, found_at}
use Rattle.places.proofs.lookup.Given as goal

abbrev pub invariant-loop-k : goal.invariant-loop-k
invariant-loop-k l = (l.k ≤ 8) × (find_round (has_ticket l.eight l.ticket) 0 8 l.ticket ≡ scan (has_at l.eight l.ticket) (found_at l.ticket) None l.k (8 - l.k))

abbrev pub decreases-loop-k : goal.decreases-loop-k
decreases-loop-k l = 8 - l.k
