-- Ticket 0 is told before the search (`zero_nowhere`). `search searched` goes on, out and to the end, and `met` says that the place looked at
-- is the round's.
use Rattle.std.proofs.Common.{ℕ, ◌≤◌, ◌<◌, ◌≢◌, arith}
use Rattle.house.proofs.Searches.{searched}
use Rattle.house.specs.House.{seek}
use Rattle.places.proofs.Rounds.{comes_to, met}
use Rattle.places.proofs.lookup.Goals as goal

not_yet : (k n : ℕ) → k ≤ n → k ≢ n → k < n
not_yet k n a b = omega arith

pub loop-k-preserved : goal.loop-k-preserved
loop-k-preserved c = (omega arith, search (searched, not_yet, met))

pub returns-then-seat-ticket : goal.returns-then-seat-ticket
unfolding seek
returns-then-seat-ticket c = search (searched, not_yet, met, comes_to)
