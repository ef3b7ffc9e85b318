use mathlib.Core.Path.{◌≡◌}
use mathlib.Core.List.{map}
use lib.ListN.{length, take}
use Rattle.maps.proofs.Sent.{asked_for}
use Rattle.maps.proofs.read_part.Given as goal

abbrev pub invariant-loop-k : goal.invariant-loop-k
invariant-loop-k l = (length l.asked ≡ 64) × (take l.k l.asked ≡ map (asked_for l.level l.ticket) (take l.k l.part))
