-- The day comes out as said, by computation.
-- Assumes nothing.
use mathlib.Core.Path.{◌≡◌, refl}
use mathlib.Core.List.{[], ◌∷◌}
use lib.ListN.{take}
use Rattle.house.specs.Run.{finally}
use Rattle.house.proofs.Unfolding.{rules}
use Rattle.serial.specs.Demand.{trace, table, doing, work, commits, answers, look, run, serially}
use Rattle.serial_day.specs.Day.{day, start, requests, Worked}

answered : trace start requests ≡ day
unfolding rules
answered = refl

kept : take 3 (table (finally start requests)) ≡ ((8, 1) ∷ (5, 1) ∷ (9, 1) ∷ [])
unfolding rules
kept = refl

pub worked : Worked
unfolding rules doing work commits answers look run serially
worked = record { answered = answered; committed = refl; reads = refl; told = refl; ends = refl; kept = kept }
