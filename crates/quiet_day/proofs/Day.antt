-- The day comes out as said, by computation.
-- Assumes nothing.
use mathlib.Core.Path.{refl}
use mathlib.Core.List.{flat_map}
use Rattle.house.proofs.Unfolding.{rules}
use Rattle.wire.specs.Wire.{request_at, reply_bytes}
use Rattle.desk.specs.Turn.{requests, wired}
use Rattle.dialogue.specs.Pieces.{run_of, programmed}
use Rattle.quiet_bytes.specs.Struck.{of_others, struck_bytes}
use Rattle.quiet_bytes.specs.Program.{struck_input, replied_to}
use Rattle.quiet_day.specs.Day.{bytes, Worked}

pub worked : Worked
unfolding rules request_at reply_bytes requests wired run_of programmed of_others struck_bytes struck_input replied_to bytes flat_map
worked = record { written = refl; struck = refl; others = refl; same = refl; marked = refl; unmarked = refl }
