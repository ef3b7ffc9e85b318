-- The subjects stand side by side, and the openings get their numbers, by computation.
-- Assumes nothing.
use mathlib.Core.Path.{refl}
use Rattle.house.proofs.Unfolding.{rules}
use Rattle.examples.specs.Words.{given, expected}
use Rattle.examples.specs.Subjects.{subjects, openings, SideBySide}

pub side_by_side : SideBySide
unfolding rules given expected subjects openings
side_by_side = record { answered = refl; opened = refl }
