-- M1 to M12 and their companions hold, by computation: both sides of the statement are worked out and compared.
-- Assumes nothing.
use mathlib.Core.Path.{refl}
use Rattle.house.proofs.Unfolding.{rules}
use Rattle.examples.specs.Words.{given, expected}
use Rattle.examples.specs.Table.{table, Marked}

pub marked_examples : Marked
unfolding rules given expected table Marked
marked_examples = refl
