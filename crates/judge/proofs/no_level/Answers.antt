use mathlib.Core.Path.{refl}
use Rattle.house.specs.Rules.{no_level}
use Rattle.judge.proofs.no_level.Goals as goal

pub returns : goal.returns
unfolding no_level
returns c = refl
