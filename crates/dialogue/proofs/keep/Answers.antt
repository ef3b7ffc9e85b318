use native.Mathlib.Omega.{arith}
use Rattle.dialogue.proofs.Keeping.{kept_is}
use Rattle.dialogue.proofs.keep.Goals as goal

pub returns : goal.returns
returns c = kept_is c.args.bytes.now c.args.used _ _ _ c.min-used.ensures (omega (arith, c.copy_within.ensures.len)) c.copy_within.ensures.after
