-- What `exchange` requires and promises: the buffer is not full, and there is room for the replies; and what was written so far is what
-- should be.
use Rattle.std.proofs.Common.{◌<◌, length, take}
use Rattle.dialogue.specs.Rounds.{Room}
use Rattle.program.proofs.Telling.{Told}
use Rattle.program.proofs.converse.Given as goal

abbrev pub invariant-loop : goal.invariant-loop
invariant-loop g l =
    let c = l.conversation in
    record {
      not_full : c.have < length c.buffer;
      room : Room c.buffer c.replies;
      told : Told (g.R.Read.remaining l.fn.input) (g.R.Read.remaining l.input) (g.W.Write.contents l.fn.output) (g.W.Write.contents l.output) c.dialogue (take c.have c.buffer);
    }
