use Rattle.std.proofs.Common.{arith}
use Rattle.program.proofs.Telling.{begins, another, ends}
use Rattle.program.proofs.converse.Goals as goal

pub loop-init : goal.loop-init
loop-init g c =
    record {
      not_full = omega arith;
      room = (omega arith, omega arith);
      told = rw c.start.ensures (begins _ _);
    }

pub returns-in-End : goal.returns-in-End
returns-in-End g c =
    let i = c.loop.invariant in
    ends _ _ _ _ _ _ _ _ i.told i.room _ _ _ _ _ _ _ c.in_ok-exchange.ensures.moved c.in-End.is

pub loop-preserved : goal.loop-preserved
loop-preserved g c =
    let i = c.loop.invariant in
    let e = c.exchange.ensures in
    record {
      not_full = e.round.0;
      room = e.round.1;
      told = another _ _ _ _ _ _ _ _ i.told i.room _ _ _ _ _ _ _ c.in_ok-exchange.ensures.moved c.in_default.is;
    }
