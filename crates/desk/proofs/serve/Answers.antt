-- After n rounds the house is `housed n` and the bytes are `written n`; a round is one request more, and at the count the turn has ended
-- (`Laws`).
use native.Mathlib.Omega.{arith}
use mathlib.Core.Path.{refl, sym, ◌∙◌}
use Rattle.std.proofs.lemmas.Slice.{put_mid-paste}
use Rattle.house.specs.Run.{finally, replies}
use Rattle.desk.proofs.Laws.{request_in, length_reply_bytes, housed_more, written_more, turned_at, answered_at}
use Rattle.desk.specs.Turn.{requests, wired}
use Rattle.desk.proofs.serve.Goals as goal

pub loop-n-init : goal.loop-n-init
unfolding finally replies requests wired
loop-n-init g c = (refl, refl)

pub loop-n-preserved : goal.loop-n-preserved
loop-n-preserved g c =
    let i = c.loop-n.invariant in
    let is = sym c.step-reply.ensures in
    let q = request_in _ _ c.as_chunks.ensures.front c.loop-n.n (omega arith) _ c.decode.ensures in
    let put = put_mid-paste _ _ _ _ _ 16 (c.copy_from_slice.ensures.after ∙ c.encode.ensures) (omega arith) (sym (length_reply_bytes _)) in
    (housed_more _ _ _ _ _ _ is i.0 q _ refl, written_more _ _ _ _ _ _ is i.0 q _ _ _ i.1 put)

pub returns : goal.returns
returns g c = (search turned_at, search answered_at)
