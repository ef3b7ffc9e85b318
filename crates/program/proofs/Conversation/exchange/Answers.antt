-- The read leaves the bytes that were kept, and others behind them, in a buffer as long as before; `hear` makes a round of it.
-- What holds then (`round_over`, `bytes_heard`) is said of any bytes where `hear` is proved.
use Rattle.std.proofs.Common.{rules, ◌<◌, ◌≤◌, ◌≡◌, ◌++◌, ℕ, List, Option, length, take}
use Rattle.std.specs.Io.KnownBytes.{Appends}
use Rattle.dialogue.specs.Dialogue.{heard}
use Rattle.dialogue.specs.Rounds.{Room, Exchanged}
use Rattle.dialogue.proofs.Rounds.{round_over, bytes_heard}
use Rattle.program.proofs.Filled.{heard_behind, as_long}
use Rattle.program.specs.Moves.{Answered}
use Rattle.program.proofs.Moving.{answered, comes}
use Rattle.program.proofs.Conversation.exchange.Goals as goal
use Rattle.program.proofs.Conversation.exchange.Goals.{After-hear-heard}

-- what was handed to `hear` is what the read left behind the bytes that were kept
told : (g : _) (c : After-hear-heard g) → (c.hear-heard.result, c.hear-heard.new.buffer, c.hear-heard.new.replies) ≡ heard c.args.self.now.dialogue (take c.args.self.now.have c.args.self.now.buffer ++ c.read.new.buf) c.args.self.now.have c.in-Ok.got c.args.self.now.replies
told g c = search (rules, heard_behind)

-- in a buffer as long as before
long : (g : _) (c : After-hear-heard g) → length (take c.args.self.now.have c.args.self.now.buffer ++ c.read.new.buf) ≡ length c.args.self.now.buffer
long g c = search (rules, as_long)

-- the buffer is not full, the room is there still, and so are the replies
over : (g : _) (c : After-hear-heard g) → (c.hear-heard.result.have < length c.hear-heard.new.buffer) × Room c.hear-heard.new.buffer c.hear-heard.new.replies × (c.hear-heard.result.written ≤ length c.hear-heard.new.replies)
over g c = round_over _ _ _ _ _ _ _ _ (told g c) c.args.self.now.buffer c.requires.1 (long g c)

pub shared_ref_as_front-write_out : goal.shared_ref_as_front-write_out
shared_ref_as_front-write_out g c = let o = over g (goal.at.shared_ref_as_front-write_out g c).After-hear-heard in search rules

-- so `hear` made a round
made : (g : _) (c : After-hear-heard g) → (c.hear-heard.result.have < length c.hear-heard.new.buffer) × Room c.hear-heard.new.buffer c.hear-heard.new.replies
    × Exchanged c.args.self.now.dialogue c.args.self.now.buffer c.args.self.now.have c.args.self.now.replies c.hear-heard.result.dialogue c.hear-heard.result.have c.hear-heard.new.buffer c.hear-heard.new.replies
made g c =
    let o = over g c in
    (o.0, o.1, bytes_heard _ _ _ _ _ _ _ _ _ (told g c) c.requires.0 (long g c) (c.in-Ok.ensures.bound.0))

pub returns-clause-round : goal.returns-clause-round
returns-clause-round g c = made g (goal.at.returns-clause-round g c).After-hear-heard

-- and with the replies written, all moved that should
moved : (g : _) (c : After-hear-heard g) (holds : Option (List ℕ)) → Appends (g.W.Write.contents c.args.output.now) holds (take c.hear-heard.result.written c.hear-heard.new.replies)
    → Answered (g.R.Read.remaining c.args.input.now) (g.R.Read.remaining c.read.new.self) (g.W.Write.contents c.args.output.now) holds c.args.self.now.dialogue c.args.self.now.buffer c.args.self.now.have c.args.self.now.replies c.hear-heard.result.dialogue c.hear-heard.result.have c.hear-heard.new.buffer c.hear-heard.new.replies
moved g c holds w =
    answered _ _ _ _ c.args.self.now.dialogue c.args.self.now.buffer c.args.self.now.have c.args.self.now.replies c.read.new.buf _ c.hear-heard.result _ _ (told g c) c.requires.0 (long g c) (c.in-Ok.ensures.bound.0) (c.in-Ok.ensures.bytes.0) w

pub returns-clause-moved : goal.returns-clause-moved
returns-clause-moved g c =
    let h = (goal.at.returns-clause-moved g c).After-hear-heard in
    comes _ _ c.write_out-put.result c.hear-heard.result.dialogue.stage _ c.after_replies.ensures c.write_out-put.ensures (moved g h _)
