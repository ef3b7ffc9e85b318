-- `fed` goes by the stage and then by a test, as the code does: `staged` takes the branch of the stage that was matched,
-- `followed` that of the test, and the call there promises what is left.
use Rattle.house.proofs.Branches.{followed}
use Rattle.dialogue.specs.Dialogue.{fed}
use Rattle.dialogue.proofs.Stages.{staged}
use Rattle.dialogue.proofs.feed.Goals as goal

pub returns-in-Waiting : goal.returns-in-Waiting
unfolding fed
returns-in-Waiting c = search (followed, staged)

pub returns-in-Waiting-2 : goal.returns-in-Waiting-2
unfolding fed
returns-in-Waiting-2 c = search (followed, staged)

pub returns-in-Open : goal.returns-in-Open
unfolding fed
returns-in-Open c = search (followed, staged)

pub returns-in-Refused : goal.returns-in-Refused
unfolding fed
returns-in-Refused c = search (followed, staged)
