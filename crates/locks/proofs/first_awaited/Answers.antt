use Rattle.locks.proofs.Laws.{nothing_written}
use Rattle.locks.proofs.first_awaited.Goals as goal

pub returns-then-not-holds_any : goal.returns-then-not-holds_any
returns-then-not-holds_any c = search nothing_written
