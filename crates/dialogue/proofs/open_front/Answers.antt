use borrow.Author.Rules.{rules}
use Rattle.dialogue.proofs.Laws.{front_short}
use Rattle.dialogue.proofs.open_front.Goals as goal

pub returns-in_default : goal.returns-in_default
returns-in_default c = search (rules, front_short)
