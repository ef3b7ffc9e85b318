use borrow.Author.Rules.{rules}
use Rattle.dialogue.proofs.Keeping.{heard_is}
use Rattle.dialogue.proofs.hear.Goals as goal

pub returns : goal.returns
returns c = search (rules, heard_is)
