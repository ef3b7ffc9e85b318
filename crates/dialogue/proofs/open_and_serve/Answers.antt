use borrow.Author.Rules.{rules}
use Rattle.dialogue.proofs.Laws.{opened_past, opens_open, opens_refused}
use Rattle.dialogue.proofs.open_and_serve.Goals as goal

pub serve-requires : goal.serve-requires
serve-requires c = search (rules, opened_past)

pub returns-in-None : goal.returns-in-None
returns-in-None c = search opens_open

pub returns-in-Some : goal.returns-in-Some
returns-in-Some c = search opens_refused
