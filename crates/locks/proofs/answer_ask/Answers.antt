use Rattle.house.specs.Rules.{ask_answer}
use Rattle.locks.proofs.Laws.{signals, lowest_is, item_fits}
use Rattle.locks.proofs.answer_ask.Goals as goal

pub overflow_cast-result : goal.overflow_cast-result
overflow_cast-result c = search item_fits

pub returns : goal.returns
unfolding ask_answer
returns c = search (signals, lowest_is)
