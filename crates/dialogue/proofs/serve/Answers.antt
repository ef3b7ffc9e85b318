use Rattle.dialogue.proofs.Serving.{serves_is, counted_used, counted_past, counted_written}
use Rattle.dialogue.proofs.serve.Goals as goal

pub overflow_mul-result : goal.overflow_mul-result
overflow_mul-result c = search counted_used

pub overflow_add-result : goal.overflow_add-result
overflow_add-result c = search counted_past

pub overflow_mul-result-2 : goal.overflow_mul-result-2
overflow_mul-result-2 c = search counted_written

pub returns : goal.returns
returns c = search serves_is
