use Rattle.evaluation.proofs.ExistFacts.{has_answer}
use Rattle.evaluation.proofs.laws.every_table_is_evaluated_or_refused.Goals as goal

pub returns : goal.returns
returns c = has_answer
