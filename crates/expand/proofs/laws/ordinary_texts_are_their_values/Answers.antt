use Rattle.expand.proofs.OrdinaryLaws.{ordinary-word, ordinary-value}
use Rattle.expand.proofs.laws.ordinary_texts_are_their_values.Goals as goal

pub returns-clause-word : goal.returns-clause-word
returns-clause-word c = ordinary-word

pub returns-clause-value : goal.returns-clause-value
returns-clause-value c = ordinary-value
