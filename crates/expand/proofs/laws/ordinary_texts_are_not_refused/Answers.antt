use Rattle.expand.proofs.OrdinaryLaws.{ordinary-refusal}
use Rattle.expand.proofs.laws.ordinary_texts_are_not_refused.Goals as goal

pub returns : goal.returns
returns c = ordinary-refusal
