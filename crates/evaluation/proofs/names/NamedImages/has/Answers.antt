use Rattle.evaluation.proofs.ImageFacts.{name_there}
use Rattle.evaluation.proofs.names.NamedImages.has.Goals as goal

pub returns : goal.returns
returns c = name_there _ _ _ _ c.has.ensures c.self.view_is
