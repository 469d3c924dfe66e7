use Rattle.evaluation.proofs.ImageFacts.{name_added}
use Rattle.evaluation.proofs.names.NamedImages.add.Goals as goal

pub returns-clause-ok : goal.returns-clause-ok
returns-clause-ok c = name_added _ _ _ c.args.name.now _ _ c.in_ok-add.ensures.ok c.in_ok-copy.ensures c.self.view_is
