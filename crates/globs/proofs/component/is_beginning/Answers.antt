use Rattle.globs.proofs.Beginnings.{begins-both}
use Rattle.globs.proofs.component.is_beginning.Goals as goal

pub returns : goal.returns
returns c = begins-both _ _ _ c.utf8.own c.utf8.name c.starts_with.ensures.cases
