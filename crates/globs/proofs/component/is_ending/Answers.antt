use Rattle.globs.proofs.Endings.{ends-both}
use Rattle.globs.proofs.component.is_ending.Goals as goal

pub returns : goal.returns
returns c = ends-both _ _ _ c.utf8.own c.utf8.name c.ends_with.ensures.cases
