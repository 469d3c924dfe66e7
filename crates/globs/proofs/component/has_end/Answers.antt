use Rattle.globs.proofs.Ends.{end-both}
use Rattle.globs.proofs.component.has_end.Goals as goal

pub returns : goal.returns
returns c = end-both _ _ _ c.ends_with.ensures.cases
