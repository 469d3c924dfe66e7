use Rattle.trees.specs.PrivateNode.{lists_of}
use Rattle.trees.proofs.PartedSteps.{parted-rows}
use Rattle.trees.proofs.spine.OpenFolder.into_kid.Goals as goal

pub put_away-requires-clause-rise : goal.put_away-requires-clause-rise
put_away-requires-clause-rise c = parted-rows (lists_of c.self.inside.parts.items) c.self.inside.rows.items c.self.inside.depth c.self.invariant
