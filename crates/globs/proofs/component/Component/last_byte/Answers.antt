use Rattle.globs.proofs.Ends.{end-last}
use Rattle.globs.proofs.component.Component.last_byte.Goals as goal

pub returns : goal.returns
returns c = end-last c.args.self.now c.ending.result.now c.last_byte.result c.ending.ensures c.last_byte.ensures
