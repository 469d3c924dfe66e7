use Rattle.ignorefile.proofs.Leaves.{raised-off}
use Rattle.ignorefile.proofs.index.raised_by.Goals as goal

pub returns-else-may_take : goal.returns-else-may_take
returns-else-may_take c = raised-off _ _ _ _ _ _ c.requires.known c.requires.last c.may_take.ensures c.if-may_take.false
