use Rattle.std.proofs.Common.{arith}
use Rattle.trees.proofs.WalkSteps.{drops}
use Rattle.trees.proofs.walk.leave_bare.Goals as goal

pub returns-then-len : goal.returns-then-len
returns-then-len c = λ kids are_bare way.
    drops c.args.names.now c.pop.new.self c.args.above.now kids are_bare c.pop.result way (omega (arith, c.if-len.true, c.len.ensures, c.len-2.ensures)) c.pop.ensures.items c.pop.ensures.variant.1 c.pop.ensures.capacity
