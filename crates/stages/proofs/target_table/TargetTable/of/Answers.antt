use Rattle.std.proofs.Common.{arith, ap, length}
use Rattle.stages.proofs.target_table.TargetTable.of.Goals as goal

pub invariant_of-result : goal.invariant_of-result
invariant_of-result c =
    let same = ap length c.stages.ensures.stages in c.stages.ensures.whole.each c.args.target (omega (arith, same, c.if-target-stages.true))
