use Rattle.std.proofs.Common.{subst}
use Rattle.std.specs.Prelude.{IfOk}
use Rattle.stages.specs.Needed.{AreNeeded}
use Rattle.stages.specs.Table.{TableValue}
use Rattle.stages.proofs.target_table.TargetTable.needed.Goals as goal

pub returns : goal.returns
returns c =
    subst (λ (t : TableValue). IfOk c.needed.result (AreNeeded t.stages t.target)) c.self.view_is (c.needed.ensures.stage c.self.invariant.has_target)
