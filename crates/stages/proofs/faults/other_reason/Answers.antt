use Rattle.std.proofs.Common.{sym, ◌∙◌}
use Rattle.stages.proofs.DraftFacts.{empty_is, filled_is}
use Rattle.stages.proofs.FaultsFacts.{other_outer_judged, other_inner_judged}
use Rattle.stages.proofs.faults.other_reason.Goals as goal

pub returns-then-is_empty : goal.returns-then-is_empty
returns-then-is_empty g c =
    other_outer_judged _ _ c.args.outer.now c.outer_reason.new.outer c.args.names.now c.args.kind.now c.outer_reason.result
    (empty_is c.args.names.now (sym c.is_empty.ensures ∙ c.if-is_empty.true)) c.outer_reason.ensures

pub returns-else-is_empty : goal.returns-else-is_empty
returns-else-is_empty g c =
    other_inner_judged _ _ c.args.outer.now c.args.names.now c.args.kind.now c.inner_reason.result
    (filled_is c.args.names.now (sym c.is_empty.ensures ∙ c.if-is_empty.false)) c.inner_reason.ensures
