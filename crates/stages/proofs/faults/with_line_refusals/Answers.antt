use Rattle.std.proofs.Common.{sym, ◌∙◌, ap}
use Rattle.stages.specs.Naming.{Names}
use Rattle.stages.specs.Before.{declared_by}
use Rattle.stages.specs.Faults.{is_outer_argument}
use Rattle.stages.proofs.FaultsFacts.{faults_first, turn_step, turn_last, turn_over}
use Rattle.stages.proofs.faults.with_line_refusals.Goals as goal

pub loop-instruction-init : goal.loop-instruction-init
loop-instruction-init g c = faults_first _ _ c.args.instructions.now _ _ c.args.refusals c.new-outer.ensures c.new-names.ensures

pub loop-instruction-preserved : goal.loop-instruction-preserved
loop-instruction-preserved g c =
    turn_step _ _ _ c.args.instructions.now c.loop-instruction.instruction-index c.instruction-item.result _ _ _ c.kind_reason.new.outer _
    c.kind_reason.new.names _ c.tell.new.refusals c.in_ok-reason.reason _ c.loop-instruction-test.true c.instruction-item.is c.kind-kind.ensures.kind c.line.ensures c.loop-instruction.invariant
    c.in_ok-reason.ensures.why c.in_ok-reason.ensures.names (c.is_outer_argument-is_outer.ensures ∙ ap (λ (ns : Names). is_outer_argument ns (declared_by c.kind-kind.result.now)) c.as_slice.ensures) c.in_ok-is_last.ensures.refusals
    (sym c.in_ok-is_last.ensures.last ∙ c.if-is_last.false)

pub returns-then-is_last : goal.returns-then-is_last
returns-then-is_last g c =
    turn_last _ _ _ c.args.instructions.now c.loop-instruction.instruction-index c.instruction-item.result _ _ _ c.kind_reason.new.outer _
    _ c.tell.new.refusals c.in_ok-reason.reason _ c.loop-instruction-test.true c.instruction-item.is c.kind-kind.ensures.kind c.line.ensures c.loop-instruction.invariant
    c.in_ok-reason.ensures.why (c.is_outer_argument-is_outer.ensures ∙ ap (λ (ns : Names). is_outer_argument ns (declared_by c.kind-kind.result.now)) c.as_slice.ensures) c.in_ok-is_last.ensures.refusals
    (sym c.in_ok-is_last.ensures.last ∙ c.if-is_last.true)

pub returns : goal.returns
returns g c =
    turn_over _ _ _ c.args.instructions.now c.loop-instruction.instruction-index _ _ c.loop-instruction.refusals c.loop-instruction-test.false c.loop-instruction.invariant
