use Rattle.std.proofs.Common.{sym, ◌∙◌}
use Rattle.warnings.proofs.KnownFacts.{given_turn, given_ended, given_over}
use Rattle.warnings.proofs.known.given_rows.Goals as goal

pub loop-instruction-preserved : goal.loop-instruction-preserved
loop-instruction-preserved c name =
    given_turn name c.args.instructions.now c.loop-instruction.instruction-index c.instruction-item.result c.loop-instruction.given c.add_defaults.new.given _
    c.loop-instruction-test.true c.instruction-item.is (sym c.begins_stage.ensures ∙ c.if-begins_stage.false) c.in_ok-add_defaults.ensures
    (c.loop-instruction.invariant name)

pub returns-then-begins_stage : goal.returns-then-begins_stage
returns-then-begins_stage c name =
    given_ended name c.args.instructions.now c.loop-instruction.instruction-index c.instruction-item.result c.loop-instruction.given _
    c.loop-instruction-test.true c.instruction-item.is (sym c.begins_stage.ensures ∙ c.if-begins_stage.true) (c.loop-instruction.invariant name)

pub returns : goal.returns
returns c name =
    given_over name c.args.instructions.now c.loop-instruction.instruction-index c.loop-instruction.given _ c.loop-instruction-test.false
    (c.loop-instruction.invariant name)
