use Rattle.warnings.proofs.KnownFacts.{stage_turn}
use Rattle.warnings.proofs.known.stage_rows.Goals as goal

pub loop-instruction-preserved : goal.loop-instruction-preserved
loop-instruction-preserved c name =
    stage_turn name c.args.instructions.now c.loop-instruction.instruction-index c.instruction-item.result c.loop-instruction.rows c.add_stage.new.rows _
    c.loop-instruction-test.true c.instruction-item.is c.in_ok-add_stage.ensures (c.loop-instruction.invariant name)
