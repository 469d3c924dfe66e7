use Rattle.std.proofs.Common.{◌+◌, ℕ, drop, sym, subst, arith}
use Rattle.dockerfile.proofs.OrderFacts.{GoesOn, goes_on_more}
use Rattle.dockerfile.proofs.order.ascend.Goals as goal

pub loop-instruction-preserved : goal.loop-instruction-preserved
loop-instruction-preserved c =
    subst (λ (n : ℕ). GoesOn c.args.instructions.now (drop (c.loop-instruction.instruction-index + 1) c.args.instructions.now) n) (sym c.line-line.ensures)
    (goes_on_more c.args.instructions.now c.loop-instruction.instruction-index c.loop-instruction.last c.instruction-item.result c.loop-instruction-test.true c.instruction-item.is
    (omega (arith, c.if-line-last.false, c.line-line.ensures)) (omega (arith, c.if-line-gt-MOST_LINE_NUMBER.false, c.line-line.ensures)) c.kind-whole.ensures.whole c.loop-instruction.invariant)
