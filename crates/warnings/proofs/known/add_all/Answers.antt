use Rattle.warnings.proofs.KnownFacts.{argument_turn}
use Rattle.warnings.proofs.known.add_all.Goals as goal

pub loop-argument-preserved : goal.loop-argument-preserved
loop-argument-preserved c name =
    argument_turn name c.args.arguments.now c.loop-argument.argument-index c.argument-item.result c.loop-argument.given c.add_default.new.given _
    c.loop-argument-test.true c.argument-item.is c.in_ok-add_default.ensures (c.loop-argument.invariant name)
