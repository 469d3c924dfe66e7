use Rattle.std.specs.FinMap.{get as arg_value}
use Rattle.warnings.specs.PrivateKnown.{given_by}
use Rattle.warnings.specs.Warnings.{argument_warning}
use Rattle.warnings.proofs.WarningFacts.{pushed}
use Rattle.warnings.proofs.finding.push_arguments.Goals as goal

pub loop-argument-preserved : goal.loop-argument-preserved
loop-argument-preserved c =
    pushed (argument_warning (arg_value c.args.args.now) (given_by c.args.given.now) c.args.line) c.args.arguments.now c.loop-argument.argument-index c.argument-item.result c.in_ok-warning.warning c.loop-argument.found c.push.new.found _
    c.loop-argument-test.true c.argument-item.is c.in_ok-warning.ensures c.in_ok-push.ensures c.loop-argument.invariant
