use Rattle.warnings.specs.Warnings.{flag_warning}
use Rattle.warnings.proofs.WarningFacts.{pushed}
use Rattle.warnings.proofs.finding.push_flags.Goals as goal

pub loop-flag-preserved : goal.loop-flag-preserved
loop-flag-preserved c =
    pushed (flag_warning c.args.escape c.args.line) c.args.flags.now c.loop-flag.flag-index c.flag-item.result c.in_ok-warning.warning c.loop-flag.found c.push.new.found _
    c.loop-flag-test.true c.flag-item.is c.in_ok-warning.ensures c.in_ok-push.ensures c.loop-flag.invariant
