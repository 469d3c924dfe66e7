use Rattle.warnings.specs.Known.{stage_by}
use Rattle.warnings.specs.Warnings.{mount_warning}
use Rattle.warnings.proofs.WarningFacts.{pushed}
use Rattle.warnings.proofs.finding.push_mounts.Goals as goal

pub loop-mount-preserved : goal.loop-mount-preserved
loop-mount-preserved c =
    pushed (mount_warning (stage_by c.args.stages.now) c.args.place c.args.line) c.args.mounts.now c.loop-mount.mount-index c.mount-item.result c.in_ok-warning.warning c.loop-mount.found c.push.new.found _
    c.loop-mount-test.true c.mount-item.is c.in_ok-warning.ensures c.in_ok-push.ensures c.loop-mount.invariant
