use Rattle.warnings.specs.Warnings.{heredoc_warning}
use Rattle.warnings.proofs.WarningFacts.{pushed}
use Rattle.warnings.proofs.finding.push_heredocs.Goals as goal

pub loop-heredoc-preserved : goal.loop-heredoc-preserved
loop-heredoc-preserved c =
    pushed (heredoc_warning c.args.escape c.args.line) c.args.heredocs.now c.loop-heredoc.heredoc-index c.heredoc-item.result c.in_ok-warning.warning c.loop-heredoc.found c.push.new.found _
    c.loop-heredoc-test.true c.heredoc-item.is c.in_ok-warning.ensures c.in_ok-push.ensures c.loop-heredoc.invariant
