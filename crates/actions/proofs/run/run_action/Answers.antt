use Rattle.actions.proofs.RunFacts.{run_is}
use Rattle.actions.proofs.run.run_action.Goals as goal

pub returns : goal.returns
returns c = (
  run_is c.args.at.now.scope.now c.args.at.now.dir.now c.args.at.now.user.now c.args.at.now.shell.now c.args.mounts c.args.command c.args.origins c.in_ok-binds.binds c.in_ok-binds.caches c.in_ok-exec.exec
      c.in_ok-binds.ensures.0 c.in_ok-exec.ensures,
  c.in_ok-binds.ensures.1,
)
