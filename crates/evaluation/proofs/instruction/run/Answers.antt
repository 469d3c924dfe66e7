use Rattle.actions.specs.Run.{run_action, run_due}
use Rattle.evaluation.specs.Instruction.{dir_in}
use Rattle.evaluation.proofs.LineFacts.{code_reported, code_well}
use Rattle.evaluation.proofs.instruction.run.Goals as goal

pub returns-in-Ok : goal.returns-in-Ok
returns-in-Ok c =
    let s = c.args.state.now in
    code_well (run_action s.scope (dir_in s) s.config.user s.config.shell c.args.mounts c.args.command c.args.origins) c.in-Ok.action (run_due (dir_in s) c.args.mounts) c.in-Ok.ensures

pub returns-in-Err : goal.returns-in-Err
returns-in-Err c =
    let s = c.args.state.now in
    code_reported (run_action s.scope (dir_in s) s.config.user s.config.shell c.args.mounts c.args.command c.args.origins) (run_due (dir_in s) c.args.mounts) c.in-Err.fault _
    c.code_fault.ensures c.in-Err.ensures
