use Rattle.std.proofs.Common.{◌++◌, None}
use Rattle.scopes.specs.Scope.{value_in, kept}
use Rattle.scopes.specs.Evaluate.{arg_line}
use Rattle.std.specs.FinMap.{get}
use Rattle.stages.proofs.DraftFacts.{declare_ok, declare_err}
use Rattle.stages.proofs.resolving.declare_arguments.Goals as goal

pub returns-in-Ok : goal.returns-in-Ok
returns-in-Ok c = declare_ok (get c.args.args.now) c.args.draft c.args.arguments.now c.in-Ok.outer c.in-Ok.ensures

pub returns-in-Err : goal.returns-in-Err
returns-in-Err c = declare_err (get c.args.args.now) c.args.draft c.args.arguments.now (kept (c.args.draft.outer ++ arg_line (value_in c.args.draft.outer) (get c.args.args.now) (λ name. None) c.args.arguments.now)) c.in-Err.fault c.in-Err.ensures
