use Rattle.std.proofs.Common.{ap, ◌∙◌}
use Rattle.scopes.specs.Evaluate.{env_variables, env_fault}
use Rattle.scopes.specs.Scope.{value_in}
use Rattle.evaluation.specs.PrivateInstruction.{both_set}
use Rattle.evaluation.proofs.LineFacts.{long_none}
use Rattle.evaluation.proofs.instruction.set_variables.Goals as goal

pub returns-in-Ok-set_both : goal.returns-in-Ok-set_both
returns-in-Ok-set_both c =
    let scope = c.args.state.scope in
    long_none (both_set c.args.state) c.in-Ok.variables (env_variables (value_in scope) c.args.assignments.now) c.set_both.new.state (env_fault (value_in scope) c.args.assignments.now) c.in-Ok.ensures
    (c.in-Ok-set_both.ensures ∙ ap (both_set c.args.state) c.as_slice.ensures)
