use Rattle.std.proofs.Common.{List, sym, subst, ◌∙◌}
use Rattle.std.specs.FinMap.{get}
use Rattle.instructions.specs.declared.instruction.Assignment.{Assignment}
use Rattle.instructions.specs.declared.instruction.InstructionKind.TheVariants.{Env}
use Rattle.scopes.specs.Scope.{value_in}
use Rattle.imageconfig.specs.Steps.{due, fault}
use Rattle.evaluation.specs.PrivateRefusals.{EvaluatesTo}
use Rattle.evaluation.specs.PrivateInstruction.{variables_set}
use Rattle.evaluation.proofs.InstructionFacts.{left_as}
use Rattle.evaluation.proofs.instruction.leave.Goals as goal

pub returns-in-Env : goal.returns-in-Env
returns-in-Env c =
    let s = c.args.state in
    let line = c.line-in-Env.result in
    let reported =
    subst (λ (as_now : List Assignment). EvaluatesTo (variables_set s as_now) (due (value_in s.scope) s.config (Env as_now)) (fault (value_in s.scope) (Env as_now)) line c.set_variables.result)
    c.as_slice-in-Env.ensures c.set_variables.ensures in
    left_as (get c.args.given.now.args.now) (value_in c.args.given.now.outer.now) s c.args.instruction.now.kind (Env c.in-Env.assignments) c.args.instruction.now.line line
    c.set_variables.result (sym c.in-Env.is ∙ c.kind.ensures.kind) c.line-in-Env.ensures reported
