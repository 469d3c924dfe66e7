use Rattle.std.specs.FinMap.{get}
use Rattle.instructions.specs.declared.instruction.InstructionKind.TheVariants.{Arg}
use Rattle.scopes.specs.Evaluate.{arg_line, arg_fault}
use Rattle.scopes.specs.Scope.{value_in}
use Rattle.evaluation.specs.Instruction.{after, due, fault}
use Rattle.evaluation.proofs.LineFacts.{line_reported, long_reported}
use Rattle.evaluation.proofs.instruction.declare.Goals as goal

pub returns-in-Err : goal.returns-in-Err
returns-in-Err c =
    let args = get c.args.given.now.args.now in
    let scope = c.args.state.scope in
    let kind = Arg c.args.arguments.now in
    line_reported (after args (value_in c.args.given.now.outer.now) c.args.state kind) (due args c.args.state kind) (fault args c.args.state kind) c.args.line c.text_fault.result _ c.with_line.ensures
    (long_reported scope (arg_line (value_in scope) args (value_in c.args.given.now.outer.now) c.args.arguments.now) c.declare.new.self (arg_fault (value_in scope) args c.args.arguments.now)
    c.in-Err.fault _ c.text_fault.ensures c.in-Err.ensures)
