use Rattle.std.specs.Prelude.{Some, Err}
use Rattle.std.proofs.Common.{subst}
use Rattle.instructions.specs.Reason.{Evaluates}
use Rattle.evaluation.specs.PrivateInstruction.{acted, acted_due, acted_fault, finished}
use Rattle.evaluation.proofs.InstructionFacts.{finished_as}
use Rattle.evaluation.proofs.LineFacts.{line_reported, reason_met}
use Rattle.evaluation.proofs.instruction.finish.Goals as goal

pub returns-in-Err : goal.returns-in-Err
returns-in-Err c =
    let kind = c.into_kind-kind.result in
    let codes = acted_due c.args.state kind in
    let against = acted_fault c.args.state kind in
    finished_as c.args.state c.args.instruction.kind kind c.args.origins c.args.instruction.line c.line-line.result (Err c.with_line.result) c.into_kind-kind.ensures.kind c.line-line.ensures
    (line_reported (finished c.args.state kind c.args.origins) codes against c.line-line.result c.in-Err.fault _ c.with_line.ensures
    (reason_met (Some (acted c.args.state kind c.args.origins)) codes against c.in-Err.fault
    (subst (λ state. Evaluates (Some (acted state kind c.args.origins)) (acted_due state kind) (acted_fault state kind) (Err c.in-Err.fault)) c.keep_env.ensures c.in-Err.ensures)))
