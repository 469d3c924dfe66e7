use Rattle.std.proofs.Common.{List, Some, ap}
use Rattle.instructions.specs.Reason.{reason}
use Rattle.instructions.specs.declared.instruction.Label.{Label}
use Rattle.instructions.specs.declared.instruction.InstructionKind.TheVariants as spelled
use Rattle.scopes.specs.Scope.{value_in}
use Rattle.imageconfig.specs.Lines.{label_rows, label_due, label_fault}
use Rattle.imageconfig.specs.Rows.{Row}
use Rattle.imageconfig.proofs.StepFacts.{refused}
use Rattle.imageconfig.proofs.changing.set_labels.Goals as goal

pub returns-in_err-rows : goal.returns-in_err-rows
returns-in_err-rows c =
    refused {X = List Row} c.args.config.now (value_in c.args.before.now) (spelled.Label c.args.labels.now)
    (Some (label_rows (value_in c.args.before.now) c.as_slice.result.now)) (label_due (value_in c.args.before.now) c.as_slice.result.now) (label_fault (value_in c.args.before.now) c.as_slice.result.now)
    c.in_err-rows.field-0.0 c.from_residual.result c.from_residual.ensures.1 c.in_err-rows.ensures
    (ap (λ (items : List Label). reason (label_due (value_in c.args.before.now) items) (label_fault (value_in c.args.before.now) items)) c.as_slice.ensures)
