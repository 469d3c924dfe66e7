use Rattle.std.proofs.Common.{ℕ, List, Some, ap}
use Rattle.expand.specs.Value.{Parts}
use Rattle.instructions.specs.Reason.{reason}
use Rattle.instructions.specs.declared.instruction.InstructionKind.TheVariants as spelled
use Rattle.scopes.specs.Scope.{value_in}
use Rattle.imageconfig.specs.Lines.{texts_of, volume_due, words_fault}
use Rattle.imageconfig.proofs.StepFacts.{refused}
use Rattle.imageconfig.proofs.changing.add_volumes.Goals as goal

pub returns-in_err-texts : goal.returns-in_err-texts
returns-in_err-texts c =
    refused {X = List (List ℕ)} c.args.config.now (value_in c.args.before.now) (spelled.Volume c.args.paths.now)
    (Some (texts_of (value_in c.args.before.now) c.as_slice.result.now)) (volume_due (value_in c.args.before.now) c.as_slice.result.now) (words_fault (value_in c.args.before.now) c.as_slice.result.now)
    c.in_err-texts.field-0.0 c.from_residual.result c.from_residual.ensures.1 c.in_err-texts.ensures
    (ap (λ (items : List Parts). reason (volume_due (value_in c.args.before.now) items) (words_fault (value_in c.args.before.now) items)) c.as_slice.ensures)
