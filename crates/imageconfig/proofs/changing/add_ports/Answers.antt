use Rattle.std.proofs.Common.{ℕ, List, Some, ap}
use Rattle.expand.specs.Value.{Parts}
use Rattle.instructions.specs.Reason.{reason}
use Rattle.instructions.specs.declared.instruction.InstructionKind.TheVariants as spelled
use Rattle.scopes.specs.Scope.{value_in}
use Rattle.imageconfig.specs.Lines.{port_keys, port_due, words_fault}
use Rattle.imageconfig.proofs.StepFacts.{refused}
use Rattle.imageconfig.proofs.changing.add_ports.Goals as goal

pub returns-in_err-keys : goal.returns-in_err-keys
returns-in_err-keys c =
    refused {X = List (List ℕ)} c.args.config.now (value_in c.args.before.now) (spelled.Expose c.args.ports.now)
    (Some (port_keys (value_in c.args.before.now) c.as_slice.result.now)) (port_due (value_in c.args.before.now) c.as_slice.result.now) (words_fault (value_in c.args.before.now) c.as_slice.result.now)
    c.in_err-keys.field-0.0 c.from_residual.result c.from_residual.ensures.1 c.in_err-keys.ensures
    (ap (λ (items : List Parts). reason (port_due (value_in c.args.before.now) items) (words_fault (value_in c.args.before.now) items)) c.as_slice.ensures)
