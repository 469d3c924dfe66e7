use Rattle.std.proofs.Common.{ap, ◌∙◌}
use Rattle.serde_json.specs.Written.{has_float}
use Rattle.operations.proofs.PlainFacts.{op_plain}
use Rattle.definition.proofs.known.address_on.Goals as goal

pub address_of-requires : goal.address_of-requires
address_of-requires c = ap has_float c.in_ok-operation.ensures.data ∙ op_plain _ _
