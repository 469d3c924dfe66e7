use Rattle.std.proofs.Common.{ap, ◌∙◌}
use Rattle.serde_json.specs.Written.{has_float}
use Rattle.operations.proofs.PlainFacts.{op_plain}
use Rattle.definition.proofs.writing.vertex_value.Goals as goal

pub returns-clause-plain : goal.returns-clause-plain
returns-clause-plain c = ap has_float c.in_ok-value.ensures.data ∙ op_plain _ c.args.vertex.now.op
