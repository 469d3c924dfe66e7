use Rattle.serde_json.specs.View.{view}
use Rattle.definition.proofs.LinesFacts.{lines-are}
use Rattle.definition.proofs.lines.operation_in.Goals as goal

pub returns-in-Ok-clause-lines : goal.returns-in-Ok-clause-lines
returns-in-Ok-clause-lines c = lines-are (view c.args.value) c.in-Ok.lines c.in-Ok.ensures
