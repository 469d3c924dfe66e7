use Rattle.std.proofs.Common.{List, None, Some, ap, map, ◌∙◌}
use Rattle.std.specs.Option.{option_map}
use Rattle.serde_json.specs.Data.{Data}
use Rattle.serde_json.specs.View.{view}
use Rattle.definition.proofs.ShapeFacts.{object-list}
use Rattle.definition.proofs.reading.list_at.Goals as goal

pub returns-in_err-list-in-Object : goal.returns-in_err-list-in-Object
returns-in_err-list-in-Object c =
    ap (option_map {U = List Data} (λ values. map view values.items)) c.from_residual.ensures ∙ object-list c.args.key.now c.args.value c.in-Object.members None c.in-Object.is c.in_err-list-in-Object.ensures.value

pub returns-in-Object : goal.returns-in-Object
returns-in-Object c = c.values_of.ensures ∙ object-list c.args.key.now c.args.value c.in-Object.members (Some c.in_ok-list-in-Object.list) c.in-Object.is c.in_ok-list-in-Object.ensures.value
