use Rattle.std.proofs.Common.{sym, map, ◌∙◌}
use Rattle.std.proofs.lemmas.List.{length-map}
use Rattle.serde_json.specs.View.{view}
use Rattle.definition.specs.Lines.{operation_in}
use Rattle.definition.proofs.ShapeFacts.{parts-few, parts-of, end-fault}
use Rattle.definition.proofs.reading.read.Goals as goal

pub read_operations-requires : goal.read_operations-requires
read_operations-requires c =
    parts-few _ _ _ _ c.in-Some.ensures (sym (length-map (map view c.in-Some.parts.operations.items) (operation_in c.in-Some.parts.says_lines) ∙ length-map c.in-Some.parts.operations.items view))

pub returns-in-Ok : goal.returns-in-Ok
returns-in-Ok c = end-fault _ _ _ _ c.in-Err-read_end.fault (parts-of _ _ _ c.in-Ok.ensures.ok c.in-Some.ensures) c.in_ok-known-in-Ok.ensures c.in-Err-read_end.ensures
