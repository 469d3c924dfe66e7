use Rattle.std.proofs.Common.{◌≡◌, map, take}
use Rattle.std.specs.List.{AllByRecursion}
use Rattle.serde_json.specs.View.{view}
use Rattle.strict.proofs.writing.list_to_json.Given as goal

-- the values so far are those of the items so far
abbrev pub invariant-loop-item : goal.invariant-loop-item
invariant-loop-item g l = (map view l.values.items ≡ map g.T.ToJson.written (take l.item-index l.items)) × AllByRecursion g.T.ToJson.known (take l.item-index l.items)
