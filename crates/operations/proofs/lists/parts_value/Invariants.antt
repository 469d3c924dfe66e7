use Rattle.std.proofs.Common.{◌≡◌, map, take}
use Rattle.std.specs.List.{AllByRecursion}
use Rattle.serde_json.specs.View.{view}
use Rattle.operations.proofs.lists.parts_value.Given as goal

-- the values so far are those of the parts so far
abbrev pub invariant-loop-part : goal.invariant-loop-part
invariant-loop-part g l = (map view l.values.items ≡ map g.T.Writable.written (take l.part-index l.parts)) × AllByRecursion g.T.Writable.proper (take l.part-index l.parts)
