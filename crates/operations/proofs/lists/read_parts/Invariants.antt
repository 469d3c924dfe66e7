use Rattle.std.proofs.Common.{◌≡◌, ◌++◌, drop}
use Rattle.std.specs.Option.{option_map}
use Rattle.serde_json.specs.View.{items_view}
use Rattle.strict.specs.Strict.{all_in}
use Rattle.operations.proofs.lists.read_parts.Given as goal

-- what is read with what is left is all
abbrev pub invariant-loop-value : goal.invariant-loop-value
invariant-loop-value g l = option_map (λ rest. l.parts ++ rest) (all_in g.T.Readable.reading (items_view (drop l.value-index l.values))) ≡ all_in g.T.Readable.reading (items_view l.values)
