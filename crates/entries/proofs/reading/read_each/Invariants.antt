use Rattle.std.proofs.Common.{◌≡◌, ◌++◌, drop}
use Rattle.std.specs.Option.{option_map}
use Rattle.strict.specs.Strict.{all_in}
use Rattle.borrowed.specs.Lent.{items_data}
use Rattle.entries.specs.Reading.{row_in}
use Rattle.entries.proofs.reading.read_each.Given as goal

-- what is read with what is left is all
abbrev pub invariant-loop-value : goal.invariant-loop-value
invariant-loop-value l = option_map (λ rest. l.rows ++ rest) (all_in row_in (items_data (drop l.value-index l.values))) ≡ all_in row_in (items_data l.values)
