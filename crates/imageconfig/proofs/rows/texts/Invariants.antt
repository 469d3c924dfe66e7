use Rattle.std.proofs.Common.{◌≡◌, ◌++◌, map}
use Rattle.serde_json.specs.View.{view}
use Rattle.imageconfig.specs.Writing.{variable_data}
use Rattle.imageconfig.proofs.rows.texts.Given as goal

abbrev pub invariant-loop-name : goal.invariant-loop-name
invariant-loop-name l = map view l.values.items ++ map variable_data l.name-iterator ≡ map variable_data l.initial.name-iterator
