use Rattle.std.proofs.Common.{◌≡◌, take}
use Rattle.std.specs.Prelude.{fold}
use Rattle.std.specs.List.{flat_map}
use Rattle.std.specs.Hash.DefaultHasher as sip
use Rattle.plain.specs.Hash.{variable_writes}
use Rattle.plain.specs.Variable.{HaveNames}
use Rattle.plain.proofs.variables.write_rows.Given as goal

-- after the number of variables, those so far are written, and what they are called are names
abbrev pub invariant-loop-row : goal.invariant-loop-row
invariant-loop-row l = (l.state ≡ fold sip.write l.initial.state (flat_map variable_writes (take l.row-index l.rows)))
    × HaveNames (take l.row-index l.rows)
