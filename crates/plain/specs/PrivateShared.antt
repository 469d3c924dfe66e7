-- The variables that copies of an environment share (own).
use Rattle.std.specs.Prelude.{List, [], Option, Some, None}
use Rattle.std.specs.Arc.{arc_value}
use Rattle.std.specs.declared.sync.Arc.{Arc}
use Rattle.plain.specs.declared.variable.Variable.{Variable}

-- the variables, if there are any; none take no memory (own)
abbrev pub variables_of : {Z : Type 0} → Option (Arc (List Variable) Z) → List Variable
variables_of (Some shared) = arc_value shared
variables_of None = []
