-- The rows of a file (own).
use Rattle.std.specs.Prelude.{List, [], ◌∷◌, Option, Some, None}
use Rattle.rows.specs.declared.row.Origin.{Origin}
use Rattle.rows.specs.declared.row.Stage.{Stage}

-- the rows of a file: its stages by their numbers; none for one that the target doesn't need, which is left out
abbrev pub Rows : Type 0
Rows = List (Option Stage)

-- what a COPY names: a tree, or none where all that it copies stands in the file
abbrev pub listed : Option Origin → List Origin
listed None = []
listed (Some origin) = origin ∷ []
