-- A line of an ignore file, and the paths that it relates to (.dockerignore rules).
use Rattle.std.specs.Prelude.{◌≡◌, ℕ, Bool, true, false, List}
use Rattle.globs.specs.Component.{relates_to_name}
use Rattle.globs.specs.Cut.{CanBeCut}
use Rattle.ignorefile.specs.declared.line.Segment.{Segment}
use Rattle.ignorefile.specs.declared.line.Segment.TheVariants.{Deep, Named}
use Rattle.ignorefile.specs.declared.line.Line.{Line}

-- a segment that takes any names, also none: `**`
abbrev pub is_deep : Segment → Bool
is_deep Deep = true
is_deep (Named parts) = false

-- a segment that takes one name holds of this one
abbrev pub holds : Segment → List ℕ → Bool
holds Deep name = false
holds (Named parts) name = relates_to_name parts name

-- a line relates to a path: the path's names can be cut so that each segment relates to its piece
abbrev pub Relates : Line → List (List ℕ) → Type 0
Relates line path = CanBeCut is_deep (λ segment name. holds segment name ≡ true) line.segments path
