-- How a component's pattern is kept.
use Rattle.std.specs.Prelude.{ℕ, List, [], ◌∷◌, ◌++◌}
use Rattle.globs.specs.declared.part.Part.{Part}
use Rattle.globs.specs.declared.part.Part.TheVariants.{AnyRun}
use Rattle.globs.specs.declared.component.Shape.{Shape}
use Rattle.globs.specs.declared.component.Shape.TheVariants.{Plain, Ending, Beginning, Parts}
use Rattle.globs.specs.Component.{plain_parts}

-- the parts of a `*` and of a plain text behind it
abbrev pub ending_parts : List ℕ → List Part
ending_parts text = AnyRun ∷ plain_parts text

-- the parts of a plain text and of a `*` behind it
abbrev pub beginning_parts : List ℕ → List Part
beginning_parts text = plain_parts text ++ AnyRun ∷ []

-- the parts of a component's pattern that is kept with this front
abbrev pub parts_in : List ℕ → Shape → List Part
parts_in front Plain = plain_parts front
parts_in front (Ending text) = ending_parts text
parts_in front Beginning = beginning_parts front
parts_in front (Parts parts end) = parts

-- what is known of the end of the names that it relates to
abbrev pub ending_in : List ℕ → Shape → List ℕ
ending_in front Plain = front
ending_in front (Ending text) = text
ending_in front Beginning = []
ending_in front (Parts parts end) = end
