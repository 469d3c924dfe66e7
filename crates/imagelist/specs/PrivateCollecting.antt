-- What is known of the images that were named so far.
use Rattle.std.specs.Prelude.{◌++◌, ◌||◌, ℕ, Bool, List, [], ◌∷◌, Option, Some, None, bytes_eq, if◌then◌else◌}
use Rattle.std.specs.List.{filter_map}
use Rattle.rows.specs.declared.row.Origin.{Origin}
use Rattle.imagelist.specs.Images.{Naming, image_name, is_among}
use Rattle.imagelist.specs.declared.image_rows.ImageUse.{ImageUse}

-- the use of an image with one more, by the instruction of a later line
abbrev pub with_use : ImageUse → ℕ → Bool → ImageUse
with_use used line needed = record { lines = used.lines ++ line ∷ []; needed = used.needed || needed }

-- the use by one instruction
abbrev pub only_use : ℕ → Bool → ImageUse
only_use line needed = record { lines = line ∷ []; needed = needed }

-- images with one that is named later
abbrev pub with_naming : List (List ℕ × ImageUse) → Naming → List (List ℕ × ImageUse)
with_naming [] naming = (naming.name, only_use naming.line naming.needed) ∷ []
with_naming (row ∷ rows) naming =
    if bytes_eq naming.name row.0 then (row.0, with_use row.1 naming.line naming.needed) ∷ rows else row ∷ with_naming rows naming

-- images with those that are named later, one after another
abbrev pub with_namings : List (List ℕ × ImageUse) → List Naming → List (List ℕ × ImageUse)
with_namings rows [] = rows
with_namings rows (naming ∷ namings) = with_namings (with_naming rows naming) namings

-- images with one that the instruction of a later line names, if it is one, unless it is among those that the line named before
abbrev pub with_image : List (List ℕ × ImageUse) → ℕ → Bool → List (List ℕ) → Option (List ℕ) → List (List ℕ × ImageUse)
with_image rows line needed before None = rows
with_image rows line needed before (Some name) =
    if is_among before name then rows else with_naming rows (record { name = name; line = line; needed = needed })

-- images with those that the instruction of a later line names after these
abbrev pub with_origins : List (List ℕ × ImageUse) → ℕ → Bool → List Origin → List Origin → List (List ℕ × ImageUse)
with_origins rows line needed before [] = rows
with_origins rows line needed before (origin ∷ origins) =
    with_origins (with_image rows line needed (filter_map image_name before) (image_name origin)) line needed (before ++ origin ∷ []) origins
