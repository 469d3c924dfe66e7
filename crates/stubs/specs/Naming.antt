-- The images that a bundle's Dockerfile names, and those of them that the bundle lacks (own).
use Rattle.std.specs.Prelude.{◌≡◌, ◌⊎◌, ℕ, Bool, List, [], filter, map}
use Rattle.std.specs.FinMap.{get}
use Rattle.std.specs.Option.{is_none}
use Rattle.plain.specs.declared.refusal.Refusal.{Refusal}
use Rattle.plans.specs.Images.{ImagesValue}
use Rattle.instructions.specs.Instruction.{Instruction}
use Rattle.scopes.specs.Evaluate.{Values}
use Rattle.dockerfile.specs.Dockerfile.{AreInstructions, IsRefused}
use Rattle.stages.specs.ImageNames.{image_names_of}
use Rattle.stages.specs.declared.image_name.ImageName.{ImageName}
use Rattle.imageconfig.specs.Rows.{add_names}
use Rattle.imageconfig.specs.declared.config.Config.{Config}
use Rattle.bundle.specs.declared.whole.Bundle.{Bundle}

-- the images that a text names with these build arguments: those that its instructions name; one that is refused names none
abbrev pub AreNamedIn : List ℕ → Values → List ImageName → Type 0
AreNamedIn text args names =
    ((is : List Instruction) × AreInstructions text is × (names ≡ image_names_of args is))
    ⊎ ((refusal : Refusal) × IsRefused text refusal × (names ≡ []))

-- the images that a bundle's Dockerfile names with the bundle's build arguments: each with its line, in the order of the file, and as often as it
-- is named
abbrev pub AreNamed : Bundle Config → List ImageName → Type 0
AreNamed bundle names = AreNamedIn bundle.dockerfile (get bundle.args) names

-- no image has the name that is asked for
abbrev pub is_lacked : ImagesValue Config → ImageName → Bool
is_lacked images named = is_none (get images named.name)

-- those of the images that a bundle's Dockerfile names which the bundle lacks, in the same order
abbrev pub AreMissing : Bundle Config → List ImageName → Type 0
AreMissing bundle missing = (names : List ImageName) × AreNamed bundle names × (missing ≡ filter (is_lacked bundle.images) names)

-- the names of images, each once, in the order in which they come first
abbrev pub each_once : List ImageName → List (List ℕ)
each_once names = add_names [] (map (λ named. named.name) names)
