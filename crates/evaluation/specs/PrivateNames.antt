-- Names of variables that an environment may have.
use Rattle.std.specs.Prelude.{◌≡◌, true, Option, Some, None}
use Rattle.std.specs.List.{list_all}
use Rattle.std.specs.FinMap.{get}
use Rattle.llb.specs.declared.op.Source.{Source}
use Rattle.llb.specs.declared.op.Source.TheVariants.{Scratch, Context, Image}
use Rattle.plans.specs.Images.{ImagesValue}
use Rattle.plans.specs.declared.images.Image as image
use Rattle.rows.specs.declared.row.Origin.{Origin}
use Rattle.rows.specs.declared.row.Origin.TheVariants.{Source as SourceOf, Stage as StageOf}
use Rattle.plain.specs.VariableName.{is_variable_name}
use Rattle.scopes.specs.Scope.{names_in}
use Rattle.imageconfig.specs.Environment.{IsEnvironment}
use Rattle.imageconfig.specs.declared.config.Config.{Config}
use Rattle.evaluation.specs.declared.state.State.{State}

-- all names that are declared are such
abbrev pub HasNames : State → Type 0
HasNames state = list_all is_variable_name (names_in state.scope) ≡ true

-- the names of an image's environment are such, and differ, if the image is there
abbrev pub HasFoundNames : Option (image.Image Config) → Type 0
HasFoundNames None = Unit {0}
HasFoundNames (Some found) = IsEnvironment found.config.env

-- the same of a source that may be an image
abbrev pub IsProperSource : ImagesValue Config → Source → Type 0
IsProperSource images Scratch = Unit {0}
IsProperSource images Context = Unit {0}
IsProperSource images (Image name) = HasFoundNames (get images name)

-- the same of what a stage begins with
abbrev pub IsProperBase : ImagesValue Config → Origin → Type 0
IsProperBase images (SourceOf source) = IsProperSource images source
IsProperBase images (StageOf number) = Unit {0}
