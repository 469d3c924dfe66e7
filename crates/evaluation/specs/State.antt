-- What the instructions of a stage so far leave to those after them: what names have values, and the configuration. What a stage begins
-- with.
use Rattle.std.specs.Prelude.{List, [], map, Option, Some, None, slice_index_or}
use Rattle.std.specs.FinMap.{get}
use Rattle.llb.specs.declared.op.Source.{Source}
use Rattle.llb.specs.declared.op.Source.TheVariants.{Scratch, Context, Image}
use Rattle.plans.specs.Images.{ImagesValue}
use Rattle.plans.specs.declared.images.Image as image
use Rattle.rows.specs.declared.row.Origin.{Origin}
use Rattle.rows.specs.declared.row.Origin.TheVariants.{Source as SourceOf, Stage as StageOf}
use Rattle.scopes.specs.Evaluate.{declaration_of}
use Rattle.scopes.specs.Scope.{kept}
use Rattle.imageconfig.specs.Environment.{variables_of}
use Rattle.imageconfig.specs.Reading.{plain}
use Rattle.imageconfig.specs.Steps.{child_of}
use Rattle.imageconfig.specs.declared.config.Config.{Config}
use Rattle.evaluation.specs.declared.state.State.{State}

-- what a stage from the empty tree begins with: no name has a value, and the configuration is the plain one (own)
abbrev pub bare_state : State
bare_state = record { scope = []; config = plain }

-- what a stage from an image begins with: the image's environment, as if ENVs had set it, and its configuration (Dockerfile reference,
-- FROM and ENV)
abbrev pub image_state : Config → State
image_state config = record { scope = kept (map declaration_of (variables_of config.env)); config = child_of config }

-- what a stage from a stage begins with: what names have values at that one's end, ARGs among them, and its configuration (own)
abbrev pub stage_state : State → State
stage_state state = record { scope = state.scope; config = child_of state.config }

-- what a stage from an image begins with that may be there
abbrev pub found_state : Option (image.Image Config) → State
found_state None = bare_state
found_state (Some found) = image_state found.config

-- what a stage from a stage begins with that may have been evaluated
abbrev pub ended_state : Option State → State
ended_state None = bare_state
ended_state (Some state) = stage_state state

-- what a stage from a source begins with
abbrev pub source_state : ImagesValue Config → Source → State
source_state images Scratch = bare_state
source_state images Context = bare_state
source_state images (Image name) = found_state (get images name)

-- what a stage begins with, `states` being what each earlier stage leaves, and none for one that isn't needed (Dockerfile reference, FROM)
abbrev pub start : ImagesValue Config → List (Option State) → Origin → State
start images states (SourceOf source) = source_state images source
start images states (StageOf number) = ended_state (slice_index_or states number None)
