-- The lines of a stage as its configuration takes them, and the configuration that it begins with.
use Rattle.std.specs.Prelude.{List, [], ◌∷◌, Option, Some, None}
use Rattle.std.specs.FinMap.{get}
use Rattle.llb.specs.declared.op.Source.{Source}
use Rattle.llb.specs.declared.op.Source.TheVariants.{Scratch, Context, Image}
use Rattle.plans.specs.Images.{ImagesValue}
use Rattle.plans.specs.declared.images.Image as image
use Rattle.rows.specs.declared.row.Origin.{Origin}
use Rattle.rows.specs.declared.row.Origin.TheVariants.{Source as SourceOf, Stage as StageOf}
use Rattle.instructions.specs.Instruction.{Instruction}
use Rattle.scopes.specs.Evaluate.{Values}
use Rattle.scopes.specs.Scope.{value_in}
use Rattle.stages.specs.declared.stage.ResolvedInstruction.{ResolvedInstruction}
use Rattle.imageconfig.specs.Reading.{plain}
use Rattle.imageconfig.specs.Steps.{child_of}
use Rattle.imageconfig.specs.declared.config.Config.{Config}
use Rattle.evaluation.specs.Evaluated.{config_at}
use Rattle.evaluation.specs.Instruction.{after}
use Rattle.evaluation.specs.declared.state.State.{State}

-- instructions one after another, each beside what gives names their values before its line (Dockerfile reference, environment replacement)
abbrev pub in_scope : Values → Values → State → List ResolvedInstruction → List (Values × Instruction)
in_scope args outer s [] = []
in_scope args outer s (r ∷ rs) = (value_in s.scope, r.instruction) ∷ in_scope args outer (after args outer s r.instruction.kind) rs

-- the configuration that a stage from an image begins with, if the image is there: the image's (Dockerfile reference, FROM)
abbrev pub found_config : Option (image.Image Config) → Config
found_config None = plain
found_config (Some found) = child_of found.config

-- that of a stage from a source
abbrev pub source_config : ImagesValue Config → Source → Config
source_config images Scratch = plain
source_config images Context = plain
source_config images (Image name) = found_config (get images name)

-- that of a stage: its base's, which is an image's, or the plain one where it begins with the empty tree, or the one at the end of an earlier
-- stage; `states` are what the stages leave (Dockerfile reference, FROM)
abbrev pub base_config : ImagesValue Config → List (Option State) → Origin → Config
base_config images states (SourceOf source) = source_config images source
base_config images states (StageOf number) = child_of (config_at states number)
