-- The chain of bases of a stage, and what its ENV and ARG lines say, base first.
use Rattle.std.specs.Prelude.{◌≡◌, ℕ, List, [], ◌∷◌, ◌++◌, map, Option, Some, None, slice_get}
use Rattle.std.specs.FinMap.{get}
use Rattle.llb.specs.declared.op.Source.{Source}
use Rattle.llb.specs.declared.op.Source.TheVariants.{Scratch, Context, Image}
use Rattle.plans.specs.Images.{ImagesValue}
use Rattle.plans.specs.declared.images.Image as image
use Rattle.rows.specs.declared.row.Origin.TheVariants.{Source as SourceOf, Stage as StageOf}
use Rattle.instructions.specs.declared.instruction.InstructionKind.{InstructionKind}
use Rattle.instructions.specs.declared.instruction.InstructionKind.TheVariants.{Arg, Env}
use Rattle.scopes.specs.Evaluate.{Values, declaration_of}
use Rattle.scopes.specs.History.{ScopeLine, sets, declares, history}
use Rattle.scopes.specs.declared.declaration.Declaration.{Declaration}
use Rattle.stages.specs.declared.stage.ResolvedInstruction.{ResolvedInstruction}
use Rattle.stages.specs.declared.stage.ResolvedStage.{ResolvedStage}
use Rattle.imageconfig.specs.Environment.{variables_of}
use Rattle.imageconfig.specs.declared.config.Config.{Config}

-- the chain of bases of a stage: the stage that its FROM names, the one that that one's names, and so on, down to one that begins with no
-- stage but with this source (Dockerfile reference, FROM)
abbrev pub IsChain : List ResolvedStage → ResolvedStage → List ResolvedStage → Source → Type 0
IsChain stages stage [] source = stage.base ≡ SourceOf source
IsChain stages stage (base ∷ below) source = ((number : ℕ) × (stage.base ≡ StageOf number) × (slice_get stages number ≡ Some base)) × IsChain stages base below source

-- what an instruction says of names, if it is an ENV or an ARG
abbrev pub line_of : InstructionKind → List ScopeLine
line_of (Arg arguments) = declares arguments ∷ []
line_of (Env assignments) = sets assignments ∷ []
line_of kind = []

-- the ENV and ARG lines among some instructions
abbrev pub scope_lines : List ResolvedInstruction → List ScopeLine
scope_lines [] = []
scope_lines (r ∷ rs) = line_of r.instruction.kind ++ scope_lines rs

-- those of a chain of bases, those of the lowest first
abbrev pub chain_lines : List ResolvedStage → List ScopeLine
chain_lines [] = []
chain_lines (base ∷ below) = chain_lines below ++ scope_lines base.instructions

-- what an image says of names, if it is there: its variables are as if ENVs had set them (Dockerfile reference, ENV)
abbrev pub found_says : Option (image.Image Config) → List Declaration
found_says None = []
found_says (Some found) = map declaration_of (variables_of found.config.env)

-- what a source says of names: an image what its environment says, the empty tree nothing
abbrev pub source_says : ImagesValue Config → Source → List Declaration
source_says images Scratch = []
source_says images Context = []
source_says images (Image name) = found_says (get images name)

-- all that is said of names before a line of a stage with this chain of bases, `before` being the stage's instructions before the line:
-- first what the image at the bottom says, then the lines of each stage of the chain, base first, then the stage's own, each line under
-- what was said before it. ARGs count as ENVs do: a stage from a stage has the values that names have at that one's end (Dockerfile reference, ENV
-- and environment replacement; ARGs over stages: own)
abbrev pub chain_history : Values → Values → ImagesValue Config → Source → List ResolvedStage → List ResolvedInstruction → List Declaration
chain_history args outer images source below before = history args outer (source_says images source) (chain_lines below ++ scope_lines before)
