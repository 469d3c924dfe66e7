-- The stages of a file with what their names lead to, as a function of its instructions.
use Rattle.std.specs.Prelude.{◌≡◌, ◌<◌, ◌≤◌, ◌++◌, ℕ, true, List, [], ◌∷◌, map, Option, Some, None, IsTrue, option_map, length, slice_get, Contains}
use Rattle.std.specs.List.{All, cons_option, list_all}
use Rattle.std.specs.Option.{unwrap_or}
use Rattle.plain.specs.Limits.{most_lines, most_stages}
use Rattle.options.specs.declared.copy.CopyFlags.{CopyFlags}
use Rattle.expand.specs.Value.{Parts}
use Rattle.instructions.specs.Instruction.{is_files, IsInstruction}
use Rattle.instructions.specs.Instruction.{Instruction}
use Rattle.instructions.specs.declared.instruction.InstructionKind.TheVariants.{Copy}
use Rattle.instructions.specs.declared.instruction.Source.{Source}
use Rattle.llb.specs.Places.{AreLines}
use Rattle.llb.specs.WellFormed.{is_well_formed_source}
use Rattle.llb.specs.declared.op.Source.TheVariants.{Scratch, Context, Image}
use Rattle.rows.specs.declared.row.Origin.{Origin}
use Rattle.rows.specs.declared.row.Origin.TheVariants.{Source as SourceOf, Stage as StageOf}
use Rattle.scopes.specs.Evaluate.{Values}
use Rattle.scopes.specs.declared.declaration.Declaration.{Declaration}
use Rattle.stages.specs.declared.stage.ResolvedInstruction.{ResolvedInstruction}
use Rattle.stages.specs.declared.stage.ResolvedStage.{ResolvedStage}
use Rattle.stages.specs.Naming.{Names, Known, references, origins_of}
use Rattle.stages.specs.Before.{begun, name_begun, stage_names, outer_scope}
use Rattle.stages.specs.Due.{base_text, base_found}

-- the scope of the ARGs before the first FROM, and the stages by their numbers, with their names
pub record StagesValue : Type 0 where
  pub outer : List Declaration
  pub names : Names
  pub stages : List ResolvedStage

-- the scope of the ARGs before the first FROM, the stages by their numbers, and the number of the target
pub record TableValue : Type 0 where
  pub outer : List Declaration
  pub stages : List ResolvedStage
  pub target : ℕ

-- stages with one of them as the target
abbrev pub targeted : StagesValue → ℕ → TableValue
targeted stages target = record { outer = stages.outer; stages = stages.stages; target = target }

-- what a stage begins with; if its text has no value or leads nowhere, its file is refused, and the empty tree stands for it
abbrev pub base_of : Known → List Declaration → Names → Parts → Origin
base_of known scope names image = unwrap_or (base_found known names (base_text scope image)) (SourceOf Scratch)

-- an instruction before those that follow it in its stage; none of them is in the stage where it begins another one
abbrev pub unless_begun : Option (Parts × Option (List ℕ)) → ResolvedInstruction → List ResolvedInstruction → List ResolvedInstruction
unless_begun (Some stage) first more = []
unless_begun None first more = first ∷ more

-- the instructions of a stage: those that follow its FROM up to the next one, where these are the names of the stages before it
-- (Dockerfile reference, FROM)
abbrev pub stage_instructions : Known → Names → List Instruction → List ResolvedInstruction
stage_instructions known names [] = []
stage_instructions known names (i ∷ is) =
    unless_begun (begun i.kind) (record { instruction = i; origins = origins_of known names i.kind }) (stage_instructions known names is)

-- the stage that an instruction begins, if it is a FROM, with the instructions that follow
abbrev pub stage_begun : Known → List Declaration → Names → Instruction → List Instruction → Option ResolvedStage
stage_begun known scope names i is = option_map
    (λ stage. record { line = i.line; base = base_of known scope names stage.0; instructions = stage_instructions known names is }) (begun i.kind)

-- the stages that some instructions begin, after stages of these names, with this scope of the ARGs before the first FROM
abbrev pub stages_after : Known → List Declaration → Names → List Instruction → List ResolvedStage
stages_after known scope names [] = []
stages_after known scope names (i ∷ is) =
    cons_option (stage_begun known scope names i is) (stages_after known scope (names ++ cons_option (name_begun i) []) is)

-- the stages of a file, with these images and build arguments
abbrev pub stages_of : Known → Values → List Instruction → List ResolvedStage
stages_of known args is = stages_after known (outer_scope args is) [] is

-- the stages of a file, with their names and the scope of the ARGs before the first FROM
abbrev pub stages_in : Known → Values → List Instruction → StagesValue
stages_in known args is = record { outer = outer_scope args is; names = stage_names is; stages = stages_of known args is }

-- the lines of a stage: that of its FROM, and those of its instructions
abbrev pub stage_lines : ResolvedStage → List ℕ
stage_lines stage = stage.line ∷ map (λ r. r.instruction.line) stage.instructions

-- the lines of some stages
abbrev pub lines_of : List ResolvedStage → List ℕ
lines_of [] = []
lines_of (stage ∷ stages) = stage_lines stage ++ lines_of stages

-- what the stage of this number may name: a well-formed source, and a stage before it
abbrev pub IsBefore : ℕ → Origin → Type 0
IsBefore number (SourceOf source) = IsTrue (is_well_formed_source source)
IsBefore number (StageOf other) = other < number

-- an instruction of the stage of this number is whole, begins no stage, and has one origin for each tree that it names: one for a COPY, one
-- for each bind of a RUN, and none for another. No source of a COPY from a stage is a heredoc
pub record IsResolved (number : ℕ) (r : ResolvedInstruction) : Type 0 where
  pub whole : IsInstruction r.instruction.kind
  pub inner : begun r.instruction.kind ≡ None
  pub count : length r.origins ≡ length (references r.instruction.kind)
  pub before : All (IsBefore number) r.origins
  pub patterns : (sources : List Source) (destination : Parts) (flags : CopyFlags) (other : ℕ) → r.instruction.kind ≡ Copy sources destination flags
      → Contains r.origins (StageOf other) → list_all is_files sources ≡ true

-- the stage of this number names only what it may, and its instructions are resolved
pub record IsStage (number : ℕ) (stage : ResolvedStage) : Type 0 where
  pub base : IsBefore number stage.base
  pub instructions : All (IsResolved number) stage.instructions

-- what each table keeps: its target is one of its stages, of which there are at most as many as a file may have; each is a stage in its
-- place; lines ascend, and there are at most as many as a file may have
pub record IsTable (table : TableValue) : Type 0 where
  pub has_target : table.target < length table.stages
  pub few : length table.stages ≤ most_stages
  pub each : (number : ℕ) (stage : ResolvedStage) → slice_get table.stages number ≡ Some stage → IsStage number stage
  pub lines : AreLines (lines_of table.stages)
  pub short : length (lines_of table.stages) ≤ most_lines

-- what all stages of a file keep: there is one, each has a name or none, and with each of them as the target they are a table
pub record AreStages (stages : StagesValue) : Type 0 where
  pub some : 0 < length stages.stages
  pub named : length stages.names ≡ length stages.stages
  pub each : (target : ℕ) → target < length stages.stages → IsTable (targeted stages target)

-- an image that is named is one that the build was given
abbrev pub IsKnown : Known → Origin → Type 0
IsKnown known (SourceOf Scratch) = Unit {0}
IsKnown known (SourceOf Context) = Unit {0}
IsKnown known (SourceOf (Image name)) = IsTrue (known name)
IsKnown known (StageOf number) = Unit {0}

-- all images that a stage names are known
pub record NamesKnown (known : Known) (stage : ResolvedStage) : Type 0 where
  pub base : IsKnown known stage.base
  pub instructions : All (λ (r : ResolvedInstruction). All (IsKnown known) r.origins) stage.instructions
