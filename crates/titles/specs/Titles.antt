-- What an engine's progress calls the steps of a file (BuildKit, frontend/dockerfile/dockerfile2llb: `prefixCommand`, and `Dockerfile2LLB` where
-- it counts a stage's steps).
use Rattle.std.specs.Prelude.{ℕ, ◌+◌, ◌-◌, ◌==◌, List, [], ◌∷◌, ◌++◌, Option, Some, None, is_some, length, replicate, codes, slice_index_or, if◌then◌else◌}
use Rattle.std.specs.Fmt.{decimal}
use Rattle.std.specs.List.{repeat}
use Rattle.ascii.specs.Pieces.{behind_piece}
use Rattle.lines.specs.declared.line.Line.{Line}
use Rattle.instructions.specs.declared.instruction.InstructionKind.{InstructionKind}
use Rattle.instructions.specs.declared.instruction.InstructionKind.TheVariants.{From, Arg, Env, Label, Expose, User, Workdir, StopSignal, Volume, Shell, Cmd, Entrypoint, Run, Copy}
use Rattle.llb.specs.declared.op.Source.TheVariants.{Scratch, Context, Image}
use Rattle.rows.specs.declared.row.Origin.{Origin}
use Rattle.rows.specs.declared.row.Origin.TheVariants.{Source as SourceOf, Stage as StageOf}
use Rattle.stages.specs.Naming.{Names}
use Rattle.stages.specs.declared.stage.ResolvedInstruction.{ResolvedInstruction}
use Rattle.stages.specs.declared.stage.ResolvedStage.{ResolvedStage}

-- ---- steps

-- the word, in capitals, of an instruction that is a step: of those that give a tree
abbrev pub step_word : InstructionKind → Option (List ℕ)
step_word (From image name) = None
step_word (Arg arguments) = None
step_word (Env assignments) = None
step_word (Label labels) = None
step_word (Expose ports) = None
step_word (User user) = None
step_word (Workdir path) = Some (codes "WORKDIR")
step_word (StopSignal signal) = None
step_word (Volume paths) = None
step_word (Shell words) = None
step_word (Cmd command) = None
step_word (Entrypoint command) = None
step_word (Run mounts command) = Some (codes "RUN")
step_word (Copy sources destination flags) = Some (codes "COPY")

-- how many of some instructions are steps
abbrev pub step_count : List ResolvedInstruction → ℕ
step_count [] = 0
step_count (r ∷ rs) = if is_some (step_word r.instruction.kind) then 1 + step_count rs else step_count rs

-- how many steps a stage's base is: an image is one, and the empty tree and another stage are none
abbrev pub base_count : Origin → ℕ
base_count (SourceOf Scratch) = 0
base_count (SourceOf Context) = 0
base_count (SourceOf (Image name)) = 1
base_count (StageOf number) = 0

-- ---- texts

-- what a stage is called before its steps: its name, else its number; nothing where it is the only one
abbrev pub stage_title : ℕ → ℕ → Option (List ℕ) → List ℕ
stage_title count number (Some name) = if count == 1 then [] else name ++ codes " "
stage_title count number None = if count == 1 then [] else codes "stage-" ++ (decimal number ++ codes " ")

-- what the stage of this number is called, of stages of these names
abbrev pub called_at : Names → ℕ → ℕ → List ℕ
called_at names count number = stage_title count number (slice_index_or names number None)

-- what follows the word that an instruction begins with, by the number of its line. It stands as it is written (own: BuildKit replaces the
-- variables in it)
abbrev pub rest_at : List Line → ℕ → List ℕ
rest_at [] number = []
rest_at (line ∷ lines) number = if line.number == number then behind_piece line.text else rest_at lines number

-- the title of a step of this number in its stage, which has so many. The number is as wide as the greatest one
abbrev pub step_title : List ℕ → ℕ → ℕ → List ℕ → List ℕ → List ℕ
step_title called number total word rest =
    codes "[" ++ (called ++ (repeat (length (decimal total) - length (decimal number)) (codes " ") ++ (decimal number ++ (codes "/" ++ (decimal total ++ (codes "] " ++ (word ++ (codes " " ++ rest))))))))

-- ---- titles by the numbers of lines

-- titles of lines before this one, with its title
abbrev pub with_title : List (Option (List ℕ)) → ℕ → List ℕ → List (Option (List ℕ))
with_title titles line title = (titles ++ replicate (line - length titles) None) ++ Some title ∷ []

-- titles with that of an instruction, if it is a step, where `number` is the next step's
abbrev pub with_step : List Line → List ℕ → ℕ → ℕ → ℕ → Option (List ℕ) → List (Option (List ℕ)) → List (Option (List ℕ))
with_step lines called total number line None titles = titles
with_step lines called total number line (Some word) titles = with_title titles line (step_title called number total word (rest_at lines line))

-- titles with those of a stage's instructions, of whose steps so many stand before these
abbrev pub steps_titled : List Line → List ℕ → ℕ → ℕ → List ResolvedInstruction → List (Option (List ℕ)) → List (Option (List ℕ))
steps_titled lines called total before [] titles = titles
steps_titled lines called total before (r ∷ rs) titles =
    steps_titled lines called total (if is_some (step_word r.instruction.kind) then before + 1 else before) rs
    (with_step lines called total (before + 1) r.instruction.line (step_word r.instruction.kind) titles)

-- titles with those of a stage that is called so
abbrev pub stage_titled : List Line → List ℕ → ResolvedStage → List (Option (List ℕ)) → List (Option (List ℕ))
stage_titled lines called stage titles =
    steps_titled lines called (base_count stage.base + step_count stage.instructions) (base_count stage.base) stage.instructions titles

-- titles with those of stages, of which the first has this number and all are so many
abbrev pub stages_titled : List Line → Names → ℕ → ℕ → List ResolvedStage → List (Option (List ℕ)) → List (Option (List ℕ))
stages_titled lines names count number [] titles = titles
stages_titled lines names count number (stage ∷ stages) titles =
    stages_titled lines names count (number + 1) stages (stage_titled lines (called_at names count number) stage titles)

-- What progress calls each step of a file of these lines, by the number of its line; another line has no title. The stages have these names,
-- and stand in the order of the file, as their instructions do.
abbrev pub titles_of : List Line → Names → List ResolvedStage → List (Option (List ℕ))
titles_of lines names stages = stages_titled lines names (length stages) 0 stages []
