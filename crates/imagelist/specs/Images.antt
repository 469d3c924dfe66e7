-- The images that the stages of a file name (own, for a front end that fetches them before a build).
use Rattle.std.specs.Prelude.{◌≡◌, ◌⊎◌, ◌++◌, ◌+◌, ◌&&◌, ℕ, Bool, List, [], ◌∷◌, map, filter, Option, Some, None, bytes_eq, slice_get, Contains, if◌then◌else◌}
use Rattle.std.specs.List.{filter_map, list_any}
use Rattle.plain.specs.Marks.{is_marked}
use Rattle.llb.specs.declared.op.Source.TheVariants.{Scratch, Context, Image}
use Rattle.rows.specs.declared.row.Origin.{Origin}
use Rattle.rows.specs.declared.row.Origin.TheVariants.{Source as SourceOf, Stage as StageOf}
use Rattle.stages.specs.Needed.{stage_origins, IsNeeded}
use Rattle.stages.specs.declared.stage.ResolvedInstruction.{ResolvedInstruction}
use Rattle.stages.specs.declared.stage.ResolvedStage.{ResolvedStage}
use Rattle.imagelist.specs.declared.image_rows.ImageUse.{ImageUse}

-- a text is one of these
abbrev pub is_among : List (List ℕ) → List ℕ → Bool
is_among texts text = list_any (bytes_eq text) texts

-- of texts those that stand neither among these before them nor earlier among themselves
abbrev pub first_after : List (List ℕ) → List (List ℕ) → List (List ℕ)
first_after before [] = []
first_after before (text ∷ texts) =
    if is_among before text then first_after (before ++ text ∷ []) texts else text ∷ first_after (before ++ text ∷ []) texts

-- texts, each once, where it stands first
abbrev pub each_once : List (List ℕ) → List (List ℕ)
each_once texts = first_after [] texts

-- an image that an instruction names: by which name, on which line, and whether the instruction's stage is needed
pub record Naming : Type 0 where
  pub name : List ℕ
  pub line : ℕ
  pub needed : Bool

-- the name of an image, if that is what is named
abbrev pub image_name : Origin → Option (List ℕ)
image_name (SourceOf Scratch) = None
image_name (SourceOf Context) = None
image_name (SourceOf (Image name)) = Some name
image_name (StageOf number) = None

-- the images that the instruction of a line names, each once
abbrev pub namings_on : ℕ → Bool → List Origin → List Naming
namings_on line needed origins = map (λ name. record { name = name; line = line; needed = needed }) (each_once (filter_map image_name origins))

-- those that the instructions of a stage name after its FROM
abbrev pub namings_inside : Bool → List ResolvedInstruction → List Naming
namings_inside needed [] = []
namings_inside needed (r ∷ rs) = namings_on r.instruction.line needed r.origins ++ namings_inside needed rs

-- those that a stage names: by its FROM, by the `--from` of a COPY, and by the `from` of a RUN's mount (Dockerfile reference)
abbrev pub stage_namings : Bool → ResolvedStage → List Naming
stage_namings needed stage = namings_on stage.line needed (stage.base ∷ []) ++ namings_inside needed stage.instructions

-- those of stages, of which the first has this number and those that are marked are needed
abbrev pub namings_from : List Bool → ℕ → List ResolvedStage → List Naming
namings_from marks number [] = []
namings_from marks number (stage ∷ stages) = stage_namings (is_marked marks number) stage ++ namings_from marks (number + 1) stages

-- it is an image of this name that is named
abbrev pub is_of : List ℕ → Naming → Bool
is_of name naming = bytes_eq naming.name name

-- how an image is used: the lines of the instructions that name it, in the order of the file, and whether one of them is in a stage that is needed
abbrev pub use_of : List Naming → List ℕ → ImageUse
use_of namings name = record {
  lines = map (λ naming. naming.line) (filter (is_of name) namings);
  needed = list_any (λ naming. is_of name naming && naming.needed) namings;
}

-- the images that are named, each once, in the order in which they are named first, with how they are used
abbrev pub uses_of : List Naming → List (List ℕ × ImageUse)
uses_of namings = map (λ name. (name, use_of namings name)) (each_once (map (λ naming. naming.name) namings))

-- the images of a file's stages, of which those that are marked are needed
abbrev pub images_of : List Bool → List ResolvedStage → List (List ℕ × ImageUse)
images_of marks stages = uses_of (namings_from marks 0 stages)

-- a stage names an image: by its FROM, a `--from` or a mount's `from`
pub record NamesImage (stages : List ResolvedStage) (name : List ℕ) : Type 0 where
  pub number : ℕ
  pub stage : ResolvedStage
  pub there : slice_get stages number ≡ Some stage
  pub named : Contains (stage_origins stage) (SourceOf (Image name))

-- so does one that the target needs
pub record NeedsImage (stages : List ResolvedStage) (target : ℕ) (name : List ℕ) : Type 0 where
  pub number : ℕ
  pub stage : ResolvedStage
  pub there : slice_get stages number ≡ Some stage
  pub needed : IsNeeded stages target number
  pub named : Contains (stage_origins stage) (SourceOf (Image name))

-- the FROM of a stage on a line names an image
abbrev pub BeginsWith : ResolvedStage → List ℕ → ℕ → Type 0
BeginsWith stage name line = (stage.line ≡ line) × (stage.base ≡ SourceOf (Image name))

-- an instruction of a stage on a line names an image
pub record InstructionNames (stage : ResolvedStage) (name : List ℕ) (line : ℕ) : Type 0 where
  pub instruction : ResolvedInstruction
  pub there : Contains stage.instructions instruction
  pub on : instruction.instruction.line ≡ line
  pub named : Contains instruction.origins (SourceOf (Image name))

-- an instruction on a line of a stage names an image
pub record NamesOnLine (stages : List ResolvedStage) (name : List ℕ) (line : ℕ) : Type 0 where
  pub stage : ResolvedStage
  pub there : Contains stages stage
  pub names : BeginsWith stage name line ⊎ InstructionNames stage name line
