-- What the names in a Dockerfile lead to.
use Rattle.std.specs.Prelude.{◌+◌, ◌&&◌, ℕ, Bool, false, List, [], ◌∷◌, Option, Some, None, option_map, option_and_then, is_some, length, nat_eq, nat_lt, if◌then◌else◌}
use Rattle.std.specs.List.{filter_map, list_any}
use Rattle.std.specs.FinMap.{get}
use Rattle.std.specs.Option.{option_or, is_none}
use Rattle.std.specs.Str.{str_eq_ignore_ascii_case, all_ascii_digits}
use Rattle.std.specs.Cmp.Lexicographic.{pointwise}
use Rattle.ascii.specs.Numbers.{decimal_of}
use Rattle.options.specs.declared.mount.MountKind.{MountKind}
use Rattle.options.specs.declared.mount.MountKind.TheVariants.{Bind, Cache}
use Rattle.instructions.specs.declared.instruction.InstructionKind.{InstructionKind}
use Rattle.instructions.specs.declared.instruction.InstructionKind.TheVariants.{From, Arg, Env, Label, Expose, User, Workdir, StopSignal, Volume, Shell, Cmd, Entrypoint, Run, Copy}
use Rattle.llb.specs.WellFormed.{scratch_name, is_well_formed_source}
use Rattle.llb.specs.declared.op.Source.TheVariants.{Scratch, Context, Image}
use Rattle.plans.specs.Images.{ImagesValue}
use Rattle.rows.specs.declared.row.Origin.{Origin}
use Rattle.rows.specs.declared.row.Origin.TheVariants.{Source as SourceOf, Stage as StageOf}

-- the names of stages by their numbers, which count from 0; none for a stage without a name
abbrev pub Names : Type 0
Names = List (Option (List ℕ))

-- which texts are names of images that the build was given
abbrev pub Known : Type 0
Known = List ℕ → Bool

-- a stage has this name, whatever the case of ASCII letters (Dockerfile reference, FROM; own for the case)
abbrev pub is_called : List ℕ → Option (List ℕ) → Bool
is_called text None = false
is_called text (Some name) = str_eq_ignore_ascii_case name text

-- the number of the first of some stages that has a name, where the first of them has this number
abbrev pub called_from : ℕ → Names → List ℕ → Option ℕ
called_from number [] text = None
called_from number (name ∷ names) text = if is_called text name then Some number else called_from (number + 1) names text

-- the number of the first of some stages that has a name
abbrev pub stage_called : Names → List ℕ → Option ℕ
stage_called names text = called_from 0 names text

-- a number that is one of so many stages'
abbrev pub within : ℕ → ℕ → Option ℕ
within count number = if nat_lt number count then Some number else None

-- the number that decimal digits write, where it is that of one of some stages (Dockerfile reference, COPY --from)
abbrev pub stage_numbered : Names → List ℕ → Option ℕ
stage_numbered names text = option_and_then (within (length names)) (decimal_of text)

-- one of some stages, by its number in decimal digits, else by its name (Dockerfile reference, COPY --from; that all digits are a number
-- and never a name: own)
abbrev pub stage_found : Names → List ℕ → Option ℕ
stage_found names text = if all_ascii_digits text then stage_numbered names text else stage_called names text

-- the image of exactly this name, where there is one; the empty text and `scratch` are names of no image
abbrev pub image_named : Known → List ℕ → Option Origin
image_named known text = if known text && is_well_formed_source (Image text) then Some (SourceOf (Image text)) else None

-- one of some stages by its name, else an image (Dockerfile reference, RUN --mount=type=bind)
abbrev pub stage_or_image : Known → Names → List ℕ → Option Origin
stage_or_image known names text = option_or (option_map StageOf (stage_called names text)) (image_named known text)

-- what a text leads to in a FROM when no stage has it as its name: `scratch` to the empty tree, another to the image of that name
abbrev pub scratch_or_image : Known → List ℕ → Option Origin
scratch_or_image known text = if pointwise nat_eq text scratch_name then Some (SourceOf Scratch) else image_named known text

-- what the text of a FROM leads to: one of the stages before, by its name; else `scratch`, the empty tree; else the image of exactly that
-- name; none where there is none. Digits are a name here (Dockerfile reference, FROM; the order: own)
abbrev pub base_named : Known → Names → List ℕ → Option Origin
base_named known names text = option_or (option_map StageOf (stage_called names text)) (scratch_or_image known text)

-- how an instruction of a stage names a tree: by nothing, for the context; by the text of `--from`; by the text of a mount's `from`
pub data Reference : Type 0 where
  to_context : Reference
  by_flag : List ℕ → Reference
  by_mount : List ℕ → Reference

-- what a COPY names, its sources being looked for there
abbrev pub copy_reference : Option (List ℕ) → Reference
copy_reference None = to_context
copy_reference (Some text) = by_flag text

-- what a bind names
abbrev pub bind_reference : Option (List ℕ) → Reference
bind_reference None = to_context
bind_reference (Some text) = by_mount text

-- what a mount names, if it names a tree: a cache names none
abbrev pub mount_reference : MountKind → Option Reference
mount_reference (Bind source from writable) = Some (bind_reference from)
mount_reference (Cache id sharing) = None

-- the trees that an instruction names beside that of its stage, in the order of the line: that of a COPY's sources, those of a RUN's
-- binds (Dockerfile reference, COPY and RUN --mount)
abbrev pub references : InstructionKind → List Reference
references (From image name) = []
references (Arg arguments) = []
references (Env assignments) = []
references (Label labels) = []
references (Expose ports) = []
references (User user) = []
references (Workdir path) = []
references (StopSignal signal) = []
references (Volume paths) = []
references (Shell words) = []
references (Cmd command) = []
references (Entrypoint command) = []
references (Run mounts command) = filter_map (λ m. mount_reference m.kind) mounts
references (Copy sources destination flags) = copy_reference flags.from ∷ []

-- what a reference leads to from a stage, where these are the names of the stages before it; none where there is no such tree: so its own
-- stage and later ones are never found. `--from` names a stage by its number too, a mount by its name alone (Dockerfile reference, COPY
-- and RUN --mount; that a mount knows no numbers: own)
abbrev pub led_to : Known → Names → Reference → Option Origin
led_to known names to_context = Some (SourceOf Context)
led_to known names (by_flag text) = if all_ascii_digits text then option_map StageOf (stage_numbered names text) else stage_or_image known names text
led_to known names (by_mount text) = stage_or_image known names text

-- what an instruction's references lead to, one for each where they all lead somewhere
abbrev pub origins_of : Known → Names → InstructionKind → List Origin
origins_of known names kind = filter_map (led_to known names) (references kind)

-- one of an instruction's references leads nowhere
abbrev pub leads_nowhere : Known → Names → InstructionKind → Bool
leads_nowhere known names kind = list_any (λ reference. is_none (led_to known names reference)) (references kind)

-- the texts that are names of some images
abbrev pub names_in : {C : Type 0} → ImagesValue C → Known
names_in images name = is_some (get images name)
