-- The images that a file names, whichever the build is given (own).
use Rattle.std.specs.Prelude.{◌++◌, ◌&&◌, ℕ, Bool, false, List, [], ◌∷◌, map, Option, Some, None, is_some, if◌then◌else◌}
use Rattle.std.specs.List.{cons_option, filter_map}
use Rattle.std.specs.Option.{is_none}
use Rattle.std.specs.Str.{all_ascii_digits}
use Rattle.expand.specs.Value.{Parts}
use Rattle.instructions.specs.declared.instruction.Argument.{Argument}
use Rattle.instructions.specs.Instruction.{Instruction}
use Rattle.instructions.specs.declared.instruction.InstructionKind.{InstructionKind}
use Rattle.llb.specs.WellFormed.{is_well_formed_source}
use Rattle.llb.specs.declared.op.Source.TheVariants.{Image}
use Rattle.scopes.specs.Evaluate.{Values}
use Rattle.scopes.specs.declared.declaration.Declaration.{Declaration}
use Rattle.stages.specs.Naming.{Names, Reference, to_context, by_flag, by_mount, stage_called, references}
use Rattle.stages.specs.Before.{begun, declared_by, stage_names, all_but_last, outer_scope}
use Rattle.stages.specs.Due.{base_text, outer_fault}
use Rattle.stages.specs.declared.image_name.ImageName.{ImageName}

-- a text, where it is the name of an image: it isn't empty or `scratch`, and no stage of these names is called so (Dockerfile reference, FROM)
abbrev pub image_text : Names → List ℕ → Option (List ℕ)
image_text names text = if is_none (stage_called names text) && is_well_formed_source (Image text) then Some text else None

-- the image that a FROM names after stages of these names, by its text, if it has one
abbrev pub base_image : Names → Option (List ℕ) → Option (List ℕ)
base_image names None = None
base_image names (Some text) = image_text names text

-- the image that a reference names from a stage, where these are the names of the stages before it. Digits in a `--from` are a stage's
-- number (Dockerfile reference, COPY and RUN --mount)
abbrev pub reference_image : Names → Reference → Option (List ℕ)
reference_image names to_context = None
reference_image names (by_flag text) = if all_ascii_digits text then None else image_text names text
reference_image names (by_mount text) = image_text names text

-- the images that an instruction names, which begins this stage or none
abbrev pub images_by : List Declaration → Names → InstructionKind → Option (Parts × Option (List ℕ)) → List (List ℕ)
images_by scope names kind (Some stage) = cons_option (base_image names (base_text scope stage.0)) []
images_by scope names kind None = filter_map (reference_image (all_but_last names)) (references kind)

-- the images that an instruction names, after stages of these names and with this scope of the ARGs before the first FROM
abbrev pub images_at : List Declaration → Names → InstructionKind → List (List ℕ)
images_at scope names kind = images_by scope names kind (begun kind)

-- names of images on a line
abbrev pub on_line : ℕ → List (List ℕ) → List ImageName
on_line line names = map (λ name. record { name = name; line = line }) names

-- an ARG after stages of these names stands before the first FROM, and one of its texts has no value, so that it is refused
abbrev pub is_refused_argument : Values → List Declaration → Names → Option (List Argument) → Bool
is_refused_argument args scope [] declared = is_some (outer_fault args scope declared)
is_refused_argument args scope (name ∷ names) declared = false

-- the images that some instructions name after those before them. Each is judged in its place, whatever is refused; but after an ARG before
-- the first FROM that is refused no line has a scope to be judged by, so none of them names an image (own)
abbrev pub image_names_after : Values → List Instruction → List Instruction → List ImageName
image_names_after args before [] = []
image_names_after args before (i ∷ is) =
    on_line i.line (images_at (outer_scope args before) (stage_names before) i.kind)
    ++ (if is_refused_argument args (outer_scope args before) (stage_names before) (declared_by i.kind) then [] else image_names_after args (before ++ i ∷ []) is)

-- the images that the instructions of a file name with these build arguments, by FROM, `--from` or a mount's `from`, each with its line: in
-- the order of the file, and each as often as it is named (own)
abbrev pub image_names_of : Values → List Instruction → List ImageName
image_names_of args is = image_names_after args [] is
