-- The warnings of a file: what means one thing here and another in BuildKit, line by line.
use Rattle.std.specs.Prelude.{◌≡◌, ◌⊎◌, ◌++◌, ◌||◌, ℕ, Bool, false, not, List, [], ◌∷◌, Option, Some, None, bytes_eq, codes, is_some, nat_le, if◌then◌else◌}
use Rattle.std.specs.List.{filter_map}
use Rattle.plain.specs.declared.refusal.Refusal.{Refusal}
use Rattle.ascii.specs.Pieces.{behind_piece}
use Rattle.lines.specs.Text.{AreLines}
use Rattle.lines.specs.declared.escape.Escape.{Escape}
use Rattle.lines.specs.declared.line.Heredoc.{Heredoc}
use Rattle.lines.specs.declared.line.Line.{Line}
use Rattle.lines.specs.declared.line.Mark.{Mark}
use Rattle.words.specs.Flag.{flags}
use Rattle.words.specs.declared.flag.Flag.{Flag}
use Rattle.options.specs.declared.mount.Mount.{Mount}
use Rattle.options.specs.declared.mount.MountKind.{MountKind}
use Rattle.options.specs.declared.mount.MountKind.TheVariants.{Bind, Cache}
use Rattle.instructions.specs.Instruction.{Instruction}
use Rattle.instructions.specs.declared.instruction.Argument.{Argument}
use Rattle.instructions.specs.declared.instruction.InstructionKind.{InstructionKind}
use Rattle.instructions.specs.declared.instruction.InstructionKind.TheVariants.{Arg, Workdir, Run, Copy}
use Rattle.dockerfile.specs.Dockerfile.{AreSpelled, IsRefused}
use Rattle.scopes.specs.Evaluate.{Values}
use Rattle.warnings.specs.Escapes.{has_idle_escape, has_variable}
use Rattle.warnings.specs.Known.{Known, known_of}
use Rattle.warnings.specs.Place.{first_place, place_after}
use Rattle.warnings.specs.declared.place.Place.{Place}
use Rattle.warnings.specs.declared.warning.Warning.{Warning}
use Rattle.warnings.specs.declared.warning.WarningKind.TheVariants.{MountVariable, HeredocEscape, LaterStage, PlatformArgument, FolderOwner}

-- a warning, if there is one, as a list
abbrev pub listed : Option Warning → List Warning
listed None = []
listed (Some warning) = warning ∷ []

-- mounts

-- the warning of the value of a mount's flag
abbrev pub value_warning : Escape → ℕ → Option (List ℕ) → Option Warning
value_warning escape line None = None
value_warning escape line (Some value) =
    if has_variable escape value then Some (record { kind = MountVariable; line = line; word = codes "--mount=" ++ value }) else None

-- the warning of a RUN's flag: its mount has a variable, which BuildKit replaces (BuildKit, `parseMount`), and which
-- stays here as it is written (own)
abbrev pub flag_warning : Escape → ℕ → Flag → Option Warning
flag_warning escape line flag = value_warning escape line flag.value

-- names of stages

-- a FROM stands on the line of an instruction's own, or below it
abbrev pub is_from : Place → Option ℕ → Bool
is_from place None = false
is_from place (Some line) = nat_le place.stage line

-- the first stage with a name is an instruction's own or a later one
abbrev pub is_later : (List ℕ → Option ℕ) → Place → List ℕ → Bool
is_later stage place name = is_from place (stage name)

-- the warning of what an instruction names by `--from` or by a mount's `from`, where it is written after this: BuildKit
-- finds each stage of the file, and refuses one that doesn't stand above (BuildKit, `dispatchStates.findStateByName`);
-- here the stages above are found alone, so it is the name of an image (own)
abbrev pub later_warning : (List ℕ → Option ℕ) → Place → ℕ → List ℕ → Option (List ℕ) → Option Warning
later_warning stage place line front None = None
later_warning stage place line front (Some name) =
    if is_later stage place name then Some (record { kind = LaterStage; line = line; word = front ++ name }) else None

-- the warning of a mount of this kind
abbrev pub kind_warning : (List ℕ → Option ℕ) → Place → ℕ → MountKind → Option Warning
kind_warning stage place line (Bind source from writable) = later_warning stage place line (codes "from=") from
kind_warning stage place line (Cache id sharing) = None

-- the warning of a mount: a cache names no stage
abbrev pub mount_warning : (List ℕ → Option ℕ) → Place → ℕ → Mount → Option Warning
mount_warning stage place line mount = kind_warning stage place line mount.kind

-- the warnings of a RUN that this line spells: first those of its flags
abbrev pub run_warnings : (List ℕ → Option ℕ) → Place → Line → ℕ → List Mount → List Warning
run_warnings stage place line number mounts =
    filter_map (flag_warning line.escape number) (flags (behind_piece line.text)) ++ filter_map (mount_warning stage place number) mounts

-- heredocs

-- the mark of a heredoc without quotes, as it is written (Dockerfile reference, here-documents)
abbrev pub mark_text : Mark → List ℕ
mark_text mark = (if mark.strips then codes "<<-" else codes "<<") ++ mark.name

-- the warning of a heredoc of a COPY: it isn't quoted, so it is expanded, and it has an escape character that BuildKit
-- takes away and that stays here (BuildKit, `shellWord.processStopOn`; what stays here: own)
abbrev pub heredoc_warning : Escape → ℕ → Heredoc → Option Warning
heredoc_warning escape line heredoc = if heredoc.mark.quoted || not (has_idle_escape escape heredoc.body) then None
    else Some (record { kind = HeredocEscape; line = line; word = mark_text heredoc.mark })

-- the warnings of a COPY that this line spells: first those of its heredocs
abbrev pub copy_warnings : (List ℕ → Option ℕ) → Place → Line → ℕ → Option (List ℕ) → List Warning
copy_warnings stage place line number from =
    filter_map (heredoc_warning line.escape number) line.heredocs ++ listed (later_warning stage place number (codes "--from=") from)

-- platforms

-- the names to which BuildKit gives the platforms of a build (Dockerfile reference, automatic platform ARGs in the
-- global scope)
abbrev pub is_platform : List ℕ → Bool
is_platform name = bytes_eq name (codes "TARGETPLATFORM") || (bytes_eq name (codes "TARGETOS") || (bytes_eq name (codes "TARGETARCH")
    || (bytes_eq name (codes "TARGETVARIANT") || (bytes_eq name (codes "BUILDPLATFORM") || (bytes_eq name (codes "BUILDOS")
    || (bytes_eq name (codes "BUILDARCH") || bytes_eq name (codes "BUILDVARIANT")))))))

-- something gives a name that an ARG declares a value: its default, the build argument, or the default of an ARG before
-- the first FROM (Dockerfile reference, ARG)
abbrev pub has_value : Values → (List ℕ → Bool) → Argument → Bool
has_value args is_given argument = is_some argument.default || (is_some (args argument.name) || is_given argument.name)

-- the warning of a name that an ARG declares: it is a platform's, which BuildKit knows and nothing says here (own)
abbrev pub argument_warning : Values → (List ℕ → Bool) → ℕ → Argument → Option Warning
argument_warning args is_given line argument = if not (is_platform argument.name) || has_value args is_given argument then None
    else Some (record { kind = PlatformArgument; line = line; word = argument.name })

-- folders

-- the warning of a WORKDIR with this path: BuildKit makes its folder the user's (BuildKit, `dispatchWorkdir`), and here
-- it is root's (own)
abbrev pub folder_warning : Place → ℕ → List ℕ → Option Warning
folder_warning place line path = if place.is_users then Some (record { kind = FolderOwner; line = line; word = path }) else None

-- whole

-- the warnings of an instruction of this kind
abbrev pub kind_warnings : Known → Place → Line → ℕ → InstructionKind → List Warning
kind_warnings known place line number (Run mounts command) = run_warnings known.stage place line number mounts
kind_warnings known place line number (Copy sources destination flags) = copy_warnings known.stage place line number flags.from
kind_warnings known place line number (Arg arguments) = filter_map (argument_warning known.argument known.is_given number) arguments
kind_warnings known place line number (Workdir path) = listed (folder_warning place number (behind_piece line.text))
kind_warnings known place line number kind = []

-- the warnings of an instruction in its place, which this line spells
abbrev pub warnings_at : Known → Place → Line → Instruction → List Warning
warnings_at known place line i = kind_warnings known place line i.line i.kind

-- the warnings of instructions from this place on, which these lines spell
abbrev pub warnings_from : Known → Place → List Line → List Instruction → List Warning
warnings_from known place [] is = []
warnings_from known place (line ∷ lines) [] = []
warnings_from known place (line ∷ lines) (i ∷ is) = warnings_at known place line i ++ warnings_from known (place_after place line i) lines is

-- the warnings of all instructions of a file
abbrev pub warnings_in : Known → List Line → List Instruction → List Warning
warnings_in known lines is = warnings_from known first_place lines is

-- the warnings of a file with these instructions, which these lines spell, in a build with these arguments
abbrev pub warnings_of : Values → List Line → List Instruction → List Warning
warnings_of args lines is = warnings_in (known_of args is) lines is

-- the warnings of a text: just those of its lines, in their order, and none where it is refused for its lines or
-- instructions (own)
abbrev pub AreWarningsOf : Values → List ℕ → List Warning → Type 0
AreWarningsOf args text found =
    ((lines : List Line) × (is : List Instruction) × AreLines text lines × AreSpelled lines is × (found ≡ warnings_of args lines is))
    ⊎ ((refusal : Refusal) × IsRefused text refusal × (found ≡ []))
