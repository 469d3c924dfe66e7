-- The instruction of a line that is refused, by its name.
use Rattle.std.specs.Prelude.{ℕ, List, [], ◌∷◌, Option, codes, unwrap_or}
use Rattle.std.specs.List.{find}
use Rattle.std.specs.Str.{str_eq_ignore_ascii_case}
use Rattle.ascii.specs.Pieces.{first_piece}
use Rattle.sentences.specs.declared.subject.Subject.{Subject}
use Rattle.sentences.specs.declared.subject.Subject.TheVariants.{From, Arg, Env, Label, Expose, User, Workdir, StopSignal, Volume, Shell, Cmd, Entrypoint, Run, Copy, Add, Onbuild, Healthcheck, Maintainer, Other}

-- the name of an instruction in lower case (Dockerfile reference)
abbrev pub name_of : Subject → List ℕ
name_of From = codes "from"
name_of Arg = codes "arg"
name_of Env = codes "env"
name_of Label = codes "label"
name_of Expose = codes "expose"
name_of User = codes "user"
name_of Workdir = codes "workdir"
name_of StopSignal = codes "stopsignal"
name_of Volume = codes "volume"
name_of Shell = codes "shell"
name_of Cmd = codes "cmd"
name_of Entrypoint = codes "entrypoint"
name_of Run = codes "run"
name_of Copy = codes "copy"
name_of Add = codes "add"
name_of Onbuild = codes "onbuild"
name_of Healthcheck = codes "healthcheck"
name_of Maintainer = codes "maintainer"
name_of Other = []

-- the instructions that have a name; the last four are left out of the language on purpose (own)
abbrev pub named : List Subject
named =
    From ∷ Arg ∷ Env ∷ Label ∷ Expose ∷ User ∷ Workdir ∷ StopSignal ∷ Volume ∷ Shell ∷ Cmd ∷ Entrypoint ∷ Run ∷ Copy
    ∷ Add ∷ Onbuild ∷ Healthcheck ∷ Maintainer ∷ []

-- the instruction of this name, whatever the case of its letters (Dockerfile reference)
unfoldable pub found : List ℕ → Option Subject
found name = find (λ subject. str_eq_ignore_ascii_case name (name_of subject)) named

-- the instruction of a line: that of its first piece (Dockerfile reference)
abbrev pub subject_of : List ℕ → Subject
subject_of line = unwrap_or (found (first_piece line)) Other
