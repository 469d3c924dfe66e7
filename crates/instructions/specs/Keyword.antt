-- The names of the instructions.
use Rattle.std.specs.Prelude.{ℕ, List, [], ◌∷◌, Option, codes}
use Rattle.std.specs.List.{find}
use Rattle.std.specs.Str.{str_eq_ignore_ascii_case}
use Rattle.instructions.specs.declared.keyword.Keyword.{Keyword}
use Rattle.instructions.specs.declared.keyword.Keyword.TheVariants.{From, Arg, Env, Label, Expose, User, Workdir, StopSignal, Volume, Shell, Cmd, Entrypoint, Run, Copy}

-- the name of an instruction, as it is shown (Dockerfile reference)
abbrev pub name_of : Keyword → List ℕ
name_of From = codes "FROM"
name_of Arg = codes "ARG"
name_of Env = codes "ENV"
name_of Label = codes "LABEL"
name_of Expose = codes "EXPOSE"
name_of User = codes "USER"
name_of Workdir = codes "WORKDIR"
name_of StopSignal = codes "STOPSIGNAL"
name_of Volume = codes "VOLUME"
name_of Shell = codes "SHELL"
name_of Cmd = codes "CMD"
name_of Entrypoint = codes "ENTRYPOINT"
name_of Run = codes "RUN"
name_of Copy = codes "COPY"

-- the instructions that are known (ADD, HEALTHCHECK, MAINTAINER and ONBUILD are left out: own)
abbrev pub keywords : List Keyword
keywords = From ∷ Arg ∷ Env ∷ Label ∷ Expose ∷ User ∷ Workdir ∷ StopSignal ∷ Volume ∷ Shell ∷ Cmd ∷ Entrypoint ∷ Run ∷ Copy ∷ []

-- the instruction that a name names, whatever the case of its letters (Dockerfile reference)
unfoldable pub keyword_of : List ℕ → Option Keyword
keyword_of name = find (λ keyword. str_eq_ignore_ascii_case name (name_of keyword)) keywords
