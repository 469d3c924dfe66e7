-- What is said of each kind of warning: its code, one sentence, and one remedy (own).
use Rattle.std.specs.Prelude.{ℕ, List, codes}
use Rattle.warnings.specs.declared.warning.WarningKind.{WarningKind}
use Rattle.warnings.specs.declared.warning.WarningKind.TheVariants.{MountVariable, HeredocEscape, LaterStage, PlatformArgument, FolderOwner}

-- the code, as it is shown
abbrev pub code_text : WarningKind → List ℕ
code_text MountVariable = codes "W01"
code_text HeredocEscape = codes "W02"
code_text LaterStage = codes "W03"
code_text PlatformArgument = codes "W04"
code_text FolderOwner = codes "W05"

-- what is otherwise here, in one sentence
abbrev pub sentence : WarningKind → List ℕ
sentence MountVariable = codes "a variable in a mount stays as it is written here, and BuildKit replaces it"
sentence HeredocEscape = codes "an escape character in this heredoc stays here, and BuildKit takes it away"
sentence LaterStage = codes "no stage above has this name, so it is an image's here, and BuildKit refuses it"
sentence PlatformArgument = codes "this ARG has no value here, and BuildKit gives it that of the platform"
sentence FolderOwner = codes "the folder of this WORKDIR is root's here, and BuildKit gives it to the user"

-- what helps, so that both mean the same
abbrev pub remedy : WarningKind → List ℕ
remedy MountVariable = codes "write the variable's value"
remedy HeredocEscape = codes "quote the heredoc's name, or write the escape character twice"
remedy LaterStage = codes "put that stage above this one, or give it another name"
remedy PlatformArgument = codes "give it a default, or a value by a build argument of its name"
remedy FolderOwner = codes "make the folder above the WORKDIR, by a RUN or by a COPY with --chown"
