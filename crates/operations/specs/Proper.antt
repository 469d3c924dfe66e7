-- What the types of an operation's parts keep, said of plain data (own): paths are clean, names are components, numbers and bytes are in
-- the range of their types. Whatever the code holds is so.
use Rattle.std.specs.Prelude.{◌<◌, ◌^◌, ℕ, Option, Some, None}
use Rattle.std.specs.List.{AllByRecursion}
use Rattle.hex.specs.Hex.{IsBytes}
use Rattle.paths.specs.Path.{IsClean}
use Rattle.paths.specs.Name.{IsComponent}
use Rattle.plain.specs.declared.owner.Owner.{Owner}
use Rattle.plain.specs.declared.variable.Variable.{Variable}
use Rattle.runs.specs.declared.run.CacheUse.{CacheUse}
use Rattle.trees.specs.declared.copy.CopyOptions.{CopyOptions}
use Rattle.llb.specs.declared.op.Bind.{Bind}
use Rattle.llb.specs.declared.op.Exec.{Exec}
use Rattle.llb.specs.declared.op.FileSource.{FileSource}
use Rattle.llb.specs.declared.op.FileSource.TheVariants.{Pattern, Data as OwnFile}
use Rattle.llb.specs.declared.op.CopyFiles.{CopyFiles}
use Rattle.llb.specs.declared.op.Op.{Op}
use Rattle.llb.specs.declared.op.Op.TheVariants.{Source as SourceOp, Exec as ExecOp, Copy as CopyOp, MakeDirs as MakeDirsOp, Merge as MergeOp}

-- a bind mount, whose paths are clean
abbrev pub IsProperBind : Bind → Type 0
IsProperBind bind = IsClean bind.source × IsClean bind.target

-- a cache mount, whose path is clean
abbrev pub IsProperCache : CacheUse → Type 0
IsProperCache cache = IsClean cache.target

-- a variable is any
abbrev pub IsProperVariable : Variable → Type 0
IsProperVariable variable = Unit {0}

-- a command, whose paths are clean
abbrev pub IsProperExec : Exec → Type 0
IsProperExec exec = AllByRecursion IsProperBind exec.binds × (AllByRecursion IsProperCache exec.caches × IsClean exec.dir)

-- a source of a copy: a file of its own has a component for its name, and bytes
abbrev pub IsProperFileSource : FileSource → Type 0
IsProperFileSource (Pattern text) = Unit {0}
IsProperFileSource (OwnFile name content) = IsComponent name × IsBytes content

-- an owner, if there is one, has numbers of 32 bits
abbrev pub IsProperOwner : Option Owner → Type 0
IsProperOwner None = Unit {0}
IsProperOwner (Some owner) = (owner.user < 2 ^ 32) × (owner.group < 2 ^ 32)

-- a mode, if there is one, has four octal digits
abbrev pub IsProperMode : Option ℕ → Type 0
IsProperMode None = Unit {0}
IsProperMode (Some mode) = mode < 4096

-- what the flags of a copy say
abbrev pub AreProperOptions : CopyOptions → Type 0
AreProperOptions options = IsProperOwner options.owner × IsProperMode options.mode

-- a copy of files
abbrev pub IsProperCopy : CopyFiles → Type 0
IsProperCopy files = AllByRecursion IsProperFileSource files.sources × (IsClean files.dest × AreProperOptions files.options)

-- an operation
abbrev pub IsProper : Op → Type 0
IsProper (SourceOp source) = Unit {0}
IsProper (ExecOp exec) = IsProperExec exec
IsProper (CopyOp files) = IsProperCopy files
IsProper (MakeDirsOp path) = IsClean path
IsProper MergeOp = Unit {0}
