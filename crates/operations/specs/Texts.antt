-- An operation as JSON (own, after BuildKit's LLB). The keys of each object stand in the order of their bytes.
use Rattle.std.specs.Prelude.{ℕ, List, ◌∷◌, ◌++◌, Option, Some, None, codes}
use Rattle.hex.specs.Hex.{encode_lower}
use Rattle.serde_json.specs.Data.{Data, null, boolean, number, unsigned, string, object, no_members, member}
use Rattle.paths.specs.Path.{text_of}
use Rattle.strict.specs.Written.{list_data}
use Rattle.plain.specs.declared.owner.Owner.{Owner}
use Rattle.plain.specs.declared.sharing.Sharing.{Sharing}
use Rattle.plain.specs.declared.sharing.Sharing.TheVariants.{Shared, Private, Locked}
use Rattle.plain.specs.declared.variable.Variable.{Variable}
use Rattle.runs.specs.declared.run.CacheUse.{CacheUse}
use Rattle.llb.specs.declared.op.Bind.{Bind}
use Rattle.llb.specs.declared.op.Exec.{Exec}
use Rattle.llb.specs.declared.op.Source.{Source}
use Rattle.llb.specs.declared.op.Source.TheVariants.{Scratch, Context, Image}
use Rattle.llb.specs.declared.op.FileSource.{FileSource}
use Rattle.llb.specs.declared.op.FileSource.TheVariants.{Pattern, Data as OwnFile}
use Rattle.llb.specs.declared.op.CopyFiles.{CopyFiles}
use Rattle.llb.specs.declared.op.Op.{Op}
use Rattle.llb.specs.declared.op.Op.TheVariants.{Source as SourceOp, Exec as ExecOp, Copy as CopyOp, MakeDirs as MakeDirsOp, Merge as MergeOp}

-- a path by its text
abbrev pub path_data : List (List ℕ) → Data
path_data path = string (text_of path)

-- how a cache is shared
abbrev pub sharing_text : Sharing → List ℕ
sharing_text Shared = codes "shared"
sharing_text Private = codes "private"
sharing_text Locked = codes "locked"

-- a variable is `NAME=VALUE`
abbrev pub variable_text : Variable → List ℕ
variable_text variable = variable.name ++ 61 ∷ variable.value

abbrev pub variable_data : Variable → Data
variable_data variable = string (variable_text variable)

-- a bind mount
abbrev pub bind_data : Bind → Data
bind_data bind = object (member (codes "rw") (boolean bind.rw)
    (member (codes "source") (path_data bind.source)
    (member (codes "target") (path_data bind.target) no_members)))

-- a cache mount
abbrev pub cache_data : CacheUse → Data
cache_data cache = object (member (codes "id") (string cache.id)
    (member (codes "sharing") (string (sharing_text cache.sharing))
    (member (codes "target") (path_data cache.target) no_members)))

-- a number that may be missing
abbrev pub number_data : Option ℕ → Data
number_data None = null
number_data (Some n) = number (unsigned n)

-- the user and the group of an owner that may be missing
abbrev pub uid_data : Option Owner → Data
uid_data None = null
uid_data (Some owner) = number (unsigned owner.user)

abbrev pub gid_data : Option Owner → Data
gid_data None = null
gid_data (Some owner) = number (unsigned owner.group)

-- a source of a copy: a pattern, or a file of its own with its bytes in hexadecimal
abbrev pub file_source_data : FileSource → Data
file_source_data (Pattern text) = object (member (codes "pattern") (string text) no_members)
file_source_data (OwnFile name content) = object (member (codes "data") (string (encode_lower content)) (member (codes "name") (string name) no_members))

-- a source: `scratch`, `context`, or `image:` and the name
abbrev pub source_text : Source → List ℕ
source_text Scratch = codes "scratch"
source_text Context = codes "context"
source_text (Image name) = codes "image:" ++ name

-- an operation whose inputs have these addresses
unfoldable pub source_data : List (List ℕ) → Source → Data
source_data inputs source = object (member (codes "inputs") (list_data string inputs)
    (member (codes "op") (string (codes "source"))
    (member (codes "source") (string (source_text source)) no_members)))

unfoldable pub exec_data : List (List ℕ) → Exec → Data
exec_data inputs exec = object (member (codes "binds") (list_data bind_data exec.binds)
    (member (codes "caches") (list_data cache_data exec.caches)
    (member (codes "dir") (path_data exec.dir)
    (member (codes "env") (list_data variable_data exec.env)
    (member (codes "inputs") (list_data string inputs)
    (member (codes "op") (string (codes "exec"))
    (member (codes "user") (string exec.user)
    (member (codes "words") (list_data string exec.words) no_members))))))))

unfoldable pub copy_data : List (List ℕ) → CopyFiles → Data
copy_data inputs files = object (member (codes "action") (string (codes "copy"))
    (member (codes "dest") (path_data files.dest)
    (member (codes "dir") (boolean files.options.into)
    (member (codes "gid") (gid_data files.options.owner)
    (member (codes "inputs") (list_data string inputs)
    (member (codes "mode") (number_data files.options.mode)
    (member (codes "op") (string (codes "file"))
    (member (codes "sources") (list_data file_source_data files.sources)
    (member (codes "uid") (uid_data files.options.owner) no_members)))))))))

unfoldable pub mkdir_data : List (List ℕ) → List (List ℕ) → Data
mkdir_data inputs path = object (member (codes "action") (string (codes "mkdir"))
    (member (codes "inputs") (list_data string inputs)
    (member (codes "op") (string (codes "file"))
    (member (codes "path") (path_data path) no_members))))

unfoldable pub merge_data : List (List ℕ) → Data
merge_data inputs = object (member (codes "inputs") (list_data string inputs)
    (member (codes "op") (string (codes "merge")) no_members))

abbrev pub op_data : List (List ℕ) → Op → Data
op_data inputs (SourceOp source) = source_data inputs source
op_data inputs (ExecOp exec) = exec_data inputs exec
op_data inputs (CopyOp files) = copy_data inputs files
op_data inputs (MakeDirsOp path) = mkdir_data inputs path
op_data inputs MergeOp = merge_data inputs
