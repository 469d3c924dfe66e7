-- The hash of a vertex (own): what is written of it to a hasher, and what the hasher gives. A hash narrows the search for an
-- equal vertex and decides nothing: all that counts is that it is a function of the vertex.
use Rattle.std.specs.Prelude.{ℕ, Option, Some, None, List, [], ◌∷◌, ◌++◌, fold, length}
use Rattle.std.specs.Hash.{HashWrites, u8, u16, u32, u64, usize, bool, str, slice}
use Rattle.std.specs.Hash.DefaultHasher as sip
use Rattle.plain.specs.declared.sharing.Sharing.{Sharing}
use Rattle.plain.specs.declared.sharing.Sharing.TheVariants.{Shared, Private, Locked}
use Rattle.plain.specs.Hash.{variables_hash}
use Rattle.runs.specs.declared.run.CacheUse.{CacheUse}
use Rattle.plain.specs.declared.owner.Owner.{Owner}
use Rattle.trees.specs.declared.copy.CopyOptions.{CopyOptions}
use Rattle.llb.specs.declared.op.Bind.{Bind}
use Rattle.llb.specs.declared.op.Exec.{Exec}
use Rattle.llb.specs.declared.op.Source.{Source}
use Rattle.llb.specs.declared.op.Source.TheVariants.{Scratch, Context, Image}
use Rattle.llb.specs.declared.op.Op.{Op}
use Rattle.llb.specs.declared.op.Op.TheVariants.{Source as SourceOp, Exec as ExecOp, Copy as CopyOp, MakeDirs as MakeDirsOp, Merge as MergeOp}
use Rattle.llb.specs.declared.op.FileSource.{FileSource}
use Rattle.llb.specs.declared.op.FileSource.TheVariants.{Pattern, Data}
use Rattle.llb.specs.declared.op.CopyFiles.{CopyFiles}
use Rattle.llb.specs.declared.vertex.Vertex.{Vertex}

-- what is written of a path: how many components it has, and each (own)
abbrev pub path_writes : List (List ℕ) → HashWrites
path_writes path = slice str path

-- what is written of a sharing: its place among the three (own)
abbrev pub sharing_writes : Sharing → HashWrites
sharing_writes Shared = u8 0
sharing_writes Private = u8 1
sharing_writes Locked = u8 2

-- what is written of a cache mount (own)
abbrev pub cache_writes : CacheUse → HashWrites
cache_writes cache = str cache.id ++ sharing_writes cache.sharing ++ path_writes cache.target

-- what is written of a bind mount (own)
abbrev pub bind_writes : Bind → HashWrites
bind_writes bind = bool bind.rw ++ path_writes bind.source ++ path_writes bind.target

-- what is written of a command, each list with its length, and of its environment the hash of that (own)
abbrev pub exec_writes : Exec → HashWrites
exec_writes exec =
    slice bind_writes exec.binds ++ slice cache_writes exec.caches ++ path_writes exec.dir ++ u64 (variables_hash exec.env)
    ++ str exec.user ++ slice str exec.words

-- what is written of a file's bytes: how many they are, and all of them at once (own)
abbrev pub content_writes : List ℕ → HashWrites
content_writes bytes = usize (length bytes) ++ bytes ∷ []

-- what is written of a value that may be missing: whether it is there, and what it is (own)
abbrev pub option_writes : {X : Type 0} → (X → HashWrites) → Option X → HashWrites
option_writes writes None = u8 0
option_writes writes (Some value) = u8 1 ++ writes value

-- what is written of an owner (own)
abbrev pub owner_writes : Owner → HashWrites
owner_writes owner = u32 owner.user ++ u32 owner.group

-- what is written of a COPY's options (own)
abbrev pub copy_options_writes : CopyOptions → HashWrites
copy_options_writes options = bool options.into ++ option_writes owner_writes options.owner ++ option_writes u16 options.mode

-- what is written of a source of a COPY: its kind, and what it is (own)
abbrev pub file_source_writes : FileSource → HashWrites
file_source_writes (Pattern text) = u8 0 ++ str text
file_source_writes (Data name content) = u8 1 ++ str name ++ content_writes content

-- what is written of a copy (own)
abbrev pub copy_writes : CopyFiles → HashWrites
copy_writes files = slice file_source_writes files.sources ++ path_writes files.dest ++ copy_options_writes files.options

-- what is written of a source: its kind, and an image's name (own)
abbrev pub source_writes : Source → HashWrites
source_writes Scratch = u8 0
source_writes Context = u8 1
source_writes (Image name) = u8 2 ++ str name

-- what is written of an operation: its kind, and what it is (own)
abbrev pub op_writes : Op → HashWrites
op_writes (SourceOp source) = u8 0 ++ source_writes source
op_writes (ExecOp exec) = u8 1 ++ exec_writes exec
op_writes (CopyOp files) = u8 2 ++ copy_writes files
op_writes (MakeDirsOp path) = u8 3 ++ path_writes path
op_writes MergeOp = u8 4

-- what is written of a vertex (own)
abbrev pub vertex_writes : Vertex → HashWrites
vertex_writes vertex = slice u32 vertex.inputs ++ op_writes vertex.op

-- the hash of a vertex: SipHash-1-3, with both keys 0, of what is written of it (own)
unfoldable pub hash_of : Vertex → ℕ
hash_of vertex = sip.finish (fold sip.write sip.initial (vertex_writes vertex))
