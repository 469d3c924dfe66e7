-- What is said of an operation beside its bytes, which its digest doesn't cover (BuildKit's LLB, `OpMetadata`).
use Rattle.std.specs.Prelude.{ℕ, Bool, false, ◌||◌, ◌==◌, not, Option, Some, None, List, [], ◌∷◌, ◌++◌, codes, length, slice_index_or}
use Rattle.llb.specs.declared.op.Source.{Source}
use Rattle.llb.specs.declared.op.Source.TheVariants.{Scratch, Context, Image}
use Rattle.llb.specs.declared.op.Op.{Op as Work}
use Rattle.llb.specs.declared.op.Op.TheVariants.{Source as SourceWork, Exec as ExecWork, Copy as CopyWork, MakeDirs as MakeDirsWork, Merge as MergeWork}
use Rattle.llbmessages.specs.declared.op.Op.{Op}
use Rattle.llbmessages.specs.declared.op.OpKind.TheVariants.{End}
use Rattle.llbmessages.specs.declared.definition.OpMetadata.{OpMetadata}
use Rattle.exported.specs.Names.{whole_name}
use Rattle.exported.specs.Capabilities.{with_cap, kind_caps}

-- ---- names

-- what progress calls a source: it stands for no instruction alone (BuildKit, frontend/dockerfile/dockerfile2llb, whose words these are)
abbrev pub source_name : Source → Option (List ℕ)
source_name Scratch = None
source_name Context = Some (codes "[internal] load build context")
source_name (Image name) = Some (codes "FROM " ++ whole_name name)

-- what progress calls a vertex: `names` has the name of the instruction of each line, if it has one, and `line` is the least behind the vertex
abbrev pub vertex_name : List (Option (List ℕ)) → ℕ → Work → Option (List ℕ)
vertex_name names line (SourceWork source) = source_name source
vertex_name names line (ExecWork exec) = slice_index_or names line None
vertex_name names line (CopyWork files) = slice_index_or names line None
vertex_name names line (MakeDirsWork path) = slice_index_or names line None
vertex_name names line MergeWork = slice_index_or names line None

-- ---- what is said

-- a name is the description of this key (BuildKit, `WithCustomName` in client/llb/state.go); an engine has names of its own for what has none
abbrev pub description_of : Option (List ℕ) → List (List ℕ × List ℕ)
description_of None = []
description_of (Some name) = (codes "llb.customname", name) ∷ []

-- an operation of this name
unfoldable pub metadata_of : Option (List ℕ) → Op → OpMetadata
metadata_of name op = record { ignore_cache = false; description = description_of name; caps = kind_caps op.kind }

-- whether some operation is described
abbrev pub some_described : List (List ℕ × OpMetadata) → Bool
some_described [] = false
some_described (entry ∷ entries) = not (length entry.1.description == 0) || some_described entries

-- the end, after operations of which this is said: an engine has to be capable of descriptions, if there are some (BuildKit, `Marshal` in
-- client/llb/state.go)
unfoldable pub end_metadata : List (List ℕ × OpMetadata) → OpMetadata
end_metadata entries =
    record { ignore_cache = false; description = []; caps = with_cap (some_described entries) (codes "meta.description") (kind_caps End) }
