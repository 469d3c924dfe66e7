-- Merges that are spelled out: a merge that stands first in a merge is replaced by its inputs (the merge operation of BuildKit's LLB; where that
-- may be done is own). Trees are laid over each other from the left, so what stands first may be spelled out; what stands further right may not.
use Rattle.std.specs.Prelude.{ℕ, zero, suc, Bool, true, false, List, [], ◌∷◌, ◌++◌, map, Option, Some, None, length, slice_get}
use Rattle.llb.specs.declared.op.Op.{Op}
use Rattle.llb.specs.declared.op.Op.TheVariants.{Source as SourceOp, Exec as ExecOp, Copy as CopyOp, MakeDirs as MakeDirsOp, Merge as MergeOp}
use Rattle.llb.specs.declared.vertex.Vertex.{Vertex}

-- whether an operation is a merge
abbrev pub is_merge : Op → Bool
is_merge (SourceOp source) = false
is_merge (ExecOp exec) = false
is_merge (CopyOp files) = false
is_merge (MakeDirsOp path) = false
is_merge MergeOp = true

-- the inputs of a merge, with what stands for the first one in its place
abbrev pub with_first : (ℕ → List ℕ) → List ℕ → List ℕ
with_first below [] = []
with_first below (first ∷ rest) = below first ++ rest

-- what stands for a vertex in the first place of a merge, by its operation and inputs: for a merge its inputs, the first one replaced
-- likewise; for any other vertex itself
abbrev pub spelled_as : (ℕ → List ℕ) → ℕ → Op → List ℕ → List ℕ
spelled_as below id (SourceOp source) inputs = id ∷ []
spelled_as below id (ExecOp exec) inputs = id ∷ []
spelled_as below id (CopyOp files) inputs = id ∷ []
spelled_as below id (MakeDirsOp path) inputs = id ∷ []
spelled_as below id MergeOp inputs = with_first below inputs

-- the same for what stands at a number
abbrev pub spelled_at : (ℕ → List ℕ) → ℕ → Option Vertex → List ℕ
spelled_at below id None = id ∷ []
spelled_at below id (Some vertex) = spelled_as below id vertex.op vertex.inputs

-- the same where merges stand in each other's first place down to this depth
abbrev pub spelled_to : List Vertex → ℕ → ℕ → List ℕ
spelled_to vertices zero id = id ∷ []
spelled_to vertices (suc depth) id = spelled_at (spelled_to vertices depth) id (slice_get vertices id)

-- the same however deep they stand: no deeper than there are vertices, since each stands after its inputs
unfoldable pub spelled_out : List Vertex → ℕ → List ℕ
spelled_out vertices id = spelled_to vertices (length vertices) id

-- the inputs of an operation, flat: those of a merge with its first one spelled out, and those of any other as they are
abbrev pub flat_inputs : List Vertex → Op → List ℕ → List ℕ
flat_inputs vertices (SourceOp source) inputs = inputs
flat_inputs vertices (ExecOp exec) inputs = inputs
flat_inputs vertices (CopyOp files) inputs = inputs
flat_inputs vertices (MakeDirsOp path) inputs = inputs
flat_inputs vertices MergeOp inputs = with_first (spelled_out vertices) inputs

-- a vertex on its flat inputs
abbrev pub flat_vertex : List Vertex → Vertex → Vertex
flat_vertex vertices vertex = record { op = vertex.op; inputs = flat_inputs vertices vertex.op vertex.inputs }

-- each vertex on its flat inputs, under its number
abbrev pub flat_vertices : List Vertex → List Vertex
flat_vertices vertices = map (flat_vertex vertices) vertices
