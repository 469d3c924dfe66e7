-- Which merges stand on merges, and which of them differ.
use Rattle.std.specs.Prelude.{◌≡◌, ◌==◌, ◌⊎◌, ◌||◌, ℕ, Bool, true, false, List, [], ◌∷◌, not, Option, Some, None, if◌then◌else◌, ◌-◌, get_or, length, slice_get}
use Rattle.std.specs.List.{list_all}
use Rattle.std.specs.Option.{is_some}
use Rattle.llb.specs.declared.op.Op.TheVariants.{Merge as MergeOp}
use Rattle.llb.specs.declared.vertex.Vertex.{Vertex}
use Rattle.plain.specs.Marks.{is_marked}
use Rattle.reached.specs.Spelled.{is_merge}

-- what stands at a number, if it is a merge
abbrev pub merge_at : ℕ → Option Vertex → Option ℕ
merge_at id None = None
merge_at id (Some vertex) = if is_merge vertex.op then Some id else None

-- the first of some inputs, if it is a merge
abbrev pub first_merge : List Vertex → List ℕ → Option ℕ
first_merge vertices [] = None
first_merge vertices (first ∷ rest) = merge_at first (slice_get vertices first)

-- the merge that is the first input of a vertex, if that is a merge too
abbrev pub link_below : List Vertex → Vertex → Option ℕ
link_below vertices vertex = if is_merge vertex.op then first_merge vertices vertex.inputs else None

-- whether a vertex isn't a merge on a merge
abbrev pub stands_flat : List Vertex → Vertex → Bool
stands_flat vertices vertex = not (is_some (link_below vertices vertex))

-- the last of some inputs
abbrev pub last_of : List ℕ → ℕ
last_of ids = get_or ids (length ids - 1) 0

-- whether a vertex, if it is a merge, has two inputs
abbrev pub is_pair : Vertex → Bool
is_pair vertex = not (is_merge vertex.op) || length vertex.inputs == 2

-- no two of the merges that are marked have the same last input
abbrev pub LastsDiffer : List Vertex → List Bool → Type 0
LastsDiffer vertices marks = (j k : ℕ) (v w : Vertex) → is_marked marks j ≡ true → is_marked marks k ≡ true → slice_get vertices j ≡ Some v
    → slice_get vertices k ≡ Some w → v.op ≡ MergeOp → w.op ≡ MergeOp → last_of v.inputs ≡ last_of w.inputs → j ≡ k

-- no two of the merges that are marked are equal, also on flat inputs, since all have two inputs, or each a last one of its own
abbrev pub MergesDiffer : List Vertex → List Bool → Type 0
MergesDiffer vertices marks = (list_all is_pair vertices ≡ true) ⊎ LastsDiffer vertices marks

-- the last of these wasn't marked and is, and what was marked is
pub record MarksLast (old new : List Bool) (ids : List ℕ) : Type 0 where
  pub before : is_marked old (last_of ids) ≡ false
  pub now : is_marked new (last_of ids) ≡ true
  pub kept : (k : ℕ) → is_marked old k ≡ true → is_marked new k ≡ true
