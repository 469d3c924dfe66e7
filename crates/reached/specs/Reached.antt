-- Which vertices are marked: those that a target reaches, as they stand or on their flat inputs (own).
use Rattle.std.specs.Prelude.{◌≡◌, ℕ, Bool, true, List, Some, length, slice_get}
use Rattle.plain.specs.Marks.{is_marked}
use Rattle.llb.specs.declared.vertex.Vertex.{Vertex}
use Rattle.llb.specs.Reach.{HasInput, Reaches}
use Rattle.reached.specs.Spelled.{flat_vertex, flat_vertices}

-- the target is marked, and with each vertex its inputs, and only what the target reaches
pub record AreReached (vertices : List Vertex) (target : ℕ) (marks : List Bool) : Type 0 where
  pub long : length marks ≡ length vertices
  pub has_first : is_marked marks target ≡ true
  pub closed : (from to : ℕ) → is_marked marks from ≡ true → HasInput vertices from to → is_marked marks to ≡ true
  pub only : (to : ℕ) → is_marked marks to ≡ true → Reaches vertices target to

-- the vertices that are marked are on their flat inputs; what the others are on isn't said
pub record AreOnFlat (old : List Vertex) (marks : List Bool) (new : List Vertex) : Type 0 where
  pub long : length new ≡ length old
  pub there : (k : ℕ) (v : Vertex) → is_marked marks k ≡ true → slice_get old k ≡ Some v → slice_get new k ≡ Some (flat_vertex old v)

-- what the target reaches over flat inputs is marked, and is on its flat inputs
abbrev pub AreFlattened : List Vertex → ℕ → List Bool → List Vertex → Type 0
AreFlattened old target marks new = AreReached (flat_vertices old) target marks × AreOnFlat old marks new
