-- What follows of adding a vertex: it has the id that was answered, and the vertices that were there keep theirs.
use Rattle.std.specs.Prelude.{◌≡◌, ℕ, ◌⊎◌, Some, Ok, List, [], ◌∷◌, ◌++◌, length, slice_get, refl}
use Rattle.std.proofs.Common.{ap, sym, ◌∙◌, inl, inr, append-nil}
use Rattle.llb.specs.declared.vertex.Vertex.{Vertex}
use Rattle.llb.specs.Graph.{GraphValue, IsFound, IsAppended, Adds}

slice_get-last : {X : Type 0} (xs : List X) (x : X) → slice_get (xs ++ x ∷ []) (length xs) ≡ Some x
slice_get-last [] x = refl
slice_get-last (y ∷ ys) x = slice_get-last ys x

found_stands : (old new : GraphValue) (vertex : Vertex) (lines : List ℕ) (id : ℕ) → IsFound old new vertex lines id ⊎ IsAppended old new vertex lines id → slice_get new.vertices id ≡ Some vertex
found_stands old new vertex lines id (inl found) = ap (λ g. slice_get g.vertices id) found.added ∙ found.stood
found_stands old new vertex lines id (inr appended) =
    ap (λ g. slice_get g.vertices id) appended.added ∙ ap (slice_get (old.vertices ++ vertex ∷ [])) appended.last ∙ slice_get-last old.vertices vertex

-- the vertex stands under its id
pub added_stands : (old new : GraphValue) (vertex : Vertex) (lines : List ℕ) (id : ℕ) → Adds old new vertex lines (Ok id) → slice_get new.vertices id ≡ Some vertex
added_stands old new vertex lines id adds = found_stands old new vertex lines id adds

grows : (old new : GraphValue) (vertex : Vertex) (lines : List ℕ) (id : ℕ) → IsFound old new vertex lines id ⊎ IsAppended old new vertex lines id → (more : List Vertex) × (new.vertices ≡ old.vertices ++ more)
grows old new vertex lines id (inl found) = ([], ap (λ g. g.vertices) found.added ∙ sym (append-nil old.vertices))
grows old new vertex lines id (inr appended) = (vertex ∷ [], ap (λ g. g.vertices) appended.added)

-- the old vertices are the first ones of the new
pub added_grows : (old new : GraphValue) (vertex : Vertex) (lines : List ℕ) (id : ℕ) → Adds old new vertex lines (Ok id) → (more : List Vertex) × (new.vertices ≡ old.vertices ++ more)
added_grows old new vertex lines id adds = grows old new vertex lines id adds
