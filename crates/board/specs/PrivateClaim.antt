-- What the board's own functions say of a claim that is made, and of those that are out.
use Rattle.std.specs.Prelude.{◌≡◌, ℕ, List, [], ◌∷◌, map, Option, Some, None, Ok, slice_get}
use Rattle.trees.specs.TreeMap.{TreeMap}
use Rattle.trees.specs.Cause.{TreeOrCause}
use Rattle.llb.specs.declared.vertex.Vertex.{Vertex}
use Rattle.board.specs.Play.{claim_of, value_at}
use Rattle.board.specs.declared.claim.ClaimOut.{ClaimOut}

-- the value of a vertex that has this tree (own)
abbrev pub tree_value : TreeMap → Option TreeOrCause
tree_value tree = Some (Ok tree)

-- these trees are those with which the inputs of a vertex are settled, in their order (own)
pub record AreInputs (vertices : List Vertex) (settled : List (Option TreeOrCause)) (vertex : ℕ) (trees : List TreeMap) : Type 0 where
  pub v : Vertex
  pub there : slice_get vertices vertex ≡ Some v
  pub settled_so : map tree_value trees ≡ map (value_at settled) v.inputs

-- no worker has two claims out (own)
abbrev pub AreApart : List ClaimOut → Type 0
AreApart [] = Unit {0}
AreApart (claim ∷ claims) = (claim_of claim.worker claims ≡ None) × AreApart claims
