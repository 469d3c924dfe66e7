-- Values, wherever they stand.
use Rattle.std.proofs.Common.{◌≡◌, ℕ, zero, suc, ◌<◌, Bool, true, false, ◌&&◌, List, [], ◌∷◌, length, map, Option, Some, Ok, Err, refl, ap, ◌∙◌, arith}
use Rattle.std.specs.Prelude.{slice_get, slice_index_or}
use Rattle.std.specs.List.{list_all}
use Rattle.std.specs.Option.{option_map}
use Rattle.trees.specs.TreeMap.{TreeMap}
use Rattle.trees.specs.Cause.{TreeOrCause}
use Rattle.llb.specs.declared.vertex.Vertex.{Vertex}
use Rattle.board.specs.Readiness.{has_tree}
use Rattle.board.specs.Play.{value_at}
use Rattle.board.specs.PrivateClaim.{tree_value}
use Rattle.board.specs.PrivateClaim.{AreInputs}
use Rattle.board.specs.PrivateShelf.{tree_or_empty, AreInputIds}

is-tree : (value : TreeOrCause) → has_tree (Some value) ≡ true → Ok (tree_or_empty value) ≡ value
is-tree (Ok tree) e = refl
is-tree (Err cause) e = cc

both : (x y : Bool) → (x && y) ≡ true → (x ≡ true) × (y ≡ true)
both true y e = (refl, e)
both false y e = cc

-- where all places have trees, the tree at a position is the one in the place there
pub place-is : {P : Type 0} (stands : P → TreeOrCause) (places : List P) (at : ℕ) (d : P) → list_all (λ p. has_tree (Some (stands p))) places ≡ true → at < length places → option_map Ok (slice_get (map (λ p. tree_or_empty (stands p)) places) at) ≡ Some (stands (slice_index_or places at d))
place-is stands [] at d all within = absurd (omega (arith, within))
place-is stands (p ∷ ps) zero d all within = ap Some (is-tree (stands p) (both (has_tree (Some (stands p))) (list_all (λ q. has_tree (Some (stands q))) ps) all).0)
place-is stands (p ∷ ps) (suc at) d all within = place-is stands ps at d (both (has_tree (Some (stands p))) (list_all (λ q. has_tree (Some (stands q))) ps) all).1 (omega (arith, within))

-- the trees of a vertex's inputs once more are the trees of its inputs
pub inputs-are : (vertices : List Vertex) (settled : List (Option TreeOrCause)) (vertex : ℕ) (ids : List ℕ) (trees : List TreeMap) → AreInputIds vertices settled vertex ids → map tree_value trees ≡ map (value_at settled) ids → AreInputs vertices settled vertex trees
inputs-are vertices settled vertex ids trees is e = record { v = is.v; there = is.there; settled_so = e ∙ ap (map (value_at settled)) is.ids_are }
