-- The values of vertices by the ids of their inputs, for the lemmas of this crate and of those above it.
use Rattle.std.specs.Prelude.{ℕ, Option, List, map}
use Rattle.std.specs.Option.{option_and_then}
use Rattle.trees.specs.TreeMap.{TreeMap}
use Rattle.llb.specs.declared.op.Op.{Op}
use Rattle.llb.specs.declared.vertex.Vertex.{Vertex}
use Rattle.plans.specs.Value.{World, Value, tree_of, value_of, result_of, all_trees}

-- the tree of a vertex of a graph, if it has one
abbrev pub tree_at : World → List Vertex → ℕ → Option TreeMap
tree_at world vertices id = tree_of (value_of world.out world.sources vertices id)

-- the value of an operation on the trees of these vertices
abbrev pub value_on : World → List Vertex → Op → List ℕ → Value
value_on world vertices op inputs = option_and_then (result_of world.out world.sources op) (all_trees (map (tree_at world vertices) inputs))
