-- What contracts see of results, whatever place each of them stands in.
use Rattle.std.specs.Prelude.{◌≡◌, ℕ, List, Option, Some, Ok, Err, true, slice_get}
use Rattle.std.specs.Coded.{Coded, coded_list, coded_option, coded_result}
use Rattle.trees.specs.TreeMap.{TreeMap, empty_tree}
use Rattle.trees.specs.Cause.{TreeOrCause}
use Rattle.trees.specs.contracts.tree.Tree as tree
use Rattle.trees.specs.contracts.cause.Cause as cause
use Rattle.llb.specs.declared.vertex.Vertex.{Vertex}
use Rattle.board.specs.Play.{have_trees}

-- with what each vertex is settled, in plain data, for generic code (own)
abbrev pub settled_code : Coded (List (Option TreeOrCause))
settled_code = coded_list (coded_option (coded_result tree.the_row.coded cause.the_row.coded))

-- the tree of a value, and the empty one where it is a cause (own)
abbrev pub tree_or_empty : TreeOrCause → TreeMap
tree_or_empty (Ok tree) = tree
tree_or_empty (Err cause) = empty_tree

-- these are the ids of the inputs of a vertex, and each of them is settled with a tree (own)
pub record AreInputIds (vertices : List Vertex) (settled : List (Option TreeOrCause)) (vertex : ℕ) (ids : List ℕ) : Type 0 where
  pub v : Vertex
  pub there : slice_get vertices vertex ≡ Some v
  pub ids_are : ids ≡ v.inputs
  pub trees : have_trees settled ids ≡ true

-- trees in plain data, for generic code (own)
abbrev pub trees_code : Coded (List TreeMap)
trees_code = coded_list tree.the_row.coded
