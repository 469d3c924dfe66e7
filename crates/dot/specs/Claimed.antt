-- What is claimed of the statements of a drawing (own).
use Rattle.std.specs.Prelude.{ℕ, ◌+◌, ◌==◌, Bool, false, Option, Some, None, List, [], ◌∷◌, ◌++◌, map}
use Rattle.std.specs.List.{filter_map, count_by}
use Rattle.llb.specs.declared.vertex.Vertex.{Vertex}
use Rattle.dot.specs.Drawn.{Statement, Node, Cache, Begin, End, Edge, Mount}

-- whether a statement is the node of the vertex of this number
abbrev pub is_node_of : ℕ → Statement → Bool
is_node_of k (Node number label shape is_target) = number == k
is_node_of k (Cache number id) = false
is_node_of k (Begin stage) = false
is_node_of k End = false
is_node_of k (Edge from to attributes) = false
is_node_of k (Mount cache to target) = false

-- how many of some statements are the node of this vertex
abbrev pub nodes_of : ℕ → List Statement → ℕ
nodes_of k statements = count_by (is_node_of k) statements

-- the vertices of an edge from an input
abbrev pub ends_of : Statement → Option (ℕ × ℕ)
ends_of (Node number label shape is_target) = None
ends_of (Cache number id) = None
ends_of (Begin stage) = None
ends_of End = None
ends_of (Edge from to attributes) = Some (from, to)
ends_of (Mount cache to target) = None

-- the edges from inputs among some statements, in their order
abbrev pub edges_in : List Statement → List (ℕ × ℕ)
edges_in statements = filter_map ends_of statements

-- the inputs of some vertices, of which the first has this number: each with the vertex that it is an input of, in their order
abbrev pub inputs_of : ℕ → List Vertex → List (ℕ × ℕ)
inputs_of number [] = []
inputs_of number (v ∷ vs) = map (λ from. (from, number)) v.inputs ++ inputs_of (number + 1) vs
