use Rattle.std.proofs.Common.{◌≡◌, map, take}
use Rattle.board.specs.Play.{value_at}
use Rattle.board.specs.PrivateClaim.{tree_value}
use Rattle.board.proofs.shelf.Shelf.again.Given as goal

abbrev pub invariant-loop-vertex : goal.invariant-loop-vertex
invariant-loop-vertex g l = (l.self ≡ l.fn.self) × (map tree_value l.inputs ≡ map (value_at l.fn.self) (take l.vertex-index l.vertices))
