use Rattle.std.proofs.Common.{◌≡◌, drop}
use Rattle.std.specs.List.{list_all}
use Rattle.rewrite.specs.PrivateFlat.{stands_flat}
use Rattle.rewrite.proofs.links.is_flat.Given as goal

-- the vertices that are left decide
abbrev pub invariant-loop-vertex : goal.invariant-loop-vertex
invariant-loop-vertex l = list_all (stands_flat l.vertices) (drop l.vertex-index l.vertices) ≡ list_all (stands_flat l.vertices) l.vertices
