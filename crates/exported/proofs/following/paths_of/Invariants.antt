use Rattle.std.proofs.Common.{◌≡◌, ◌++◌, drop}
use Rattle.exported.specs.Following.{named_paths, paths_of}
use Rattle.exported.proofs.following.paths_of.Given as goal

-- the paths so far, and those of what is left
abbrev pub invariant-loop-vertex : goal.invariant-loop-vertex
invariant-loop-vertex l = l.paths ++ named_paths l.vertices (drop l.vertex-index l.vertices) ≡ paths_of l.graph l.fn.wanted
