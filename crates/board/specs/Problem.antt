-- When a problem can be solved, and the values of its vertices.
use Rattle.std.specs.Prelude.{◌<◌, List, Option, length}
use Rattle.trees.specs.Cause.{TreeOrCause}
use Rattle.llb.specs.Graph.{AreVertices}
use Rattle.plans.specs.Plan.{Problem}
use Rattle.plans.specs.Sources.{HasSources}
use Rattle.plans.specs.Value.{values_of}

-- the values of all vertices of a problem, by their ids (own)
abbrev pub values_in : Problem → List (Option TreeOrCause)
values_in problem = values_of problem.out problem.sources problem.vertices

-- a problem can be solved: its vertices are those of a graph, the target is one of them, and each source has its tree (own)
pub record IsProblem (problem : Problem) : Type 0 where
  pub vertices : AreVertices problem.vertices
  pub target : problem.target < length problem.vertices
  pub sources : HasSources problem.sources problem.vertices
