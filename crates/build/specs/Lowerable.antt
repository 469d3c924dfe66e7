-- What the plan of a build has to be made from: evaluation makes such.
use Rattle.std.specs.Prelude.{◌≡◌, ◌<◌, ◌≤◌, Some, slice_get}
use Rattle.std.specs.List.{All}
use Rattle.std.specs.FinMap.{len}
use Rattle.plain.specs.Limits.{most_images, most_lines}
use Rattle.rows.specs.WellFormed.{IsWellFormed, RowNames, HasTree, count_of_steps}
use Rattle.rows.specs.Order.{IsInOrder, NeedsAllStages}
use Rattle.rows.specs.declared.row.Stage.{Stage}
use Rattle.evaluation.specs.declared.evaluated.Evaluated.{Evaluated}

-- the rows are well formed, the target is one of them that isn't left out, each source that they name has its tree, there are no more images
-- and instructions than a Dockerfile within its limits has, lines ascend, and the target needs all stages that aren't left out
pub record IsLowerable (made : Evaluated) : Type 0 where
  pub rows : IsWellFormed made.rows
  pub target : (stage : Stage) × (slice_get made.rows made.target ≡ Some (Some stage))
  pub named : All (RowNames (HasTree made.sources)) made.rows
  pub images : len made.sources.images ≤ most_images
  pub steps : count_of_steps made.rows < most_lines
  pub order : IsInOrder made.rows
  pub needs : NeedsAllStages made.rows made.target
