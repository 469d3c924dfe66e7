-- The same by positions: where an instruction stands that fails, and what those before it left (own).
use Rattle.std.specs.Prelude.{◌≡◌, ℕ, List, ◌∷◌, ◌++◌, Option, Some, Err}
use Rattle.trees.specs.TreeMap.{TreeMap}
use Rattle.trees.specs.declared.cause.Cause.{Cause}
use Rattle.plans.specs.Value.{World}
use Rattle.rows.specs.declared.row.Step.{Step}
use Rattle.rows.specs.declared.row.Stage.{Stage}
use Rattle.lowering.specs.Meaning.{Rows, Trees, origin_tree, action_value, tree_after, trees_of}

-- of some instructions, one on this line has this cause on the tree that those before it left
pub record StepFails (w : World) (trees : Trees) (base : Option TreeMap) (steps : List Step) (line : ℕ) (cause : Cause) : Type 0 where
  pub before : List Step
  pub step : Step
  pub after : List Step
  pub there : steps ≡ before ++ step ∷ after
  pub on : line ≡ step.line
  pub gives : action_value w trees (tree_after w trees base before) step.action ≡ Some (Err cause)

-- of the stages of a file, one that isn't left out has such an instruction, beside the trees of the stages before it
pub record StageFails (w : World) (rows : Rows) (line : ℕ) (cause : Cause) : Type 0 where
  pub before : Rows
  pub stage : Stage
  pub after : Rows
  pub there : rows ≡ before ++ Some stage ∷ after
  pub fails : StepFails w (trees_of w before) (origin_tree w (trees_of w before) stage.base) stage.steps line cause
