-- What comes after an instruction that fails.
use Rattle.std.specs.Prelude.{◌≡◌, ℕ, List, [], ◌∷◌, ◌++◌, true, false, length, Option, Some, None, Ok, Err, refl}
use Rattle.std.proofs.Common.{ap, ◌∙◌}
use Rattle.trees.specs.TreeMap.{TreeMap}
use Rattle.trees.specs.declared.cause.Cause.{Cause}
use Rattle.plans.specs.Value.{World, Value, tree_of}
use Rattle.rows.specs.declared.row.Action.{Action}
use Rattle.rows.specs.declared.row.Action.TheVariants.{Run, Copy, MakeDirs}
use Rattle.rows.specs.declared.row.Step.{Step}
use Rattle.rows.specs.declared.row.Stage.{Stage}
use Rattle.lowering.specs.Meaning.{Rows, Trees, origin_tree, laid_over, action_value, tree_after, trees_of, tree_of_stage}
use Rattle.lowering.specs.Positions.{StepFails}
use Rattle.lowering.proofs.MeaningLaws.{tree_after-append}
use Rattle.lowering.proofs.PositionLaws.{stage_is}

-- nothing is laid over no tree
no_ground : (value : Value) → tree_of (laid_over None value) ≡ None
no_ground None = refl
no_ground (Some (Err cause)) = refl
no_ground (Some (Ok tree)) = refl

-- an instruction gives no tree where none was before it
no_tree : (w : World) (trees : Trees) (action : Action) → tree_of (action_value w trees None action) ≡ None
no_tree w trees (Run exec from) = refl
no_tree w trees (Copy files from false) = refl
no_tree w trees (Copy files from true) = no_ground _
no_tree w trees (MakeDirs path) = refl

no_trees : (w : World) (trees : Trees) (steps : List Step) → tree_after w trees None steps ≡ None
no_trees w trees [] = refl
no_trees w trees (step ∷ steps) =
    ap (λ (before : Option TreeMap). tree_after w trees before steps) (no_tree w trees step.action) ∙ no_trees w trees steps

pub steps_none : (w : World) (trees : Trees) (base : Option TreeMap) (steps : List Step) (line : ℕ) (cause : Cause)
    → StepFails w trees base steps line cause → tree_after w trees base steps ≡ None
steps_none w trees base steps line cause fails =
    ap (tree_after w trees base) fails.there
    ∙ (tree_after-append w trees base fails.before (fails.step ∷ fails.after)
    ∙ (ap (λ (value : Value). tree_after w trees (tree_of value) fails.after) fails.gives ∙ no_trees w trees fails.after))

pub stage_none : (w : World) (before after : Rows) (stage : Stage) (line : ℕ) (cause : Cause)
    → StepFails w (trees_of w before) (origin_tree w (trees_of w before) stage.base) stage.steps line cause
    → tree_of_stage w (before ++ Some stage ∷ after) (length before) ≡ None
stage_none w before after stage line cause fails =
    stage_is w before after (Some stage)
    ∙ steps_none w (trees_of w before) (origin_tree w (trees_of w before) stage.base) stage.steps line cause fails
