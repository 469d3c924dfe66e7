-- What follows of the meaning of a file.
use Rattle.std.specs.Prelude.{◌≡◌, ℕ, List, [], ◌∷◌, ◌++◌, Option, refl}
use Rattle.std.proofs.Common.{ap, sym, ◌∙◌, append_assoc, append-nil}
use Rattle.trees.specs.TreeMap.{TreeMap}
use Rattle.trees.specs.declared.cause.Cause.{Cause}
use Rattle.plans.specs.Value.{tree_of}
use Rattle.rows.specs.declared.row.Step.{Step}
use Rattle.rows.specs.declared.row.Stage.{Stage}
use Rattle.plans.specs.Value.{World}
use Rattle.lowering.specs.Meaning.{Rows, Trees, action_value, tree_after, stage_tree, trees_from, trees_of, failure_of, step_failures, stage_failures}
use Rattle.lowering.specs.Meaning.{failures_from, failures_of}

pub tree_after-append : (w : World) (trees : Trees) (before : Option TreeMap) (steps more : List Step)
    → tree_after w trees before (steps ++ more) ≡ tree_after w trees (tree_after w trees before steps) more
tree_after-append w trees before [] more = refl
tree_after-append w trees before (step ∷ steps) more = tree_after-append w trees (tree_of (action_value w trees before step.action)) steps more

pub step_failures-append : (w : World) (trees : Trees) (before : Option TreeMap) (steps more : List Step)
    → step_failures w trees before (steps ++ more) ≡ step_failures w trees before steps ++ step_failures w trees (tree_after w trees before steps) more
step_failures-append w trees before [] more = refl
step_failures-append w trees before (step ∷ steps) more =
    ap (λ (fs : List (ℕ × Cause)). failure_of step.line (action_value w trees before step.action) ++ fs)
    (step_failures-append w trees (tree_of (action_value w trees before step.action)) steps more)
    ∙ sym (append_assoc (failure_of step.line (action_value w trees before step.action)) _ _)

pub trees_from-append : (w : World) (trees : Trees) (rows more : Rows) → trees_from w trees (rows ++ more) ≡ trees_from w (trees_from w trees rows) more
trees_from-append w trees [] more = refl
trees_from-append w trees (row ∷ rows) more = trees_from-append w (trees ++ stage_tree w trees row ∷ []) rows more

pub failures_from-append : (w : World) (trees : Trees) (rows more : Rows)
    → failures_from w trees (rows ++ more) ≡ failures_from w trees rows ++ failures_from w (trees_from w trees rows) more
failures_from-append w trees [] more = refl
failures_from-append w trees (row ∷ rows) more =
    ap (λ (fs : List (ℕ × Cause)). stage_failures w trees row ++ fs) (failures_from-append w (trees ++ stage_tree w trees row ∷ []) rows more)
    ∙ sym (append_assoc (stage_failures w trees row) _ _)

-- one row more
pub trees_of-more : (w : World) (rows : Rows) (row : Option Stage) → trees_of w (rows ++ row ∷ []) ≡ trees_of w rows ++ stage_tree w (trees_of w rows) row ∷ []
trees_of-more w rows row = trees_from-append w [] rows (row ∷ [])

pub failures_of-more : (w : World) (rows : Rows) (row : Option Stage)
    → failures_of w (rows ++ row ∷ []) ≡ failures_of w rows ++ stage_failures w (trees_of w rows) row
failures_of-more w rows row =
    failures_from-append w [] rows (row ∷ []) ∙ ap (λ (fs : List (ℕ × Cause)). failures_of w rows ++ fs) (append-nil (stage_failures w (trees_of w rows) row))
