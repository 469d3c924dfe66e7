-- What the stages of a Dockerfile give, from left to right (Dockerfile reference). Nothing here knows a graph, a vertex or a worker.
use Rattle.std.specs.Prelude.{ℕ, List, [], ◌∷◌, ◌++◌, map, true, false, Option, Some, None, Result, Ok, Err, slice_index_or, Contains}
use Rattle.std.specs.Option.{option_and_then}
use Rattle.std.specs.Result.{result_err}
use Rattle.trees.specs.TreeMap.{TreeMap, empty_tree}
use Rattle.trees.specs.Over.{over}
use Rattle.trees.specs.declared.cause.Cause.{Cause}
use Rattle.llb.specs.declared.op.Op.{Op}
use Rattle.llb.specs.declared.op.Op.TheVariants.{Exec as ExecOp, Copy as CopyOp, MakeDirs as MakeDirsOp}
use Rattle.plans.specs.Sources.{source_tree}
use Rattle.plans.specs.Value.{Value, tree_of, result_of}
use Rattle.plans.specs.Value.{World, all_trees}
pub use Rattle.rows.specs.Rows.{Rows, listed}
use Rattle.rows.specs.declared.row.Origin.{Origin}
use Rattle.rows.specs.declared.row.Origin.TheVariants.{Source as SourceOf, Stage as StageOf}
use Rattle.rows.specs.declared.row.Action.{Action}
use Rattle.rows.specs.declared.row.Action.TheVariants.{Run, Copy, MakeDirs}
use Rattle.rows.specs.declared.row.Step.{Step}
use Rattle.rows.specs.declared.row.Stage.{Stage}

-- the trees of stages by their numbers; none where a stage's tree is undefined
abbrev pub Trees : Type 0
Trees = List (Option TreeMap)

-- the tree that an instruction names, beside the trees of the stages before it
abbrev pub origin_tree : World → Trees → Origin → Option TreeMap
origin_tree w trees (SourceOf source) = source_tree w.sources source
origin_tree w trees (StageOf number) = slice_index_or trees number None

-- what an operation gives on some trees; nothing where one of them is undefined
abbrev pub value_with : World → Op → Trees → Value
value_with w op trees = option_and_then (result_of w.out w.sources op) (all_trees trees)

-- what a linked copy gives: what it copied, laid over the tree before it. It fails on its own, whatever the tree before it is
abbrev pub laid_over : Option TreeMap → Value → Value
laid_over before None = None
laid_over before (Some (Err cause)) = Some (Err cause)
laid_over None (Some (Ok tree)) = None
laid_over (Some base) (Some (Ok tree)) = Some (Ok (over base tree))

-- the value of an instruction on the tree before it: a tree or a cause; nothing where one of the trees that it needs is undefined
-- (Dockerfile reference: RUN, COPY, COPY --link, WORKDIR)
abbrev pub action_value : World → Trees → Option TreeMap → Action → Value
action_value w trees before (Run exec from) = value_with w (ExecOp exec) (before ∷ map (origin_tree w trees) from)
action_value w trees before (Copy files from false) = value_with w (CopyOp files) (before ∷ map (origin_tree w trees) (listed from))
action_value w trees before (Copy files from true) =
    laid_over before (value_with w (CopyOp files) (Some empty_tree ∷ map (origin_tree w trees) (listed from)))
action_value w trees before (MakeDirs path) = value_with w (MakeDirsOp path) (before ∷ [])

-- the tree after some instructions, each on the tree that those before it left
abbrev pub tree_after : World → Trees → Option TreeMap → List Step → Option TreeMap
tree_after w trees before [] = before
tree_after w trees before (step ∷ steps) = tree_after w trees (tree_of (action_value w trees before step.action)) steps

-- the tree of a stage, beside the trees of the stages before it; a stage that is left out has none
abbrev pub stage_tree : World → Trees → Option Stage → Option TreeMap
stage_tree w trees None = None
stage_tree w trees (Some stage) = tree_after w trees (origin_tree w trees stage.base) stage.steps

-- the trees of some stages, and those of the stages after them
abbrev pub trees_from : World → Trees → Rows → Trees
trees_from w trees [] = trees
trees_from w trees (row ∷ rows) = trees_from w (trees ++ stage_tree w trees row ∷ []) rows

-- the trees of all stages of a file
abbrev pub trees_of : World → Rows → Trees
trees_of w rows = trees_from w [] rows

-- the tree of one stage of a file
abbrev pub tree_of_stage : World → Rows → ℕ → Option TreeMap
tree_of_stage w rows number = slice_index_or (trees_of w rows) number None

-- the failure that the value of an instruction is, with its line
abbrev pub failure_of : ℕ → Value → List (ℕ × Cause)
failure_of line None = []
failure_of line (Some (Ok tree)) = []
failure_of line (Some (Err cause)) = (line, cause) ∷ []

-- the instructions that fail, each with its cause
abbrev pub step_failures : World → Trees → Option TreeMap → List Step → List (ℕ × Cause)
step_failures w trees before [] = []
step_failures w trees before (step ∷ steps) =
    failure_of step.line (action_value w trees before step.action)
    ++ step_failures w trees (tree_of (action_value w trees before step.action)) steps

-- those of a stage
abbrev pub stage_failures : World → Trees → Option Stage → List (ℕ × Cause)
stage_failures w trees None = []
stage_failures w trees (Some stage) = step_failures w trees (origin_tree w trees stage.base) stage.steps

-- those of the stages after some
abbrev pub failures_from : World → Trees → Rows → List (ℕ × Cause)
failures_from w trees [] = []
failures_from w trees (row ∷ rows) = stage_failures w trees row ++ failures_from w (trees ++ stage_tree w trees row ∷ []) rows

-- the failures of a file, in its order
abbrev pub failures_of : World → Rows → List (ℕ × Cause)
failures_of w rows = failures_from w [] rows

-- an instruction on this line fails with this cause
abbrev pub Fails : World → Rows → ℕ → Cause → Type 0
Fails w rows line cause = Contains (failures_of w rows) (line, cause)

-- ---- the run that stops at the first failure (own): the stages in the order of the file, instruction by instruction

-- what the run of an instruction ends with, by its value: the tree that it leaves, or its line and its cause if it fails. One that has no
-- value doesn't fail, and leaves no tree (own)
abbrev pub run_end : ℕ → Value → Result (Option TreeMap) (ℕ × Cause)
run_end line None = Ok None
run_end line (Some (Ok tree)) = Ok (Some tree)
run_end line (Some (Err cause)) = Err (line, cause)

-- the rest of a run, on what the part before it left; a failure ends the run (own)
abbrev pub goes_on : {X Y : Type 0} → (X → Result Y (ℕ × Cause)) → Result X (ℕ × Cause) → Result Y (ℕ × Cause)
goes_on rest (Ok left) = rest left
goes_on rest (Err failure) = Err failure

-- what instructions leave that are run one after another on a tree, or the first failure (own)
abbrev pub serial_steps : World → Trees → Option TreeMap → List Step → Result (Option TreeMap) (ℕ × Cause)
serial_steps w trees before [] = Ok before
serial_steps w trees before (step ∷ steps) =
    goes_on (λ tree. serial_steps w trees tree steps) (run_end step.line (action_value w trees before step.action))

-- what a stage leaves, or its first failure; one that is left out isn't run (own)
abbrev pub serial_stage : World → Trees → Option Stage → Result (Option TreeMap) (ℕ × Cause)
serial_stage w trees None = Ok None
serial_stage w trees (Some stage) = serial_steps w trees (origin_tree w trees stage.base) stage.steps

-- the trees of some stages and of those after them, which are run one after another, or the first failure (own)
abbrev pub serial_from : World → Trees → Rows → Result Trees (ℕ × Cause)
serial_from w trees [] = Ok trees
serial_from w trees (row ∷ rows) = goes_on (λ tree. serial_from w (trees ++ tree ∷ []) rows) (serial_stage w trees row)

-- the first failure of a file: the line and the cause of the instruction at which the run of all its stages stops; none if it doesn't stop
-- (own)
abbrev pub serial : World → Rows → Option (ℕ × Cause)
serial w rows = result_err (serial_from w [] rows)
