-- The first failure of a file is the first of its failures, and that of the least line.
use Rattle.std.proofs.Common.{◌≡◌, ◌⊎◌, inl, inr, ◌<◌, ◌≤◌, ℕ, List, [], ◌∷◌, ◌++◌, map, Option, Some, None, Result, Ok, Err, refl, sym, ◌∙◌, subst, arith}
use Rattle.std.specs.Prelude.{Contains}
use Rattle.std.specs.Result.{result_err}
use Rattle.trees.specs.TreeMap.{TreeMap}
use Rattle.trees.specs.declared.cause.Cause.{Cause}
use Rattle.plans.specs.Value.{World, Value, tree_of}
use Rattle.llb.specs.Places.{AscendFrom}
use Rattle.llb.proofs.LineFacts.{contains_nil, contains_here, contains_cases}
use Rattle.rows.specs.declared.row.Step.{Step}
use Rattle.rows.specs.declared.row.Stage.{Stage}
use Rattle.lowering.specs.Meaning.{Rows, Trees, origin_tree, action_value, tree_after, stage_tree, failure_of, step_failures, stage_failures, failures_from, failures_of, Fails}
use Rattle.lowering.specs.Meaning.{run_end, goes_on, serial_steps, serial_stage, serial_from, serial}
use Rattle.rows.specs.Order.{file_lines, IsInOrder}

-- the first of some failures
abbrev pub first_of : List (ℕ × Cause) → Option (ℕ × Cause)
first_of [] = None
first_of (failure ∷ failures) = Some failure

-- the first of the failures of some instructions and of more ones is that of a run, which goes on after these instructions
steps_first : (w : World) (trees : Trees) (before : Option TreeMap) (steps : List Step) (more : List (ℕ × Cause)) (rest : Option TreeMap → Result Trees (ℕ × Cause))
    → first_of more ≡ result_err (rest (tree_after w trees before steps))
    → first_of (step_failures w trees before steps ++ more) ≡ result_err (goes_on rest (serial_steps w trees before steps))
steps_first w trees before [] more rest e = e
steps_first w trees before (step ∷ steps) more rest e =
    by_value (action_value w trees before step.action) (λ tree f. steps_first w trees tree steps more rest f) e
  where
    by_value : (value : Value)
        → ((tree : Option TreeMap) → first_of more ≡ result_err (rest (tree_after w trees tree steps))
        → first_of (step_failures w trees tree steps ++ more) ≡ result_err (goes_on rest (serial_steps w trees tree steps)))
        → first_of more ≡ result_err (rest (tree_after w trees (tree_of value) steps))
        → first_of ((failure_of step.line value ++ step_failures w trees (tree_of value) steps) ++ more)
        ≡ result_err (goes_on rest (goes_on (λ tree. serial_steps w trees tree steps) (run_end step.line value)))
    by_value None go f = go None f
    by_value (Some (Ok tree)) go f = go (Some tree) f
    by_value (Some (Err cause)) go f = refl

stage_first : (w : World) (trees : Trees) (row : Option Stage) (more : List (ℕ × Cause)) (rest : Option TreeMap → Result Trees (ℕ × Cause))
    → first_of more ≡ result_err (rest (stage_tree w trees row)) → first_of (stage_failures w trees row ++ more) ≡ result_err (goes_on rest (serial_stage w trees row))
stage_first w trees None more rest e = e
stage_first w trees (Some stage) more rest e = steps_first w trees (origin_tree w trees stage.base) stage.steps more rest e

rows_first : (w : World) (trees : Trees) (rows : Rows) → first_of (failures_from w trees rows) ≡ result_err (serial_from w trees rows)
rows_first w trees [] = refl
rows_first w trees (row ∷ rows) =
    stage_first w trees row (failures_from w (trees ++ stage_tree w trees row ∷ []) rows) (λ tree. serial_from w (trees ++ tree ∷ []) rows)
    (rows_first w (trees ++ stage_tree w trees row ∷ []) rows)

pub serial_is : (w : World) (rows : Rows) → serial w rows ≡ first_of (failures_of w rows)
serial_is w rows = sym (rows_first w [] rows)

-- ---- lines ascend

pub ascend_lower : (low high : ℕ) (lines : List ℕ) → low ≤ high → AscendFrom high lines → AscendFrom low lines
ascend_lower low high [] le ascend = tt
ascend_lower low high (line ∷ lines) le ascend = (let l = ascend.0 in omega (arith, le, l), (ascend.1.0, ascend.1.1))

abbrev lines_in : List (ℕ × Cause) → List ℕ
lines_in failures = map (λ (failure : ℕ × Cause). failure.0) failures

-- failures that ascend from wherever the lines behind them do
abbrev AscendAs : List (ℕ × Cause) → List ℕ → Type 0
AscendAs failures lines = (low : ℕ) → AscendFrom low lines → AscendFrom low (lines_in failures)

steps_ascend : (w : World) (trees : Trees) (before : Option TreeMap) (steps : List Step) (more : List (ℕ × Cause)) (lines : List ℕ) → AscendAs more lines
    → AscendAs (step_failures w trees before steps ++ more) (map (λ (step : Step). step.line) steps ++ lines)
steps_ascend w trees before [] more lines ascends = ascends
steps_ascend w trees before (step ∷ steps) more lines ascends =
    λ low ascend. by_value (action_value w trees before step.action) low ascend
    (λ tree. steps_ascend w trees tree steps more lines ascends step.line ascend.1.1)
  where
    by_value : (value : Value) (low : ℕ) → AscendFrom low (step.line ∷ (map (λ (s : Step). s.line) steps ++ lines))
        → ((tree : Option TreeMap) → AscendFrom step.line (lines_in (step_failures w trees tree steps ++ more)))
        → AscendFrom low (lines_in ((failure_of step.line value ++ step_failures w trees (tree_of value) steps) ++ more))
    by_value None low ascend rest = ascend_lower low step.line _ (let l = ascend.0 in omega (arith, l)) (rest None)
    by_value (Some (Ok tree)) low ascend rest = ascend_lower low step.line _ (let l = ascend.0 in omega (arith, l)) (rest (Some tree))
    by_value (Some (Err cause)) low ascend rest = (ascend.0, (ascend.1.0, rest None))

rows_ascend : (w : World) (trees : Trees) (rows : Rows) → AscendAs (failures_from w trees rows) (file_lines rows)
rows_ascend w trees [] = λ low ascend. tt
rows_ascend w trees (None ∷ rows) = rows_ascend w (trees ++ None ∷ []) rows
rows_ascend w trees (Some stage ∷ rows) = λ low ascend.
    ascend_lower low stage.line _ (let l = ascend.0 in omega (arith, l))
    (steps_ascend w trees (origin_tree w trees stage.base) stage.steps
    (failures_from w (trees ++ stage_tree w trees (Some stage) ∷ []) rows) (file_lines rows) (rows_ascend w (trees ++ stage_tree w trees (Some stage) ∷ []) rows)
    stage.line ascend.1.1)

-- each of some failures comes after a line from which they ascend
later : (failures : List (ℕ × Cause)) (low : ℕ) (failure : ℕ × Cause) → AscendFrom low (lines_in failures) → Contains failures failure → low < failure.0
later [] low failure ascend h = absurd (contains_nil {X = ℕ × Cause} failure h)
later (first ∷ failures) low failure ascend h = elim (contains_cases {X = ℕ × Cause} first failure failures h) [
  | inl same ↦ subst (λ (f : ℕ × Cause). low < f.0) (sym same) ascend.0
  | inr rest ↦ (let l = later failures first.0 failure ascend.1.1 rest in let k = ascend.0 in omega (arith, l, k))
]

-- what fails on a line: the first failure is it, or comes on a lesser line
first_is_least : (failures : List (ℕ × Cause)) (failure : ℕ × Cause) → AscendFrom 0 (lines_in failures) → Contains failures failure
    → (first : ℕ × Cause) × (first_of failures ≡ Some first) × ((first ≡ failure) ⊎ (first.0 < failure.0))
first_is_least [] failure ascend h = absurd (contains_nil {X = ℕ × Cause} failure h)
first_is_least (first ∷ failures) failure ascend h = (
  first,
  refl,
  elim (contains_cases {X = ℕ × Cause} first failure failures h) [
    | inl same ↦ inl (sym same)
    | inr rest ↦ inr (later failures first.0 failure ascend.1.1 rest)
  ],
)

pub serial_least : (w : World) (rows : Rows) (line : ℕ) (cause : Cause) → IsInOrder rows → Fails w rows line cause
    → (first : ℕ × Cause) × (serial w rows ≡ Some first) × ((first ≡ (line, cause)) ⊎ (first.0 < line))
serial_least w rows line cause in_order fails =
    let first = first_is_least (failures_of w rows) (line, cause) (rows_ascend w [] rows 0 in_order) fails in
    (first.0, serial_is w rows ∙ first.1, first.2)

first_among : (failures : List (ℕ × Cause)) (first : ℕ × Cause) → first_of failures ≡ Some first → Contains failures first
first_among [] first e = cc
first_among (failure ∷ failures) first e =
    let same : failure ≡ first = cc in
    subst (Contains (failure ∷ failures)) same (contains_here {X = ℕ × Cause} failure failures)

-- the first failure is one
pub serial_fails : (w : World) (rows : Rows) (first : ℕ × Cause) → serial w rows ≡ Some first → Fails w rows first.0 first.1
serial_fails w rows first e = first_among (failures_of w rows) first (sym (serial_is w rows) ∙ e)

some_first : (failures : List (ℕ × Cause)) (failure : ℕ × Cause) → Contains failures failure → (first : ℕ × Cause) × (first_of failures ≡ Some first)
some_first [] failure h = absurd (contains_nil {X = ℕ × Cause} failure h)
some_first (first ∷ failures) failure h = (first, refl)

-- where an instruction fails, one fails first
pub serial_there : (w : World) (rows : Rows) (line : ℕ) (cause : Cause) → Fails w rows line cause → (first : ℕ × Cause) × (serial w rows ≡ Some first)
serial_there w rows line cause fails =
    let first = some_first (failures_of w rows) (line, cause) fails in
    (first.0, serial_is w rows ∙ first.1)
