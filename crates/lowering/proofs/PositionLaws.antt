-- The meaning by positions is the meaning.
use Rattle.std.specs.Prelude.{◌≡◌, ◌<◌, ◌+◌, ℕ, zero, suc, List, [], ◌∷◌, ◌++◌, length, Option, Some, None, Ok, Err, slice_index_or, Contains, refl}
use Rattle.std.proofs.Common.{inl, inr, arith, ap, sym, ◌∙◌, subst, length-append}
use Rattle.std.proofs.lemmas.List.{get_or_append_left, get_or-append-add}
use Rattle.std.proofs.lemmas.List.Elements.{Contains-append_left, Contains-append_right, Contains-append_cases}
use Rattle.trees.specs.TreeMap.{TreeMap}
use Rattle.trees.specs.declared.cause.Cause.{Cause}
use Rattle.plans.specs.Value.{Value, tree_of}
use Rattle.rows.specs.declared.row.Step.{Step}
use Rattle.rows.specs.declared.row.Stage.{Stage}
use Rattle.plans.specs.Value.{World}
use Rattle.lowering.specs.Meaning.{Rows, Trees, origin_tree, action_value, tree_after, stage_tree, trees_from, trees_of, failure_of, step_failures}
use Rattle.lowering.specs.Meaning.{stage_failures, failures_from, failures_of, Fails}
use Rattle.lowering.proofs.MeaningLaws.{trees_from-append, step_failures-append, failures_from-append}
use Rattle.lowering.specs.Positions.{StepFails, StageFails}

kept : (w : World) (trees : Trees) (rows : Rows) (k : ℕ) → k < length trees → slice_index_or (trees_from w trees rows) k None ≡ slice_index_or trees k None
kept w trees [] k lt = refl
kept w trees (row ∷ rows) k lt =
    let more : length (trees ++ stage_tree w trees row ∷ []) ≡ length trees + 1 = length-append trees (stage_tree w trees row ∷ []) in
    kept w (trees ++ stage_tree w trees row ∷ []) rows k (omega (arith, lt)) ∙ get_or_append_left trees (stage_tree w trees row ∷ []) None k lt

long : (w : World) (trees : Trees) (rows : Rows) → length (trees_from w trees rows) ≡ length trees + length rows
long w trees [] = omega arith
long w trees (row ∷ rows) =
    let more : length (trees ++ stage_tree w trees row ∷ []) ≡ length trees + 1 = length-append trees (stage_tree w trees row ∷ []) in
    let rest = long w (trees ++ stage_tree w trees row ∷ []) rows in
    omega arith

-- the tree of a stage is what its instructions give on the trees of the stages before it
pub stage_is : (w : World) (front back : Rows) (row : Option Stage)
    → slice_index_or (trees_of w (front ++ row ∷ back)) (length front) None ≡ stage_tree w (trees_of w front) row
stage_is w front back row =
    let trees : Trees = trees_of w front in
    let n : length trees ≡ 0 + length front = long w [] front in
    let place : length trees + 0 ≡ length front = omega arith in
    let last : slice_index_or (trees ++ stage_tree w trees row ∷ []) (length front) None ≡ stage_tree w trees row =
    subst (λ k. slice_index_or (trees ++ stage_tree w trees row ∷ []) k None ≡ stage_tree w trees row) place
    (get_or-append-add trees (stage_tree w trees row ∷ []) 0 None) in
    let inside : length front < length (trees ++ stage_tree w trees row ∷ []) = omega (arith, length-append trees (stage_tree w trees row ∷ []), n) in
    ap (λ (ts : Trees). slice_index_or ts (length front) None) (trees_from-append w [] front (row ∷ back))
    ∙ (kept w (trees ++ stage_tree w trees row ∷ []) back (length front) inside ∙ last)

nothing : (p : ℕ × Cause) → Contains [] p → ⊥
nothing p h = omega (arith, h.1)

one : (a b : ℕ × Cause) → Contains (a ∷ []) b → a ≡ b
one a b h = at h.0 h.1 h.2
  where
    at : (k : ℕ) → k < 1 → slice_index_or (a ∷ []) k b ≡ b → a ≡ b
    at zero lt e = e
    at (suc k) lt e = absurd (omega (arith, lt))

failure_is : (on line : ℕ) (value : Value) (cause : Cause) → Contains (failure_of on value) (line, cause) → (line ≡ on) × (value ≡ Some (Err cause))
failure_is on line None cause h = absurd (nothing (line, cause) h)
failure_is on line (Some (Ok tree)) cause h = absurd (nothing (line, cause) h)
failure_is on line (Some (Err why)) cause h =
    let same = one (on, why) (line, cause) h in
    (ap (λ (p : ℕ × Cause). p.0) (sym same), ap (λ (p : ℕ × Cause). Some (Err p.1)) same)

failure_there : (on line : ℕ) (value : Value) (cause : Cause) → line ≡ on → value ≡ Some (Err cause) → Contains (failure_of on value) (line, cause)
failure_there on line value cause same is = rw (same, is) (0, omega arith, refl)

later_step : (w : World) (trees : Trees) (base : Option TreeMap) (step : Step) (steps : List Step) (line : ℕ) (cause : Cause)
    → StepFails w trees (tree_of (action_value w trees base step.action)) steps line cause → StepFails w trees base (step ∷ steps) line cause
later_step w trees base step steps line cause f =
    record { before = step ∷ f.before; step = f.step; after = f.after; there = ap (λ ss. step ∷ ss) f.there; on = f.on; gives = f.gives }

pub step_fails : (w : World) (trees : Trees) (base : Option TreeMap) (steps : List Step) (line : ℕ) (cause : Cause)
    → Contains (step_failures w trees base steps) (line, cause) → StepFails w trees base steps line cause
step_fails w trees base [] line cause h = absurd (nothing (line, cause) h)
step_fails w trees base (step ∷ steps) line cause h =
    elim (Contains-append_cases (failure_of step.line (action_value w trees base step.action))
    (step_failures w trees (tree_of (action_value w trees base step.action)) steps) (line, cause) h) [
      | inl here ↦ (let f =
          failure_is step.line line (action_value w trees base step.action) cause here in record
          { before = []; step = step; after = steps; there = refl; on = f.0; gives = f.1 })
      | inr more ↦ later_step w trees base step steps line cause (step_fails w trees (tree_of (action_value w trees base step.action)) steps line cause more)
    ]

pub fails_step : (w : World) (trees : Trees) (base : Option TreeMap) (steps : List Step) (line : ℕ) (cause : Cause)
    → StepFails w trees base steps line cause → Contains (step_failures w trees base steps) (line, cause)
fails_step w trees base steps line cause f =
    let rest : List (ℕ × Cause) = step_failures w trees (tree_of (action_value w trees (tree_after w trees base f.before) f.step.action)) f.after in
    let here : Contains (failure_of f.step.line (action_value w trees (tree_after w trees base f.before) f.step.action)) (line, cause) =
    failure_there f.step.line line (action_value w trees (tree_after w trees base f.before) f.step.action) cause f.on f.gives in
    subst (λ (fs : List (ℕ × Cause)). Contains fs (line, cause))
    (sym (ap (step_failures w trees base) f.there ∙ step_failures-append w trees base f.before (f.step ∷ f.after)))
    (Contains-append_right (step_failures w trees base f.before) _ (line, cause)
    (Contains-append_left (failure_of f.step.line (action_value w trees (tree_after w trees base f.before) f.step.action)) rest (line, cause) here))

-- some stages after these trees have such an instruction
record LaterFails (w : World) (trees : Trees) (rows : Rows) (line : ℕ) (cause : Cause) : Type 0 where
  pub before : Rows
  pub stage : Stage
  pub after : Rows
  pub there : rows ≡ before ++ Some stage ∷ after
  pub fails : StepFails w (trees_from w trees before) (origin_tree w (trees_from w trees before) stage.base) stage.steps line cause

later_row : (w : World) (trees : Trees) (row : Option Stage) (rows : Rows) (line : ℕ) (cause : Cause)
    → LaterFails w (trees ++ stage_tree w trees row ∷ []) rows line cause → LaterFails w trees (row ∷ rows) line cause
later_row w trees row rows line cause f =
    record { before = row ∷ f.before; stage = f.stage; after = f.after; there = ap (λ rs. row ∷ rs) f.there; fails = f.fails }

first_row : (w : World) (trees : Trees) (row : Option Stage) (rows : Rows) (line : ℕ) (cause : Cause)
    → Contains (stage_failures w trees row) (line, cause) → LaterFails w trees (row ∷ rows) line cause
first_row w trees None rows line cause h = absurd (nothing (line, cause) h)
first_row w trees (Some stage) rows line cause h =
    record { before = []; stage = stage; after = rows; there = refl; fails = step_fails w trees (origin_tree w trees stage.base) stage.steps line cause h }

later_fails : (w : World) (trees : Trees) (rows : Rows) (line : ℕ) (cause : Cause) → Contains (failures_from w trees rows) (line, cause)
    → LaterFails w trees rows line cause
later_fails w trees [] line cause h = absurd (nothing (line, cause) h)
later_fails w trees (row ∷ rows) line cause h =
    elim (Contains-append_cases (stage_failures w trees row) (failures_from w (trees ++ stage_tree w trees row ∷ []) rows) (line, cause) h) [
      | inl here ↦ first_row w trees row rows line cause here
      | inr more ↦ later_row w trees row rows line cause (later_fails w (trees ++ stage_tree w trees row ∷ []) rows line cause more)
    ]

pub stage_fails : (w : World) (rows : Rows) (line : ℕ) (cause : Cause) → Fails w rows line cause → StageFails w rows line cause
stage_fails w rows line cause h =
    (let f = later_fails w [] rows line cause h in record { before = f.before; stage = f.stage; after = f.after; there = f.there; fails = f.fails })

pub fails_stage : (w : World) (rows : Rows) (line : ℕ) (cause : Cause) → StageFails w rows line cause → Fails w rows line cause
fails_stage w rows line cause f =
    let trees : Trees = trees_of w f.before in
    let here : Contains (stage_failures w trees (Some f.stage)) (line, cause) =
    fails_step w trees (origin_tree w trees f.stage.base) f.stage.steps line cause f.fails in
    subst (λ (fs : List (ℕ × Cause)). Contains fs (line, cause))
    (sym (ap (failures_of w) f.there ∙ failures_from-append w [] f.before (Some f.stage ∷ f.after)))
    (Contains-append_right (failures_of w f.before) _ (line, cause) (Contains-append_left (stage_failures w trees (Some f.stage)) _ (line, cause) here))
