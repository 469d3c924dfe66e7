-- Which stages a target needs.
use Rattle.std.specs.Prelude.{◌≡◌, ◌↔◌, ◌++◌, ℕ, Bool, true, List, [], ◌∷◌, Some, length, slice_get, Contains}
use Rattle.plain.specs.Marks.{is_marked, IsReached}
use Rattle.rows.specs.declared.row.Origin.{Origin}
use Rattle.rows.specs.declared.row.Origin.TheVariants.{Stage as StageOf}
use Rattle.stages.specs.declared.stage.ResolvedInstruction.{ResolvedInstruction}
use Rattle.stages.specs.declared.stage.ResolvedStage.{ResolvedStage}

-- all that some instructions name
abbrev pub origins_in : List ResolvedInstruction → List Origin
origins_in [] = []
origins_in (r ∷ rs) = r.origins ++ origins_in rs

-- all that a stage names: what it begins with, and what its instructions name
abbrev pub stage_origins : ResolvedStage → List Origin
stage_origins stage = stage.base ∷ origins_in stage.instructions

-- a stage names another one by its FROM, by a `--from` or by a mount's `from`
pub record Refers (stages : List ResolvedStage) (from to : ℕ) : Type 0 where
  pub stage : ResolvedStage
  pub there : slice_get stages from ≡ Some stage
  pub named : Contains (stage_origins stage) (StageOf to)

-- a stage is needed: it is the target, or is named by a stage that is needed. So the stages that are needed are the least set that has the
-- target and, with each stage, all that it names, as the law `the_least_stages_are_needed` says (Dockerfile reference, multi-stage builds)
abbrev pub IsNeeded : List ResolvedStage → ℕ → ℕ → Type 0
IsNeeded stages target stage = IsReached (Refers stages) target stage

-- a set of stages has the target and, with each stage, all that it names
pub record IsClosed (stages : List ResolvedStage) (target : ℕ) (has : ℕ → Bool) : Type 0 where
  pub has_target : has target ≡ true
  pub has_named : (from to : ℕ) → has from ≡ true → Refers stages from to → has to ≡ true

-- there is a mark for each stage, and just those that are needed are marked
pub record AreNeeded (stages : List ResolvedStage) (target : ℕ) (marks : List Bool) : Type 0 where
  pub long : length marks ≡ length stages
  pub just : (stage : ℕ) → is_marked marks stage ≡ true ↔ IsNeeded stages target stage
