-- How marks are set.
use Rattle.std.specs.Prelude.{◌≡◌, ℕ, List, slice_get, Some, Contains}
use Rattle.rows.specs.declared.row.Origin.{Origin}
use Rattle.rows.specs.declared.row.Origin.TheVariants.{Stage as StageOf}
use Rattle.stages.specs.declared.stage.ResolvedStage.{ResolvedStage}
use Rattle.stages.specs.Table.{IsStage}

-- a stage is among these origins
abbrev pub HasStage : List Origin → ℕ → Type 0
HasStage origins stage = Contains origins (StageOf stage)

-- each of some stages is one in its place
abbrev pub AreInPlace : List ResolvedStage → Type 0
AreInPlace stages = (number : ℕ) (stage : ResolvedStage) → slice_get stages number ≡ Some stage → IsStage number stage
