-- The order of a file's lines, and which of its stages the target needs (own).
use Rattle.std.specs.Prelude.{◌≡◌, ◌⊎◌, ℕ, List, [], ◌∷◌, ◌++◌, map, Option, Some, None, slice_get, Contains}
use Rattle.plain.specs.Marks.{IsReached}
use Rattle.llb.specs.Places.{AreLines}
use Rattle.rows.specs.Rows.{Rows, listed}
use Rattle.rows.specs.declared.row.Origin.TheVariants.{Stage as StageOf}
use Rattle.rows.specs.declared.row.Action.{Action}
use Rattle.rows.specs.declared.row.Action.TheVariants.{Run, Copy, MakeDirs}
use Rattle.rows.specs.declared.row.Step.{Step}
use Rattle.rows.specs.declared.row.Stage.{Stage}

-- the lines of a stage that isn't left out: that of its FROM, and those of its instructions
abbrev pub row_lines : Option Stage → List ℕ
row_lines None = []
row_lines (Some stage) = stage.line ∷ map (λ (step : Step). step.line) stage.steps

-- the lines of a file's stages
abbrev pub file_lines : Rows → List ℕ
file_lines [] = []
file_lines (row ∷ rows) = row_lines row ++ file_lines rows

-- the lines of a file ascend, each standing once
abbrev pub IsInOrder : Rows → Type 0
IsInOrder rows = AreLines (file_lines rows)

-- an instruction names a stage
abbrev pub ActionNames : Action → ℕ → Type 0
ActionNames (Run exec from) number = Contains from (StageOf number)
ActionNames (Copy files from linked) number = Contains (listed from) (StageOf number)
ActionNames (MakeDirs path) number = ⊥

-- a stage begins with another one, or one of its instructions names it
abbrev pub StageNamesStage : Stage → ℕ → Type 0
StageNamesStage stage number = (stage.base ≡ StageOf number) ⊎ ((step : Step) × Contains stage.steps step × ActionNames step.action number)

-- a stage of a file names another one
pub record NamesStage (rows : Rows) (from to : ℕ) : Type 0 where
  pub stage : Stage
  pub there : slice_get rows from ≡ Some (Some stage)
  pub named : StageNamesStage stage to

-- the target needs each stage that isn't left out: it is the target, or is named by a stage that is needed
abbrev pub NeedsAllStages : Rows → ℕ → Type 0
NeedsAllStages rows target = (number : ℕ) (stage : Stage) → slice_get rows number ≡ Some (Some stage) → IsReached (NamesStage rows) target number
