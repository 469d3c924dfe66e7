-- What titles come to, a line at a time (own).
use Rattle.std.specs.Prelude.{◌≡◌, ◌+◌, ℕ, List, [], ◌∷◌, ◌++◌, Option, Some, None, slice_get, slice_index_or}
use Rattle.stages.specs.declared.stage.ResolvedInstruction.{ResolvedInstruction}
use Rattle.stages.specs.declared.stage.ResolvedStage.{ResolvedStage}
use Rattle.titles.specs.Titles.{step_word, step_count, base_count}

-- the title at a line, if it has one; a line past the last title has none
abbrev pub title_at : List (Option (List ℕ)) → ℕ → Option (List ℕ)
title_at titles line = slice_index_or titles line None

-- An instruction of the stage of this number of some stages is a step, which begins with this word. These of the stage's instructions stand
-- before it.
pub record IsStep (stages : List ResolvedStage) (number : ℕ) (stage : ResolvedStage) (before : List ResolvedInstruction) (step : ResolvedInstruction) (word : List ℕ) : Type 0 where
  pub there : slice_get stages number ≡ Some stage
  pub after : List ResolvedInstruction
  pub stands : stage.instructions ≡ before ++ step ∷ after
  pub says : step_word step.instruction.kind ≡ Some word

-- how many steps a stage has, of which an image that it begins with is the first
abbrev pub steps_of : ResolvedStage → ℕ
steps_of stage = base_count stage.base + step_count stage.instructions

-- how many of these stand up to an instruction that these stand before, itself among them
abbrev pub steps_up_to : ResolvedStage → List ResolvedInstruction → ResolvedInstruction → ℕ
steps_up_to stage before step = base_count stage.base + step_count (before ++ step ∷ [])
