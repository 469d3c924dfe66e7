-- The stages in which instructions stand, by their names (BuildKit, frontend/dockerfile/dockerfile2llb: what is said of a stage holds of what its
-- instructions make).
use Rattle.std.specs.Prelude.{ℕ, ◌+◌, Option, Some, None, List, [], ◌∷◌, slice_index_or}
use Rattle.stages.specs.Naming.{Names}
use Rattle.stages.specs.declared.stage.ResolvedInstruction.{ResolvedInstruction}
use Rattle.stages.specs.declared.stage.ResolvedStage.{ResolvedStage}
use Rattle.titles.specs.Titles.{with_title}

-- names by the numbers of lines, with that of a stage for each of these instructions, if it has one
abbrev pub stage_named : Option (List ℕ) → List ResolvedInstruction → List (Option (List ℕ)) → List (Option (List ℕ))
stage_named None instructions named = named
stage_named (Some name) [] named = named
stage_named (Some name) (r ∷ rs) named = stage_named (Some name) rs (with_title named r.instruction.line name)

-- names with those of stages, of which the first has this number
abbrev pub stages_named : Names → ℕ → List ResolvedStage → List (Option (List ℕ)) → List (Option (List ℕ))
stages_named names number [] named = named
stages_named names number (stage ∷ stages) named =
    stages_named names (number + 1) stages (stage_named (slice_index_or names number None) stage.instructions named)

-- the name of the stage of each instruction, by its line; the stages stand in the order of the file, as their instructions do
abbrev pub stages_of : Names → List ResolvedStage → List (Option (List ℕ))
stages_of names stages = stages_named names 0 stages []
