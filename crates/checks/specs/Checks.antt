-- All faults of a bundle: where a build answers one refusal, the least, these are all of the first phase of reading that has one (own).
use Rattle.std.specs.Prelude.{◌≡◌, ◌≢◌, ◌⊎◌, ℕ, List, [], ◌∷◌, map, Option, Ok, Err}
use Rattle.std.specs.FinMap.{get}
use Rattle.plain.specs.declared.fault.Fault.TheVariants.{Because}
use Rattle.plain.specs.declared.refusal.Refusal.{Refusal}
use Rattle.expand.specs.Reasons.{rejection_of}
use Rattle.expand.specs.declared.reason.Rejection.{Rejection}
use Rattle.plans.specs.Images.{ImagesValue}
use Rattle.instructions.specs.Instruction.{Instruction}
use Rattle.dockerfile.specs.Dockerfile.{AreInstructions}
use Rattle.dockerfile.specs.Faults.{AreFaults}
use Rattle.scopes.specs.Evaluate.{Values}
use Rattle.stages.specs.Naming.{names_in}
use Rattle.stages.specs.Resolved.{resolved}
use Rattle.stages.specs.Faults.{stage_refusals}
use Rattle.stages.specs.Table.{TableValue}
use Rattle.imageconfig.specs.Reading.{config_in}
use Rattle.imageconfig.specs.declared.config.Config.{Config}
use Rattle.evaluation.specs.Faults.{AreTableFaults}
use Rattle.bundle.specs.Reading.{ReadsBundle}
use Rattle.bundle.specs.declared.whole.Bundle.{Bundle}

-- the faults of a file's stages: all that the names of the file are refused for; where there is nothing, those of the needed stages
abbrev pub AreStageFaults : ImagesValue Config → Values → Option (List ℕ) → List Instruction → List Rejection → Type 0
AreStageFaults images args target is faults =
    ((faults ≡ stage_refusals (names_in images) args target is) × (faults ≢ []))
    ⊎ ((table : TableValue) × (resolved (names_in images) args target is ≡ Ok table) × AreTableFaults images args table faults)

-- the faults of a Dockerfile with these images, build arguments and target: those of its text; where it has none, those of its stages
abbrev pub AreFileFaults : ImagesValue Config → Values → Option (List ℕ) → List ℕ → List Rejection → Type 0
AreFileFaults images args target text faults =
    ((refusals : List Refusal) × AreFaults text refusals × (faults ≡ map rejection_of refusals) × (faults ≢ []))
    ⊎ ((is : List Instruction) × AreInstructions text is × AreStageFaults images args target is faults)

-- The faults of the bytes of a bundle, in the order of their lines: the one that they are refused for as a bundle, or for their ignore file; else
-- all of the Dockerfile's text, which are those of the first phase that has one: the whole text and its lines, or its instructions; else all of
-- its stages; else those of the evaluation of the needed stages, one at most of each. An accepted bundle has none.
abbrev pub AreFaultsOf : List ℕ → List Rejection → Type 0
AreFaultsOf bytes faults =
    ((refusal : Refusal) × ReadsBundle config_in bytes (Err (Because refusal)) × (faults ≡ rejection_of refusal ∷ []))
    ⊎ ((bundle : Bundle Config) × ReadsBundle config_in bytes (Ok bundle)
    × AreFileFaults bundle.images (get bundle.args) bundle.target bundle.dockerfile faults)
