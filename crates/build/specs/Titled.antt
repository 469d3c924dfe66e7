-- What an engine's progress calls the steps of a bundle's Dockerfile, what its ignore file leaves out of its context, and which digests pin names.
use Rattle.std.specs.Prelude.{◌≡◌, ℕ, List, Option, Result, Ok, Err}
use Rattle.std.specs.FinMap.{get}
use Rattle.plain.specs.declared.fault.Fault.{Fault}
use Rattle.expand.specs.declared.reason.Rejection.{Rejection}
use Rattle.lines.specs.Text.{AreLines}
use Rattle.lines.specs.declared.line.Line.{Line}
use Rattle.instructions.specs.Instruction.{Instruction}
use Rattle.dockerfile.specs.Dockerfile.{AreSpelled}
use Rattle.stages.specs.Naming.{names_in}
use Rattle.stages.specs.Before.{stage_names}
use Rattle.stages.specs.Resolved.{resolved}
use Rattle.stages.specs.Table.{TableValue}
use Rattle.titles.specs.Titles.{titles_of}
use Rattle.imageconfig.specs.Reading.{config_in}
use Rattle.imageconfig.specs.declared.config.Config.{Config}
use Rattle.bundle.specs.declared.whole.Bundle.{Bundle}
use Rattle.bundle.specs.LeftOut.{LeavesOut}
use Rattle.bundle.specs.Reading.{ReadsBundle}
use Rattle.build.specs.declared.asking.Asked.{Asked}
use Rattle.build.specs.declared.titled.Titled.{Titled}

-- what is asked for alone
abbrev pub asked_in : Result Titled (Fault Rejection) → Result Asked (Fault Rejection)
asked_in (Ok titled) = Ok titled.asked
asked_in (Err fault) = Err fault

-- the titles are those of the logical lines of a bundle's Dockerfile and of the stages that they make
pub record AreTitlesOf (bundle : Bundle Config) (titles : List (Option (List ℕ))) : Type 0 where
  pub lines : List Line
  pub are : AreLines bundle.dockerfile lines
  pub instructions : List Instruction
  pub spelled : AreSpelled lines instructions
  pub table : TableValue
  pub found : resolved (names_in bundle.images) (get bundle.args) bundle.target instructions ≡ Ok table
  pub titled : titles ≡ titles_of lines (stage_names instructions) table.stages

-- the same of the bundle that these bytes are
abbrev pub HasTitlesOf : List ℕ → List (Option (List ℕ)) → Type 0
HasTitlesOf bytes titles = (bundle : Bundle Config) × ReadsBundle config_in bytes (Ok bundle) × AreTitlesOf bundle titles

-- the ignore file of the bundle that these bytes are leaves out these paths of its context
abbrev pub HasLeftOut : List ℕ → List (List (List ℕ)) → Type 0
HasLeftOut bytes left = (bundle : Bundle Config) × LeavesOut config_in bytes (Ok (bundle, left))

-- the bundle that these bytes are has these digests of images
abbrev pub HasDigests : List ℕ → List (List ℕ × List ℕ) → Type 0
HasDigests bytes digests = (bundle : Bundle Config) × ReadsBundle config_in bytes (Ok bundle) × (digests ≡ bundle.digests)
