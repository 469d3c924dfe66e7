-- What a bundle asks for, with the titles of its steps.
use Rattle.std.proofs.Common.{◌≡◌, ℕ, List, Option, Result, Ok, Err, IfOk, subst, sym}
use Rattle.std.specs.FinMap.{get}
use Rattle.plain.specs.declared.fault.Fault.{Fault}
use Rattle.plain.specs.declared.fault.Fault.TheVariants.{Because, Memory}
use Rattle.plain.specs.declared.refusal.Refusal.{Refusal}
use Rattle.expand.specs.declared.reason.Rejection.{Rejection}
use Rattle.lines.specs.Text.{AreLines}
use Rattle.lines.specs.declared.line.Line.{Line}
use Rattle.instructions.specs.Instruction.{Instruction}
use Rattle.dockerfile.specs.Dockerfile.{AreSpelled, IsRead, IsReadWithLines}
use Rattle.stages.specs.Naming.{names_in}
use Rattle.stages.specs.Before.{stage_names}
use Rattle.stages.specs.Resolved.{resolved, Returns as Resolves}
use Rattle.stages.specs.Table.{TableValue}
use Rattle.titles.specs.Titles.{titles_of}
use Rattle.imageconfig.specs.Reading.{config_in}
use Rattle.imageconfig.specs.declared.config.Config.{Config}
use Rattle.bundle.specs.declared.whole.Bundle.{Bundle}
use Rattle.bundle.specs.LeftOut.{LeavesOut}
use Rattle.bundle.specs.Reading.{ReadsBundle}
use Rattle.build.specs.declared.asking.Asked.{Asked}
use Rattle.build.specs.declared.titled.Titled.{Titled}
use Rattle.build.specs.Titled.{AreTitlesOf, HasTitlesOf, HasLeftOut, HasDigests}

-- the titles of a bundle are those of its bytes
pub bundle_titled : (bytes : List ℕ) (bundle : Bundle Config) (titles : List (Option (List ℕ))) → ReadsBundle config_in bytes (Ok bundle)
    → AreTitlesOf bundle titles → HasTitlesOf bytes titles
bundle_titled bytes bundle titles read are = (bundle, read, are)

-- what a bundle has, its bytes have
module _ (bytes : List ℕ) (bundle : Bundle Config) (left : List (List (List ℕ))) (leaves : LeavesOut config_in bytes (Ok (bundle, left))) where
  pub titles_told : (result : Result Titled (Fault Rejection)) → IfOk result (λ titled. AreTitlesOf bundle titled.titles) → IfOk result (λ titled. HasTitlesOf bytes titled.titles)
  titles_told (Ok titled) are = bundle_titled bytes bundle titled.titles leaves.reads are
  titles_told (Err fault) are = tt

  pub left_told : (result : Result Titled (Fault Rejection)) → IfOk result (λ titled. titled.left_out ≡ left) → IfOk result (λ titled. HasLeftOut bytes titled.left_out)
  left_told (Ok titled) same = (bundle, subst (λ (l : List (List (List ℕ))). LeavesOut config_in bytes (Ok (bundle, l))) (sym same) leaves)
  left_told (Err fault) same = tt

  pub digests_told : (result : Result Titled (Fault Rejection)) → IfOk result (λ titled. titled.digests ≡ bundle.digests) → IfOk result (λ titled. HasDigests bytes titled.digests)
  digests_told (Ok titled) same = (bundle, leaves.reads, same)
  digests_told (Err fault) same = tt

-- a text whose lines aren't given is refused
pub unread : (text : List ℕ) (fault : Fault Refusal) → IsReadWithLines text (Err fault) → IsRead text (Err fault)
unread text (Because refusal) told = told
unread text Memory told = tt

-- the titles of lines and of the stages that they make are those of the bundle
pub stages_titled : (bundle : Bundle Config) (lines : List Line) (is : List Instruction) (table : TableValue) (result : Result (Asked × List (Option (List ℕ))) (Fault Rejection))
    → AreLines bundle.dockerfile lines → AreSpelled lines is
    → Resolves (resolved (names_in bundle.images) (get bundle.args) bundle.target is) (Ok table)
    → IfOk result (λ titled. titled.1 ≡ titles_of lines (stage_names is) table.stages) → IfOk result (λ titled. AreTitlesOf bundle titled.1)
stages_titled bundle lines is table (Ok titled) are spelled found titles =
    record { lines = lines; are = are; instructions = is; spelled = spelled; table = table; found = found; titled = titles }
stages_titled bundle lines is table (Err fault) are spelled found titles = tt
