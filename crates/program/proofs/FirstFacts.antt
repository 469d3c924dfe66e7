-- The first fault of a bundle is the refusal that a build answers.
use Rattle.std.proofs.Common.{◌≡◌, ◌≢◌, ◌∙◌, inl, inr, ℕ, Bool, List, [], ◌∷◌, map, Option, Result, Ok, Err, refl, sym, ap, subst}
use Rattle.std.specs.FinMap.{get}
use Rattle.plain.specs.declared.refusal.Refusal.{Refusal}
use Rattle.expand.specs.Reasons.{rejection_of}
use Rattle.expand.specs.declared.reason.Rejection.{Rejection}
use Rattle.runs.specs.declared.run.RunOutcome.TheVariants.{Exit}
use Rattle.plans.specs.Images.{ImagesValue}
use Rattle.plans.specs.Value.{Out}
use Rattle.instructions.specs.Instruction.{Instruction}
use Rattle.scopes.specs.Evaluate.{Values}
use Rattle.dockerfile.specs.Dockerfile.{IsRefused}
use Rattle.dockerfile.specs.Faults.{AreFaults}
use Rattle.stages.specs.Faults.{stage_refusals}
use Rattle.stages.specs.Naming.{Known, names_in}
use Rattle.stages.specs.Resolved.{resolved}
use Rattle.stages.specs.Table.{TableValue}
use Rattle.imageconfig.specs.declared.config.Config.{Config}
use Rattle.evaluation.specs.Evaluated.{evaluated}
use Rattle.evaluation.specs.Faults.{evaluation_refusals}
use Rattle.evaluation.specs.declared.evaluated.Evaluated.{Evaluated}
use Rattle.evaluation.specs.declared.walk.Walk.{Walk}
use Rattle.bundle.specs.declared.whole.Bundle.{Bundle}
use Rattle.checks.specs.Checks.{AreStageFaults, AreFileFaults, AreFaultsOf}
use Rattle.build.specs.Meaning.{TableAsks, FileAsks, Asks}

-- the laws of the crates below, as premises
pub record TextLaws : Type 0 where
  pub exists : (text : List ℕ) → (faults : List Refusal) × AreFaults text faults
  pub refused : (text : List ℕ) (refusal : Refusal) (faults : List Refusal) → IsRefused text refusal → AreFaults text faults → (more : List Refusal) × (faults ≡ refusal ∷ more)

abbrev pub NamesRefused : Type 0
NamesRefused = (known : Known) (args : Values) (target : Option (List ℕ)) (is : List Instruction) (refusal : Rejection)
    → resolved known args target is ≡ Err refusal → (more : List Rejection) × (stage_refusals known args target is ≡ refusal ∷ more)

pub record TableLaws : Type 0 where
  pub refused : (args : Values) (images : ImagesValue Config) (needed : List Bool) (table : TableValue) (refusal : Rejection)
      → evaluated args images needed table ≡ Err refusal → (more : List Rejection) × (evaluation_refusals args images needed table ≡ refusal ∷ more)
  pub accepted : (args : Values) (images : ImagesValue Config) (needed : List Bool) (table : TableValue) (walk : Walk)
      → evaluated args images needed table ≡ Ok walk → evaluation_refusals args images needed table ≡ []

pub record BundleLaws : Type 0 where
  pub asks : (bytes : List ℕ) → (asked : Result Evaluated Rejection) × Asks bytes asked
  pub unique : (bytes : List ℕ) (faults others : List Rejection) → AreFaultsOf bytes faults → AreFaultsOf bytes others → faults ≡ others

-- an executor under which each command fails: what a bundle asks for is the same under all
pub failing : Out
failing request = Exit 1

same_first : (one other : Rejection) (more others : List Rejection) → one ∷ more ≡ other ∷ others → one ≡ other
same_first one other more others same = cc

some_more : (refusal : Rejection) (more : List Rejection) → refusal ∷ more ≢ []
some_more refusal more e = cc

same_refusal : (asked : Result Evaluated Rejection) (one other : Rejection) → asked ≡ Err one → asked ≡ Err other → one ≡ other
same_refusal asked one other p q = cc

made_or_refused : (asked : Result Evaluated Rejection) (made : Evaluated) (refusal : Rejection) → asked ≡ Ok made → asked ≡ Err refusal → ⊥
made_or_refused asked made refusal p q = cc

-- what is refused has a list of faults that begins so

stages_refused : NamesRefused → TableLaws → (bundle : Bundle Config) (is : List Instruction) (refusal : Rejection) (made : Result TableValue Rejection)
    → resolved (names_in bundle.images) (get bundle.args) bundle.target is ≡ made → TableAsks bundle made (Err refusal)
    → (more : List Rejection) × AreStageFaults bundle.images (get bundle.args) bundle.target is (refusal ∷ more)
stages_refused names tables bundle is refusal (Err other) led same =
    let due : resolved (names_in bundle.images) (get bundle.args) bundle.target is ≡ Err refusal =
    led ∙ ap Err (sym (same_refusal (Err refusal) refusal other refl same)) in
    let found = names (names_in bundle.images) (get bundle.args) bundle.target is refusal due in
    (found.0, inl (sym found.1, some_more refusal found.0))
stages_refused names tables bundle is refusal (Ok table) led asked =
    let found = tables.refused (get bundle.args) bundle.images asked.0 table refusal asked.2 in
    (found.0, inr (table, led, (asked.0, asked.1, sym found.1)))

file_refused : TextLaws → NamesRefused → TableLaws → (bundle : Bundle Config) (refusal : Rejection) → FileAsks bundle (Err refusal)
    → (more : List Rejection) × AreFileFaults bundle.images (get bundle.args) bundle.target bundle.dockerfile (refusal ∷ more)
file_refused texts names tables bundle refusal (inl told) =
    let same : refusal ≡ rejection_of told.0 = same_refusal (Err refusal) refusal (rejection_of told.0) refl told.2 in
    let faults = texts.exists bundle.dockerfile in
    let found = texts.refused bundle.dockerfile told.0 faults.0 told.1 faults.1 in
    let more = map rejection_of found.0 in
    (more, inl (told.0 ∷ found.0, subst (AreFaults bundle.dockerfile) found.1 faults.1, ap (λ r. r ∷ more) same, some_more refusal more))
file_refused texts names tables bundle refusal (inr read) =
    let found = stages_refused names tables bundle read.0 refusal (resolved (names_in bundle.images) (get bundle.args) bundle.target read.0) refl read.2 in
    (found.0, inr (read.0, read.1, found.1))

pub refused : TextLaws → NamesRefused → TableLaws → (bytes : List ℕ) (refusal : Rejection) → Asks bytes (Err refusal) → (more : List Rejection) × AreFaultsOf bytes (refusal ∷ more)
refused texts names tables bytes refusal (inl told) = ([], inl (told.0, told.1, ap (λ r. r ∷ []) (same_refusal (Err refusal) refusal (rejection_of told.0) refl told.2)))
refused texts names tables bytes refusal (inr read) =
    let found = file_refused texts names tables read.0 refusal read.2 in
    (found.0, inr (read.0, read.1, found.1))

-- what is accepted has none

stages_accepted : TableLaws → (bundle : Bundle Config) (is : List Instruction) (made : Evaluated) (found : Result TableValue Rejection)
    → resolved (names_in bundle.images) (get bundle.args) bundle.target is ≡ found → TableAsks bundle found (Ok made)
    → AreStageFaults bundle.images (get bundle.args) bundle.target is []
stages_accepted tables bundle is made (Err refusal) led same = absurd (made_or_refused (Ok made) made refusal refl same)
stages_accepted tables bundle is made (Ok table) led asked =
    inr (table, led, (asked.0, asked.1, sym (tables.accepted (get bundle.args) bundle.images asked.0 table asked.2.0 asked.2.1)))

file_accepted : TableLaws → (bundle : Bundle Config) (made : Evaluated) → FileAsks bundle (Ok made)
    → AreFileFaults bundle.images (get bundle.args) bundle.target bundle.dockerfile []
file_accepted tables bundle made (inl told) = absurd (made_or_refused (Ok made) made (rejection_of told.0) refl told.2)
file_accepted tables bundle made (inr read) =
    inr (read.0, read.1, stages_accepted tables bundle read.0 made (resolved (names_in bundle.images) (get bundle.args) bundle.target read.0) refl read.2)

pub accepted : TableLaws → (bytes : List ℕ) (made : Evaluated) → Asks bytes (Ok made) → AreFaultsOf bytes []
accepted tables bytes made (inl told) = absurd (made_or_refused (Ok made) made (rejection_of told.0) refl told.2)
accepted tables bytes made (inr read) = inr (read.0, read.1, file_accepted tables read.0 made read.2)

-- each bundle asks for something and has one list of faults, so the converses hold

first_asked : TextLaws → NamesRefused → TableLaws → BundleLaws → (bytes : List ℕ) (refusal : Rejection) (more : List Rejection) (asked : Result Evaluated Rejection)
    → AreFaultsOf bytes (refusal ∷ more) → Asks bytes asked → Asks bytes (Err refusal)
first_asked texts names tables bundles bytes refusal more (Ok made) are asks =
    absurd (some_more refusal more (bundles.unique bytes (refusal ∷ more) [] are (accepted tables bytes made asks)))
first_asked texts names tables bundles bytes refusal more (Err other) are asks =
    let found = refused texts names tables bytes other asks in
    let same = bundles.unique bytes (refusal ∷ more) (other ∷ found.0) are found.1 in
    subst (λ (r : Rejection). Asks bytes (Err r)) (sym (same_first refusal other more found.0 same)) asks

pub first : TextLaws → NamesRefused → TableLaws → BundleLaws → (bytes : List ℕ) (refusal : Rejection) (more : List Rejection) → AreFaultsOf bytes (refusal ∷ more) → Asks bytes (Err refusal)
first texts names tables bundles bytes refusal more are =
    let asks = bundles.asks bytes in
    first_asked texts names tables bundles bytes refusal more asks.0 are asks.1

made_asked : TextLaws → NamesRefused → TableLaws → BundleLaws → (bytes : List ℕ) (asked : Result Evaluated Rejection) → AreFaultsOf bytes [] → Asks bytes asked
    → (made : Evaluated) × Asks bytes (Ok made)
made_asked texts names tables bundles bytes (Ok made) are asks = (made, asks)
made_asked texts names tables bundles bytes (Err refusal) are asks =
    let found = refused texts names tables bytes refusal asks in
    absurd (some_more refusal found.0 (bundles.unique bytes (refusal ∷ found.0) [] found.1 are))

pub free : TextLaws → NamesRefused → TableLaws → BundleLaws → (bytes : List ℕ) → AreFaultsOf bytes [] → (made : Evaluated) × Asks bytes (Ok made)
free texts names tables bundles bytes are =
    let asks = bundles.asks bytes in
    made_asked texts names tables bundles bytes asks.0 are asks.1
