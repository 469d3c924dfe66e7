-- A bundle has one list of faults.
use Rattle.std.proofs.Common.{◌≡◌, ◌≢◌, ◌⊎◌, ◌∙◌, inl, inr, ℕ, Bool, true, false, List, [], ◌∷◌, map, Option, Some, None, Result, Ok, Err, refl, sym, ap, subst}
use Rattle.std.proofs.lemmas.List.{ext_get_or}
use Rattle.std.specs.FinMap.{get}
use Rattle.plain.specs.declared.fault.Fault.TheVariants.{Because}
use Rattle.plain.specs.declared.refusal.Code.TheVariants.{R19}
use Rattle.plain.specs.declared.refusal.Refusal.{Refusal}
use Rattle.expand.specs.Reasons.{rejection_of}
use Rattle.expand.specs.declared.reason.Rejection.{Rejection}
use Rattle.trees.specs.TreeMap.{TreeMap}
use Rattle.ignorefile.specs.File.{ignore_of}
use Rattle.ignorefile.specs.declared.line.Line.{Line}
use Rattle.plans.specs.Images.{ImagesValue}
use Rattle.instructions.specs.Instruction.{Instruction}
use Rattle.dockerfile.specs.Dockerfile.{AreInstructions, IsRefused, IsDockerfile}
use Rattle.dockerfile.specs.Faults.{AreFaults}
use Rattle.scopes.specs.Evaluate.{Values}
use Rattle.stages.specs.Naming.{Known, names_in}
use Rattle.stages.specs.Resolved.{resolved}
use Rattle.stages.specs.Faults.{stage_refusals}
use Rattle.stages.specs.Table.{TableValue, IsTable}
use Rattle.stages.specs.Needed.{AreNeeded}
use Rattle.stages.specs.declared.stage.ResolvedStage.{ResolvedStage}
use Rattle.imageconfig.specs.Reading.{config_in}
use Rattle.imageconfig.specs.declared.config.Config.{Config}
use Rattle.evaluation.specs.Evaluated as evaluation
use Rattle.evaluation.specs.Faults.{evaluation_refusals, AreTableFaults}
use Rattle.evaluation.specs.declared.evaluated.Evaluated.{Evaluated}
use Rattle.bundle.specs.Parts.{parts_of}
use Rattle.bundle.specs.Reading.{ignore_bytes, told_line, IsBundle, Completes, ReadsBundle}
use Rattle.bundle.specs.declared.parts.Parts.{Parts}
use Rattle.bundle.specs.declared.whole.Bundle.{Bundle}
use Rattle.checks.specs.Checks.{AreStageFaults, AreFileFaults, AreFaultsOf}

-- the laws of the crates below, as premises: what each phase has to do with its faults
pub record TextLaws : Type 0 where
  pub first : (text : List ℕ) (refusal : Refusal) (more : List Refusal) → AreFaults text (refusal ∷ more) → IsRefused text refusal
  pub free : (text : List ℕ) → AreFaults text [] → (found : List Instruction) × AreInstructions text found
  pub read : (text : List ℕ) (found : List Instruction) (faults : List Refusal) → AreInstructions text found → AreFaults text faults → faults ≡ []

pub record NameLaws : Type 0 where
  pub first : (known : Known) (args : Values) (target : Option (List ℕ)) (is : List Instruction) (refusal : Rejection) (more : List Rejection)
      → stage_refusals known args target is ≡ refusal ∷ more → resolved known args target is ≡ Err refusal
  pub free : (known : Known) (args : Values) (target : Option (List ℕ)) (is : List Instruction)
      → stage_refusals known args target is ≡ [] → (table : TableValue) × (resolved known args target is ≡ Ok table)
  pub resolved : (known : Known) (args : Values) (target : Option (List ℕ)) (is : List Instruction) (table : TableValue)
      → resolved known args target is ≡ Ok table → stage_refusals known args target is ≡ []

pub record StageLaws : Type 0 where
  pub file : (text : List ℕ) (is : List Instruction) → AreInstructions text is → IsDockerfile is
  pub table : (known : Known) (args : Values) (target : Option (List ℕ)) (is : List Instruction) (table : TableValue) → IsDockerfile is
      → resolved known args target is ≡ Ok table → IsTable table
  pub evaluates : (args : Values) (images : ImagesValue Config) (context : TreeMap) (table : TableValue) → IsTable table
      → ((made : Evaluated) × evaluation.EvaluatesTable args images context table (Ok made)) ⊎ ((refusal : Rejection) × evaluation.EvaluatesTable args images context table (Err (Because refusal)))

-- needed stages have one list of marks

both_ways : (b c : Bool) → (b ≡ true → c ≡ true) → (c ≡ true → b ≡ true) → b ≡ c
both_ways true c there back = sym (there refl)
both_ways false true there back = back refl
both_ways false false there back = refl

pub same_marks : (stages : List ResolvedStage) (target : ℕ) (a b : List Bool) → AreNeeded stages target a → AreNeeded stages target b → a ≡ b
same_marks stages target a b these those = ext_get_or false a b (these.long ∙ sym those.long) (λ i short.
    both_ways _ _ (λ marked. (those.just i).1 ((these.just i).0 marked)) (λ marked. (these.just i).1 ((those.just i).0 marked)))

-- what bytes are read as, they are read as once

same_some : (held : Option (Parts Config)) (a b : Parts Config) → held ≡ Some a → held ≡ Some b → a ≡ b
same_some held a b p q = cc

some_or_none : (held : Option (Parts Config)) (a : Parts Config) → held ≡ Some a → held ≡ None → ⊥
some_or_none held a p q = cc

same_number : (read : Result (List Line) ℕ) (a b : ℕ) → read ≡ Err a → read ≡ Err b → a ≡ b
same_number read a b p q = cc

lines_or_number : (read : Result (List Line) ℕ) (a : List Line) (b : ℕ) → read ≡ Ok a → read ≡ Err b → ⊥
lines_or_number read a b p q = cc

one_bad_line : (parts : Parts Config) (a b : Refusal) → Completes parts (Err (Because a)) → Completes parts (Err (Because b)) → a ≡ b
one_bad_line parts a b these those =
    let number : these.0 ≡ those.0 = same_number (ignore_of (ignore_bytes parts.files.context)) these.0 those.0 these.1.0 those.1.0 in
    these.1.1 ∙ (ap (λ n. record { code = R19; line = told_line n }) number ∙ sym those.1.1)

refusals : (bytes : List ℕ) (a b : Refusal) → ReadsBundle config_in bytes (Err (Because a)) → ReadsBundle config_in bytes (Err (Because b)) → a ≡ b
refusals bytes a b (inl these) (inl those) = these.1 ∙ sym those.1
refusals bytes a b (inl these) (inr those) = absurd (some_or_none (parts_of config_in bytes) those.0 those.1.0 these.0)
refusals bytes a b (inr these) (inl those) = absurd (some_or_none (parts_of config_in bytes) these.0 these.1.0 those.0)
refusals bytes a b (inr these) (inr those) =
    let parts : those.0 ≡ these.0 = same_some (parts_of config_in bytes) those.0 these.0 those.1.0 these.1.0 in
    one_bad_line these.0 a b these.1.1 (subst (λ p. Completes p (Err (Because b))) parts those.1.1)

apart : (bytes : List ℕ) (bundle : Bundle Config) (refusal : Refusal) → ReadsBundle config_in bytes (Ok bundle) → ReadsBundle config_in bytes (Err (Because refusal)) → ⊥
apart bytes bundle refusal these (inl those) = some_or_none (parts_of config_in bytes) these.0 these.1.0 those.0
apart bytes bundle refusal these (inr those) =
    let parts : those.0 ≡ these.0 = same_some (parts_of config_in bytes) those.0 these.0 those.1.0 these.1.0 in
    let bad : Completes these.0 (Err (Because refusal)) = subst (λ p. Completes p (Err (Because refusal))) parts those.1.1 in
    lines_or_number (ignore_of (ignore_bytes these.0.files.context)) these.1.1.0 bad.0 these.1.1.1.0 bad.1.0

-- all that a bundle's faults go by is what the bundle's parts say, so not its filtered context

abbrev AreBundlesFaults : List Rejection → Bundle Config → Type 0
AreBundlesFaults faults bundle = AreFileFaults bundle.images (get bundle.args) bundle.target bundle.dockerfile faults

faults_within : (parts : Parts Config) (lines others : List Line) (a b : Bundle Config) (faults : List Rejection) → IsBundle parts lines a → IsBundle parts others b
    → AreBundlesFaults faults a → AreBundlesFaults faults b
faults_within parts lines others a b faults these those are =
    subst (λ text. AreFileFaults b.images (get b.args) b.target text faults) (these.dockerfile ∙ sym those.dockerfile)
    (subst (λ target. AreFileFaults b.images (get b.args) target a.dockerfile faults) (these.target ∙ sym those.target)
    (subst (λ args. AreFileFaults b.images (get args) a.target a.dockerfile faults) (these.args ∙ sym those.args)
    (subst (λ images. AreFileFaults images (get a.args) a.target a.dockerfile faults) (these.images ∙ sym those.images) are)))

faults_alike : (bytes : List ℕ) (a b : Bundle Config) (faults : List Rejection) → ReadsBundle config_in bytes (Ok a) → ReadsBundle config_in bytes (Ok b)
    → AreBundlesFaults faults a → AreBundlesFaults faults b
faults_alike bytes a b faults these those are =
    let parts : those.0 ≡ these.0 = same_some (parts_of config_in bytes) those.0 these.0 those.1.0 these.1.0 in
    let other : Completes these.0 (Ok b) = subst (λ p. Completes p (Ok b)) parts those.1.1 in
    faults_within these.0 these.1.1.0 other.0 a b faults these.1.1.1.1 other.1.1 are

-- there is one list

table_one : (images : ImagesValue Config) (args : Values) (table : TableValue) (a b : List Rejection) → AreTableFaults images args table a → AreTableFaults images args table b → a ≡ b
table_one images args table a b these those =
    let same = same_marks table.stages table.target these.0 those.0 these.1 those.1 in
    these.2 ∙ (ap (λ marks. evaluation_refusals args images marks table) same ∙ sym those.2)

same_table : (made : Result TableValue Rejection) (a b : TableValue) → made ≡ Ok a → made ≡ Ok b → a ≡ b
same_table made a b p q = cc

stage_one : NameLaws → (images : ImagesValue Config) (args : Values) (target : Option (List ℕ)) (is : List Instruction) (a b : List Rejection)
    → AreStageFaults images args target is a → AreStageFaults images args target is b → a ≡ b
stage_one names images args target is a b (inl these) (inl those) = these.0 ∙ sym those.0
stage_one names images args target is a b (inl these) (inr those) = absurd (these.1 (these.0 ∙ names.resolved (names_in images) args target is those.0 those.1))
stage_one names images args target is a b (inr these) (inl those) = absurd (those.1 (those.0 ∙ names.resolved (names_in images) args target is these.0 these.1))
stage_one names images args target is a b (inr these) (inr those) =
    let same = same_table (resolved (names_in images) args target is) those.0 these.0 those.1 these.1 in
    table_one images args these.0 a b these.2 (subst (λ table. AreTableFaults images args table b) same those.2)

-- what is known of the texts of Dockerfiles: one has one list of faults, and one list of instructions at most
pub record OneText : Type 0 where
  pub faults : (text : List ℕ) (faults others : List Refusal) → AreFaults text faults → AreFaults text others → faults ≡ others
  pub instructions : (text : List ℕ) (found others : List Instruction) → AreInstructions text found → AreInstructions text others → found ≡ others

file_one : TextLaws → OneText → NameLaws → (images : ImagesValue Config) (args : Values) (target : Option (List ℕ)) (text : List ℕ) (a b : List Rejection)
    → AreFileFaults images args target text a → AreFileFaults images args target text b → a ≡ b
file_one texts unique names images args target text a b (inl these) (inl those) =
    these.2 ∙ (ap (map rejection_of) (unique.faults text these.0 those.0 these.1 those.1) ∙ sym those.2)
file_one texts unique names images args target text a b (inl these) (inr those) =
    absurd (these.3 (these.2 ∙ ap (map rejection_of) (texts.read text those.0 these.0 those.1 these.1)))
file_one texts unique names images args target text a b (inr these) (inl those) =
    absurd (those.3 (those.2 ∙ ap (map rejection_of) (texts.read text these.0 those.0 these.1 those.1)))
file_one texts unique names images args target text a b (inr these) (inr those) =
    let same = unique.instructions text those.0 these.0 those.1 these.1 in
    stage_one names images args target these.0 a b these.2 (subst (λ (is : List Instruction). AreStageFaults images args target is b) same those.2)

pub one_list : TextLaws → OneText → NameLaws → (bytes : List ℕ) (a b : List Rejection) → AreFaultsOf bytes a → AreFaultsOf bytes b → a ≡ b
one_list texts unique names bytes a b (inl these) (inl those) =
    these.2 ∙ (ap (λ r. rejection_of r ∷ []) (refusals bytes these.0 those.0 these.1 those.1) ∙ sym those.2)
one_list texts unique names bytes a b (inl these) (inr those) = absurd (apart bytes those.0 these.0 those.1 these.1)
one_list texts unique names bytes a b (inr these) (inl those) = absurd (apart bytes these.0 those.0 these.1 those.1)
one_list texts unique names bytes a b (inr these) (inr those) =
    file_one texts unique names these.0.images (get these.0.args) these.0.target these.0.dockerfile a b these.2
    (faults_alike bytes those.0 these.0 b those.1 these.1 those.2)

-- and there is a list

some_more : (refusal : Rejection) (more : List Rejection) → refusal ∷ more ≢ []
some_more refusal more e = cc

table_some : StageLaws → (images : ImagesValue Config) (args : Values) (context : TreeMap) (table : TableValue) → IsTable table
    → (faults : List Rejection) × AreTableFaults images args table faults
table_some stages images args context table whole = elim (stages.evaluates args images context table whole) [
  | inl (made, (needed, marked, went)) ↦ (evaluation_refusals args images needed table, (needed, marked, refl))
  | inr (refusal, (needed, marked, told)) ↦ (evaluation_refusals args images needed table, (needed, marked, refl))
]

stage_some : NameLaws → StageLaws → (images : ImagesValue Config) (args : Values) (context : TreeMap) (target : Option (List ℕ)) (is : List Instruction) → IsDockerfile is
    → (named : List Rejection) → stage_refusals (names_in images) args target is ≡ named
    → (faults : List Rejection) × AreStageFaults images args target is faults
stage_some names stages images args context target is file [] e =
    let led = names.free (names_in images) args target is e in
    let found = table_some stages images args context led.0 (stages.table (names_in images) args target is led.0 file led.1) in
    (found.0, inr (led.0, led.1, found.1))
stage_some names stages images args context target is file (refusal ∷ more) e = (refusal ∷ more, inl (sym e, some_more refusal more))

file_some : TextLaws → NameLaws → StageLaws → (images : ImagesValue Config) (args : Values) (context : TreeMap) (target : Option (List ℕ)) (text : List ℕ)
    → (spelled : List Refusal) → AreFaults text spelled → (faults : List Rejection) × AreFileFaults images args target text faults
file_some texts names stages images args context target text [] are =
    let read = texts.free text are in
    let found = stage_some names stages images args context target read.0 (stages.file text read.0 read.1) (stage_refusals (names_in images) args target read.0) refl in
    (found.0, inr (read.0, read.1, found.1))
file_some texts names stages images args context target text (refusal ∷ more) are =
    let faults = map rejection_of (refusal ∷ more) in (faults, inl (refusal ∷ more, are, refl, some_more (rejection_of refusal) (map rejection_of more)))

abbrev pub AreRead : Type 0
AreRead = (bytes : List ℕ) → ((bundle : Bundle Config) × ReadsBundle config_in bytes (Ok bundle)) ⊎ ((refusal : Refusal) × ReadsBundle config_in bytes (Err (Because refusal)))

pub some_list : AreRead → ((text : List ℕ) → (faults : List Refusal) × AreFaults text faults) → TextLaws → NameLaws → StageLaws
    → (bytes : List ℕ) → (faults : List Rejection) × AreFaultsOf bytes faults
some_list read checked texts names stages bytes = elim (read bytes) [
  | inl (bundle, is) ↦
      let spelled = checked bundle.dockerfile in
      let found = file_some texts names stages bundle.images (get bundle.args) bundle.context bundle.target bundle.dockerfile spelled.0 spelled.1 in
      (found.0, inr (bundle, is, found.1))
  | inr (refusal, is) ↦ (rejection_of refusal ∷ [], inl (refusal, is, refl))
]
