-- What each phase of checking a bundle tells are the bundle's faults.
use Rattle.std.proofs.Common.{◌≡◌, ◌≢◌, ◌==◌, ◌∙◌, inl, inr, ℕ, Bool, true, false, List, [], ◌∷◌, map, length, Option, Result, Ok, Err, refl, sym, ap, subst, IfOk, true≢false}
use Rattle.std.proofs.Math.Dec.{eqb-suc-zero}
use Rattle.std.specs.FinMap.{get}
use Rattle.plain.specs.declared.fault.Fault.{Fault}
use Rattle.plain.specs.declared.fault.Fault.TheVariants.{Because}
use Rattle.plain.specs.declared.memory.Memory.{Memory}
use Rattle.plain.specs.declared.refusal.Refusal.{Refusal}
use Rattle.expand.specs.Reasons.{rejection_of}
use Rattle.expand.specs.declared.reason.Rejection.{Rejection}
use Rattle.instructions.specs.Instruction.{Instruction}
use Rattle.dockerfile.specs.Dockerfile.{AreInstructions}
use Rattle.dockerfile.specs.Faults.{AreFaults, IsChecked}
use Rattle.scopes.specs.Evaluate.{Values}
use Rattle.stages.specs.Naming.{Known, names_in}
use Rattle.stages.specs.Resolved.{resolved, Returns as Resolves}
use Rattle.stages.specs.Faults.{stage_refusals}
use Rattle.stages.specs.Table.{TableValue}
use Rattle.imageconfig.specs.Reading.{config_in}
use Rattle.imageconfig.specs.declared.config.Config.{Config}
use Rattle.bundle.specs.Reading.{ReadsBundle}
use Rattle.bundle.specs.declared.whole.Bundle.{Bundle}
use Rattle.checks.specs.declared.checking.Findings.{Findings}
use Rattle.evaluation.specs.Faults.{AreTableFaults}
use Rattle.checks.specs.Checks.{AreStageFaults, AreFileFaults, AreFaultsOf}

-- the faults of a bundle's Dockerfile, of its stages, and of those that are in a table
abbrev pub OfFile : Bundle Config → List Rejection → Type 0
OfFile bundle faults = AreFileFaults bundle.images (get bundle.args) bundle.target bundle.dockerfile faults

abbrev pub OfStages : Bundle Config → List Instruction → List Rejection → Type 0
OfStages bundle is faults = AreStageFaults bundle.images (get bundle.args) bundle.target is faults

abbrev pub OfTable : Bundle Config → TableValue → List Rejection → Type 0
OfTable bundle table faults = AreTableFaults bundle.images (get bundle.args) table faults

-- the bytes are refused before their Dockerfile is read
pub bundle_refused : (bytes : List ℕ) (refusal : Refusal) (result : Result Findings Memory) → ReadsBundle config_in bytes (Err (Because refusal))
    → IfOk result (λ found. found.faults ≡ rejection_of refusal ∷ []) → IfOk result (λ found. AreFaultsOf bytes found.faults)
bundle_refused bytes refusal (Ok found) told is = inl (refusal, told, is)
bundle_refused bytes refusal (Err memory) told is = tt

-- they are a bundle
pub bundle_checked : (bytes : List ℕ) (bundle : Bundle Config) (result : Result Findings Memory) → ReadsBundle config_in bytes (Ok bundle)
    → IfOk result (λ found. OfFile bundle found.faults) → IfOk result (λ found. AreFaultsOf bytes found.faults)
bundle_checked bytes bundle (Ok found) read are = inr (bundle, read, are)
bundle_checked bytes bundle (Err memory) read are = tt

-- the Dockerfile's text has faults
text_checked : (text : List ℕ) (fault : Fault (List Refusal)) (refusals : List Refusal) → fault ≡ Because refusals → IsChecked text (Err fault) → IsChecked text (Err (Because refusals))
text_checked text fault refusals e told = subst (λ f. IsChecked text (Err f)) e told

some_listed : (refusals : List Refusal) (faults : List Rejection) → faults ≡ map rejection_of refusals → refusals ≢ [] → faults ≢ []
some_listed [] faults is some none = some refl
some_listed (refusal ∷ more) faults is some none = let bad : [] ≡ rejection_of refusal ∷ map rejection_of more = sym none ∙ is in absurd (cc)

text_listed : (bundle : Bundle Config) (text : List ℕ) (refusals : List Refusal) (faults : List Rejection) → text ≡ bundle.dockerfile
    → IsChecked text (Err (Because refusals)) → faults ≡ map rejection_of refusals → OfFile bundle faults
text_listed bundle text refusals faults same told is =
    inl (refusals, subst (λ t. AreFaults t refusals) same told.0, is, some_listed refusals faults is told.1)

pub text_faulty : (bundle : Bundle Config) (text : List ℕ) (fault : Fault (List Refusal)) (refusals : List Refusal) (result : Result (List Rejection) Memory)
    → text ≡ bundle.dockerfile → fault ≡ Because refusals → IsChecked text (Err fault) → IfOk result (λ faults. faults ≡ map rejection_of refusals)
    → IfOk result (λ faults. OfFile bundle faults)
text_faulty bundle text fault refusals (Ok faults) same e told is = text_listed bundle text refusals faults same (text_checked text fault refusals e told) is
text_faulty bundle text fault refusals (Err memory) same e told is = tt

-- it has none
pub text_sound : (bundle : Bundle Config) (text : List ℕ) (is : List Instruction) (result : Result (List Rejection) Memory) → text ≡ bundle.dockerfile
    → IsChecked text (Ok is) → IfOk result (λ faults. OfStages bundle is faults) → IfOk result (λ faults. OfFile bundle faults)
text_sound bundle text is (Ok faults) same spelled are = inr (is, subst (λ t. AreInstructions t is) same spelled, are)
text_sound bundle text is (Err memory) same spelled are = tt

-- names are refused
empty_short : (faults : List Rejection) (b : Bool) → b ≡ (length faults == 0) → b ≡ false → faults ≢ []
empty_short [] true e f is = cc
empty_short [] false e f is = cc
empty_short (fault ∷ more) b e f is = cc

pub names_refused : (bundle : Bundle Config) (is : List Instruction) (faults : List Rejection) (is_empty : Bool)
    → faults ≡ stage_refusals (names_in bundle.images) (get bundle.args) bundle.target is → is_empty ≡ (length faults == 0) → is_empty ≡ false
    → OfStages bundle is faults
names_refused bundle is faults is_empty told e some = inl (told, empty_short faults is_empty e some)

-- none is
none_there : (faults : List Rejection) (b : Bool) → b ≡ (length faults == 0) → b ≡ true → faults ≡ []
none_there [] b e f = refl
none_there (fault ∷ more) true e f = absurd (true≢false (e ∙ eqb-suc-zero (length more)))
none_there (fault ∷ more) false e f = cc

pub names_sound : (faults told : List Rejection) (is_empty : Bool) → faults ≡ told → is_empty ≡ (length faults == 0) → is_empty ≡ true → told ≡ []
names_sound faults told is_empty same e none = sym same ∙ none_there faults is_empty e none

-- so they lead to a table
pub names_lead : (bundle : Bundle Config) (there : Option (List ℕ)) (is : List Instruction) (table : TableValue) (result : Result (List Rejection) Memory)
    → there ≡ bundle.target → Resolves (resolved (names_in bundle.images) (get bundle.args) there is) (Ok table)
    → IfOk result (λ faults. OfTable bundle table faults) → IfOk result (λ faults. OfStages bundle is faults)
names_lead bundle there is table (Ok faults) same led are =
    inr (table, subst (λ t. resolved (names_in bundle.images) (get bundle.args) t is ≡ Ok table) same led, are)
names_lead bundle there is table (Err memory) same led are = tt

-- and aren't refused
ok_or_err : (made : Result TableValue Rejection) (table : TableValue) (refusal : Rejection) → made ≡ Ok table → made ≡ Err refusal → ⊥
ok_or_err made table refusal led told = cc

abbrev pub Leads : Type 0
Leads = (known : Known) (args : Values) (target : Option (List ℕ)) (is : List Instruction)
    → stage_refusals known args target is ≡ [] → (table : TableValue) × (resolved known args target is ≡ Ok table)

pub never_refused : Leads → (known : Known) (args : Values) (target there : Option (List ℕ)) (is : List Instruction) (fault : Fault Rejection) (refusal : Rejection)
    → stage_refusals known args target is ≡ [] → there ≡ target → fault ≡ Because refusal → Resolves (resolved known args there is) (Err fault) → ⊥
never_refused leads known args target there is fault refusal none same e told =
    let led = leads known args target is none in
    let refused = subst (λ f. Resolves (resolved known args there is) (Err f)) e told in
    ok_or_err (resolved known args target is) led.0 refusal led.1 (subst (λ t. resolved known args t is ≡ Err refusal) same refused)
