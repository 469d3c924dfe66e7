-- What each phase of reading a bundle tells of its images is told of the bundle.
use Rattle.std.proofs.Common.{◌≡◌, inl, inr, ℕ, Bool, true, List, Result, Ok, Err, IfOk, refl, sym, ap, ◌∙◌, subst}
use Rattle.plain.specs.declared.fault.Fault.{Fault}
use Rattle.plain.specs.declared.fault.Fault.TheVariants.{Because, Memory}
use Rattle.plain.specs.declared.refusal.Refusal.{Refusal}
use Rattle.expand.specs.declared.reason.Rejection.{Rejection}
use Rattle.instructions.specs.Instruction.{Instruction}
use Rattle.dockerfile.specs.Dockerfile.{IsRead}
use Rattle.std.specs.FinMap.{get}
use Rattle.stages.specs.Naming.{names_in}
use Rattle.stages.specs.Needed.{AreNeeded}
use Rattle.stages.specs.Resolved.{resolved, Returns as Resolves}
use Rattle.stages.specs.Table.{TableValue}
use Rattle.stages.specs.declared.stage.ResolvedStage.{ResolvedStage}
use Rattle.imageconfig.specs.Reading.{config_in}
use Rattle.imageconfig.specs.declared.config.Config.{Config}
use Rattle.bundle.specs.Reading.{ReadsBundle}
use Rattle.bundle.specs.declared.whole.Bundle.{Bundle}
use Rattle.stubs.specs.Stubbing.{IsStubbed, HoldsBy}
use Rattle.imagelist.specs.Images.{images_of}
use Rattle.imagelist.specs.PrivateListing.{rejection_fault}
use Rattle.imagelist.specs.Telling.{FileNames, Named, NamesImages, Reports, TableNames, TellsImages, images_text}
use Rattle.imagelist.specs.declared.image_rows.ImageUse.{ImageUse}

abbrev pub Answer : Type 0
Answer = Result (List (List ℕ × ImageUse)) (Fault Rejection)

abbrev made : List (List ℕ × ImageUse) → Named
made images = Ok images

-- the bytes are no bundle, or its ignore file is bad
bytes_unread : (bytes : List ℕ) (fault : Fault Refusal) → ReadsBundle config_in bytes (Err fault) → Reports (NamesImages bytes) (Err (rejection_fault fault))
bytes_unread bytes (Because refusal) told = inl (refusal, told, refl)
bytes_unread bytes Memory told = tt

pub bytes_refused : (bytes : List ℕ) (fault : Fault Refusal) (out : Fault Rejection) → ReadsBundle config_in bytes (Err fault) → out ≡ rejection_fault fault
    → Reports (NamesImages bytes) (Err out)
bytes_refused bytes fault out told is = subst (λ (f : Fault Rejection). Reports (NamesImages bytes) (Err f)) (sym is) (bytes_unread bytes fault told)

-- they are a bundle
pub bytes_read : (bytes : List ℕ) (bundle : Bundle Config) (result : Answer) → ReadsBundle config_in bytes (Ok bundle)
    → Reports (λ named. HoldsBy true (λ given. FileNames given named) bundle) result → Reports (NamesImages bytes) result
bytes_read bytes bundle (Ok images) read names = inr (bundle, read, names)
bytes_read bytes bundle (Err (Because refusal)) read names = inr (bundle, read, names)
bytes_read bytes bundle (Err Memory) read names = tt

-- the bundle has its stubs
pub bundle_stubbed : (bundle given : Bundle Config) (result : Answer) → IsStubbed bundle given → Reports (FileNames given) result
    → Reports (λ named. HoldsBy true (λ given. FileNames given named) bundle) result
bundle_stubbed bundle given (Ok images) is names = (given, is, names)
bundle_stubbed bundle given (Err (Because refusal)) is names = (given, is, names)
bundle_stubbed bundle given (Err Memory) is names = tt

-- the Dockerfile's text is refused, or a line of it
text_unread : (bundle : Bundle Config) (fault : Fault Refusal) → IsRead bundle.dockerfile (Err fault) → Reports (FileNames bundle) (Err (rejection_fault fault))
text_unread bundle (Because refusal) told = inl (refusal, told, refl)
text_unread bundle Memory told = tt

pub text_refused : (bundle : Bundle Config) (text : List ℕ) (fault : Fault Refusal) (out : Fault Rejection) → text ≡ bundle.dockerfile → IsRead text (Err fault)
    → out ≡ rejection_fault fault → Reports (FileNames bundle) (Err out)
text_refused bundle text fault out same told is =
    subst (λ (f : Fault Rejection). Reports (FileNames bundle) (Err f)) (sym is)
    (text_unread bundle fault (subst (λ (t : List ℕ). IsRead t (Err fault)) same told))

-- it has instructions
pub text_read : (bundle : Bundle Config) (text : List ℕ) (is : List Instruction) (result : Answer) → text ≡ bundle.dockerfile → IsRead text (Ok is)
    → Reports (TableNames (resolved (names_in bundle.images) (get bundle.args) bundle.target is)) result → Reports (FileNames bundle) result
text_read bundle text is (Ok images) same read names = inr (is, subst (λ (t : List ℕ). IsRead t (Ok is)) same read, names)
text_read bundle text is (Err (Because refusal)) same read names = inr (is, subst (λ (t : List ℕ). IsRead t (Ok is)) same read, names)
text_read bundle text is (Err Memory) same read names = tt

-- its stages are refused
pub stages_refused : (found : Result TableValue Rejection) (fault : Fault Rejection) → Resolves found (Err fault) → Reports (TableNames found) (Err fault)
stages_refused found (Because refusal) told = subst (λ t. TableNames t (Err refusal)) (sym told) refl
stages_refused found Memory told = tt

-- it has a table of stages
pub stages_named : (found : Result TableValue Rejection) (table : TableValue) (images : List (List ℕ × ImageUse)) → Resolves found (Ok table) → TableNames (Ok table) (Ok images)
    → TableNames found (Ok images)
stages_named found table images told names =
    subst (λ t. TableNames t (Ok images)) (sym told) names

-- whose needed stages are known
pub table_named : {E : Type 0} (table : TableValue) (stages : List ResolvedStage) (needed marks : List Bool) (result : Result (List (List ℕ × ImageUse)) E)
    → AreNeeded table.stages table.target needed → marks ≡ needed → stages ≡ table.stages → IfOk result (λ images. images ≡ images_of marks stages)
    → IfOk result (λ images. TableNames (Ok table) (Ok images))
table_named table stages needed marks (Ok images) are same here is = (
  needed,
  are,
  ap made is ∙ ap (λ (m : List Bool). made (images_of m stages)) same ∙ ap (λ (ss : List ResolvedStage). made (images_of needed ss)) here,
)
table_named table stages needed marks (Err memory) are same here is = is

-- the text of images, or their refusal
pub images_told : (platform bytes : List ℕ) (images : List (List ℕ × ImageUse)) (text : List ℕ) → Reports (NamesImages bytes) (Ok images) → text ≡ images_text platform images
    → TellsImages platform bytes (Ok text)
images_told platform bytes images text names is = (images, names, is)

pub refusal_told : (platform bytes : List ℕ) (fault : Fault Rejection) → Reports (NamesImages bytes) (Err fault) → TellsImages platform bytes (Err fault)
refusal_told platform bytes (Because refusal) names = names
refusal_told platform bytes Memory names = tt
