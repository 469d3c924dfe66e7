-- What each phase of reading a bundle tells is what the bundle asks for.
use Rattle.std.proofs.Common.{◌≡◌, inl, inr, ℕ, List, Result, Ok, Err, refl, sym, subst, IfOk}
use Rattle.std.specs.FinMap.{get}
use Rattle.plain.specs.declared.fault.Fault.{Fault}
use Rattle.plain.specs.declared.fault.Fault.TheVariants.{Because, Memory}
use Rattle.plain.specs.declared.refusal.Refusal.{Refusal}
use Rattle.expand.specs.declared.reason.Rejection.{Rejection}
use Rattle.instructions.specs.Instruction.{Instruction}
use Rattle.dockerfile.specs.Dockerfile.{IsRead}
use Rattle.stages.specs.Naming.{names_in}
use Rattle.stages.specs.Resolved.{resolved, Returns as Resolves}
use Rattle.stages.specs.Table.{TableValue}
use Rattle.evaluation.specs.Evaluated.{EvaluatesTable as Evaluates}
use Rattle.imageconfig.specs.Reading.{config_in}
use Rattle.imageconfig.specs.declared.config.Config.{Config}
use Rattle.bundle.specs.declared.whole.Bundle.{Bundle}
use Rattle.bundle.specs.Reading.{ReadsBundle}
use Rattle.build.specs.declared.asking.Asked.{Asked}
use Rattle.build.specs.PrivateAsking.{rejection_fault, IsFileAsked, IsTableAsked}
use Rattle.build.specs.Telling.{IsAsked, HasStoreOf}

-- the bytes are no bundle, or its ignore file is bad
refusal_asked : (bytes : List ℕ) (fault : Fault Refusal) → ReadsBundle config_in bytes (Err fault) → IsAsked bytes (Err (rejection_fault fault))
refusal_asked bytes (Because refusal) told = inl (refusal, told, refl)
refusal_asked bytes Memory told = tt

pub bundle_refused : (bytes : List ℕ) (fault : Fault Refusal) (out : Fault Rejection) → ReadsBundle config_in bytes (Err fault) → out ≡ rejection_fault fault
    → IsAsked bytes (Err out)
bundle_refused bytes fault out told is = subst (λ f. IsAsked bytes (Err f)) (sym is) (refusal_asked bytes fault told)

-- they are a bundle
pub bundle_asked : (bytes : List ℕ) (bundle : Bundle Config) (result : Result Asked (Fault Rejection)) → ReadsBundle config_in bytes (Ok bundle)
    → IsFileAsked bundle result → IsAsked bytes result
bundle_asked bytes bundle (Ok asked) read asks = inr (bundle, read, asks)
bundle_asked bytes bundle (Err (Because refusal)) read asks = inr (bundle, read, asks)
bundle_asked bytes bundle (Err Memory) read asks = tt

-- the caches are the bundle's
pub bundle_stored : (bytes : List ℕ) (bundle : Bundle Config) (result : Result Asked (Fault Rejection)) → ReadsBundle config_in bytes (Ok bundle)
    → IfOk result (λ asked. asked.caches ≡ bundle.caches) → IfOk result (λ asked. HasStoreOf bytes asked.caches)
bundle_stored bytes bundle (Ok asked) read same = (bundle, read, same)
bundle_stored bytes bundle (Err fault) read same = tt

-- the Dockerfile's text is refused, or a line of it
refusal_read : (bundle : Bundle Config) (fault : Fault Refusal) → IsRead bundle.dockerfile (Err fault) → IsFileAsked bundle (Err (rejection_fault fault))
refusal_read bundle (Because refusal) told = inl (refusal, told, refl)
refusal_read bundle Memory told = tt

pub text_refused : (bundle : Bundle Config) (fault : Fault Refusal) (out : Fault Rejection) → IsRead bundle.dockerfile (Err fault) → out ≡ rejection_fault fault
    → IsFileAsked bundle (Err out)
text_refused bundle fault out told is = subst (λ f. IsFileAsked bundle (Err f)) (sym is) (refusal_read bundle fault told)

-- it has instructions
pub text_asked : (bundle : Bundle Config) (is : List Instruction) (result : Result Asked (Fault Rejection)) → IsRead bundle.dockerfile (Ok is)
    → IsTableAsked bundle (resolved (names_in bundle.images) (get bundle.args) bundle.target is) result → IsFileAsked bundle result
text_asked bundle is (Ok asked) read asks = inr (is, read, asks)
text_asked bundle is (Err (Because refusal)) read asks = inr (is, read, asks)
text_asked bundle is (Err Memory) read asks = tt

-- its stages are refused
pub stages_refused : (bundle : Bundle Config) (made : Result TableValue Rejection) (fault : Fault Rejection) → Resolves made (Err fault) → IsTableAsked bundle made (Err fault)
stages_refused bundle made (Because refusal) told = subst (λ t. IsTableAsked bundle t (Err (Because refusal))) (sym told) refl
stages_refused bundle made Memory told = tt

-- it has a table of stages
pub stages_asked : (bundle : Bundle Config) (made : Result TableValue Rejection) (table : TableValue) (result : Result Asked (Fault Rejection)) → Resolves made (Ok table)
    → IsTableAsked bundle (Ok table) result → IsTableAsked bundle made result
stages_asked bundle made table result told asks = subst (λ t. IsTableAsked bundle t result) (sym told) asks

-- the stages that are needed are refused
pub evaluation_refused : (bundle : Bundle Config) (table : TableValue) (fault : Fault Rejection)
    → Evaluates (get bundle.args) bundle.images bundle.context table (Err fault) → IsTableAsked bundle (Ok table) (Err fault)
evaluation_refused bundle table (Because refusal) told = told
evaluation_refused bundle table Memory told = tt
