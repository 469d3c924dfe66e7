-- Which images a file's stages name, and what lowering answers by its parts.
use Rattle.std.proofs.Common.{◌≡◌, ℕ, Bool, true, false, cond, List, [], ◌∷◌, Option, Some, None, refl, sym, subst}
use Rattle.std.specs.Prelude.{Result, Ok, Err}
use Rattle.std.specs.List.{All, list_any}
use Rattle.std.specs.Option.{option_or}
use Rattle.std.proofs.lemmas.Bool.{or_parts, not-false}
use Rattle.std.proofs.lemmas.List.Elements.{All-nil, All-cons}
use Rattle.std.proofs.lemmas.Option.{none-some}
use Rattle.plain.specs.declared.fault.Fault.{Fault}
use Rattle.plain.specs.declared.fault.Fault.TheVariants.{Because, Memory}
use Rattle.expand.specs.declared.reason.Rejection.{Rejection}
use Rattle.llb.specs.declared.op.Source.TheVariants.{Scratch, Context, Image}
use Rattle.rows.specs.declared.row.Origin.{Origin}
use Rattle.rows.specs.declared.row.Origin.TheVariants.{Source as SourceOf, Stage as StageOf}
use Rattle.stages.specs.Naming.{Known}
use Rattle.stages.specs.Resolved.{Returns, unless_refused}
use Rattle.stages.specs.Table.{TableValue, IsKnown, NamesKnown}
use Rattle.stages.specs.declared.stage.ResolvedInstruction.{ResolvedInstruction}
use Rattle.stages.specs.declared.stage.ResolvedStage.{ResolvedStage}
use Rattle.build.specs.Lowered.{is_lacking, lacking_inside, lacking_in, lacking_line, AnswersUnless}

-- if no line names an image that isn't known, all that is named is known

known_origin : (known : Known) (origin : Origin) → is_lacking known origin ≡ false → IsKnown known origin
known_origin known (SourceOf Scratch) h = tt
known_origin known (SourceOf Context) h = tt
known_origin known (SourceOf (Image name)) h = not-false (known name) h
known_origin known (StageOf number) h = tt

known_origins : (known : Known) (origins : List Origin) → list_any (is_lacking known) origins ≡ false → All (IsKnown known) origins
known_origins known [] h = All-nil (IsKnown known)
known_origins known (o ∷ os) h =
    let parts = or_parts (is_lacking known o) (list_any (is_lacking known) os) h in
    All-cons (IsKnown known) o os (known_origin known o parts.0) (known_origins known os parts.1)

known_inside : (known : Known) (rs : List ResolvedInstruction) → lacking_inside known rs ≡ None → All (λ (r : ResolvedInstruction). All (IsKnown known) r.origins) rs
known_inside known [] h = All-nil (λ (r : ResolvedInstruction). All (IsKnown known) r.origins)
known_inside known (r ∷ rs) h = by (list_any (is_lacking known) r.origins) refl h (known_inside known rs)
  where
    by : (b : Bool) → list_any (is_lacking known) r.origins ≡ b → cond b (Some r.instruction.line) (lacking_inside known rs) ≡ None
        → (lacking_inside known rs ≡ None → All (λ (x : ResolvedInstruction). All (IsKnown known) x.origins) rs) → All (λ (x : ResolvedInstruction). All (IsKnown known) x.origins) (r ∷ rs)
    by true e i rest = absurd (none-some r.instruction.line (sym i))
    by false e i rest = All-cons (λ (x : ResolvedInstruction). All (IsKnown known) x.origins) r rs (known_origins known r.origins e) (rest i)

known_in : (known : Known) (stage : ResolvedStage) → lacking_in known stage ≡ None → NamesKnown known stage
known_in known stage h = by (is_lacking known stage.base) refl h
  where
    by : (b : Bool) → is_lacking known stage.base ≡ b → cond b (Some stage.line) (lacking_inside known stage.instructions) ≡ None → NamesKnown known stage
    by true e i = absurd (none-some stage.line (sym i))
    by false e i = record { base = known_origin known stage.base e; instructions = known_inside known stage.instructions i }

pub known_all : (known : Known) (stages : List ResolvedStage) → lacking_line known stages ≡ None → All (NamesKnown known) stages
known_all known [] h = All-nil (NamesKnown known)
known_all known (stage ∷ stages) h = by (lacking_in known stage) refl h (known_all known stages)
  where
    by : (o : Option ℕ) → lacking_in known stage ≡ o → option_or o (lacking_line known stages) ≡ None → (lacking_line known stages ≡ None → All (NamesKnown known) stages) → All (NamesKnown known) (stage ∷ stages)
    by None e i rest = All-cons (NamesKnown known) stage stages (known_in known stage e) (rest i)
    by (Some line) e i rest = absurd (none-some line (sym i))

-- what is answered after a table was made, or was refused

pub answered_made : {X : Type 0} (refusal : Option Rejection) (all made : TableValue) (Answers : TableValue → Result X (Fault Rejection) → Type 0) (result : Result X (Fault Rejection))
    → unless_refused refusal all ≡ Ok made → Answers made result → AnswersUnless refusal (Answers all) result
answered_made None all made Answers result h a =
    let same : all ≡ made = cc in
    subst (λ (t : TableValue). Answers t result) (sym same) a
answered_made (Some refusal) all made Answers result h a = cc

pub answered_refused : {X : Type 0} (refusal : Option Rejection) (all : TableValue) (Answers : TableValue → Result X (Fault Rejection) → Type 0) (fault : Fault Rejection)
    → Returns (unless_refused refusal all) (Err fault) → Answers all (Err Memory) → AnswersUnless refusal (Answers all) (Err fault)
answered_refused None all Answers (Because found) h none = cc
answered_refused None all Answers Memory h none = none
answered_refused (Some refusal) all Answers (Because found) h none = cc
answered_refused (Some refusal) all Answers Memory h none = tt
