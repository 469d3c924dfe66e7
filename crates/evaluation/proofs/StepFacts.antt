-- A step of a stage, and a stage after those before it.
use Rattle.std.specs.Prelude.{◌≡◌, ◌||◌, ℕ, true, false, List, ◌∷◌, Option, Some, None, Result, Ok, Err, length, nat_lt, refl}
use Rattle.std.proofs.Common.{sym, ◌∙◌, ap, subst}
use Rattle.plain.specs.Limits.{most_images}
use Rattle.plain.specs.declared.fault.Fault.{Fault}
use Rattle.plain.specs.declared.fault.Fault.TheVariants.{Because, Memory}
use Rattle.expand.specs.declared.reason.Reason.{Reason}
use Rattle.expand.specs.declared.reason.Rejection.{Rejection}
use Rattle.rows.specs.declared.row.Origin.{Origin}
use Rattle.rows.specs.declared.row.Step.{Step}
use Rattle.instructions.specs.declared.instruction.InstructionKind.{InstructionKind}
use Rattle.instructions.specs.Reason.{reason}
use Rattle.scopes.specs.Evaluate.{Values}
use Rattle.stages.specs.declared.stage.ResolvedInstruction.{ResolvedInstruction}
use Rattle.evaluation.specs.Images.{ImageNames, with_origins, many_codes}
use Rattle.evaluation.specs.Instruction.{due, fault}
use Rattle.evaluation.specs.PrivateInstruction.{done}
use Rattle.imageconfig.specs.Stage.{unless_due}
use Rattle.stages.specs.Resolved.{Returns}
use Rattle.evaluation.specs.PrivateRefusals.{many_refused, reason_with, with_many, fault_with}
use Rattle.evaluation.specs.PrivateStage.{IsDone, put_to, IsPut, IsStepped, IsNext, AreNext}
use Rattle.evaluation.specs.Stages.{next_instruction, instructions_from}
use Rattle.evaluation.specs.declared.instruction.Done.{Done}
use Rattle.evaluation.specs.declared.stage.Progress.{Progress}
use Rattle.evaluation.specs.declared.state.State.{State}
use Rattle.evaluation.proofs.FoldFacts.{SoFar, so_far_first, so_far_more, so_far_reported, so_far_all}
use Rattle.evaluation.proofs.ReasonFacts.{many_is, reason_is}

-- a refusal by its parts

refusal_of : ℕ → Reason → Rejection
refusal_of line reported = record { reason = reported; line = line }

due_reported : {X : Type 0} (reported : Option Reason) (line : ℕ) (rest : Result X Rejection) (refusal : Rejection) → refusal.line ≡ line → reported ≡ Some refusal.reason → unless_due reported line rest ≡ Err refusal
unfolding refusal_of
due_reported reported line rest refusal at is =
    ap (λ c. unless_due c line rest) is ∙ ap (λ (n : ℕ). Err (refusal_of n refusal.reason)) (sym at)

not_due : {X : Type 0} (reported : Option Reason) (line : ℕ) (rest : Result X Rejection) → reported ≡ None → unless_due reported line rest ≡ rest
not_due reported line rest none = ap (λ c. unless_due c line rest) none

pub many_reported : {X : Type 0} (names : ImageNames) (line : ℕ) (rest : Result X Rejection) → nat_lt most_images (length names) ≡ true
    → Returns (unless_due (reason (many_codes names) None) line rest) (Err (many_refused line))
many_reported names line rest h = ap (λ c. unless_due c line rest) (many_is names true h)

pub few_go_on : {X : Type 0} (names : ImageNames) (line : ℕ) (rest : Result X Rejection) → nat_lt most_images (length names) ≡ false
    → unless_due (reason (many_codes names) None) line rest ≡ rest
few_go_on names line rest h = not_due (reason (many_codes names) None) line rest (many_is names false h)

-- an instruction that is put to its stage

pub put_many : (steps : List Step) (names : ImageNames) (line : ℕ) (made : Done) (fault : Fault Rejection) → fault ≡ many_refused line → nat_lt most_images (length names) ≡ true
    → IsPut steps names line made (Err fault)
unfolding IsPut
put_many steps names line made fault is h =
    let reported = many_reported names line (Ok (put_to steps names line made)) h in
    subst (λ (f : Fault Rejection). Returns (unless_due (reason (many_codes names) None) line (Ok (put_to steps names line made))) (Err f)) (sym is) reported

pub put_done : (steps : List Step) (names : ImageNames) (line : ℕ) (made : Done) (p : Progress) → nat_lt most_images (length names) ≡ false → p ≡ put_to steps names line made
    → IsPut steps names line made (Ok p)
unfolding IsPut
put_done steps names line made p h is = few_go_on names line _ h ∙ ap Ok (sym is)

pub put_none : (steps : List Step) (names : ImageNames) (line : ℕ) (made : Done) → IsPut steps names line made (Err Memory)
unfolding IsPut
put_none steps names line made = tt

-- an instruction after what its stage is so far

abbrev reason_both : Values → State → InstructionKind → ImageNames → Option Reason
reason_both args s kind names = reason (λ code. due args s kind code || many_codes names code) (fault args s kind)

reported_with : (args : Values) (s : State) (kind : InstructionKind) (names : ImageNames) (reported : Reason) → reason (due args s kind) (fault args s kind) ≡ Some reported
    → reason_both args s kind names ≡ Some (reason_with (nat_lt most_images (length names)) reported)
reported_with args s kind names reported h = reason_is args s kind names ∙ ap (with_many (nat_lt most_images (length names))) h

none_with : (args : Values) (s : State) (kind : InstructionKind) (names : ImageNames) → reason (due args s kind) (fault args s kind) ≡ None
    → reason_both args s kind names ≡ reason (many_codes names) None
none_with args s kind names h =
    reason_is args s kind names ∙ (ap (with_many (nat_lt most_images (length names))) h ∙ sym (many_is names (nat_lt most_images (length names)) refl))

pub stepped_reported : (args outer : Values) (s : State) (kind : InstructionKind) (origins : List Origin) (line : ℕ) (steps : List Step) (names : ImageNames) (reported out : Fault Rejection)
    → IsDone args outer s kind origins line (Err reported) → out ≡ fault_with (nat_lt most_images (length names)) reported → IsStepped args outer s kind origins line steps names (Err out)
unfolding IsDone IsStepped
stepped_reported args outer s kind origins line steps names (Because refusal) out h is =
    let rest : Result Progress Rejection = Ok (put_to steps names line (done args outer s kind origins)) in
    let whole = due_reported (reason_both args s kind names) line rest (record { reason = reason_with (nat_lt most_images (length names)) refusal.reason; line = refusal.line }) h.0
    (reported_with args s kind names refusal.reason h.1) in
    subst (λ (f : Fault Rejection). Returns (unless_due (reason_both args s kind names) line rest) (Err f)) (sym is) whole
stepped_reported args outer s kind origins line steps names Memory out h is =
    subst (λ (f : Fault Rejection). Returns (unless_due (reason_both args s kind names) line (Ok (put_to steps names line (done args outer s kind origins)))) (Err f)) (sym is) tt

pub stepped_put : (args outer : Values) (s : State) (kind : InstructionKind) (origins : List Origin) (line : ℕ) (steps : List Step) (names : ImageNames) (made : Done) (result : Result Progress (Fault Rejection))
    → IsDone args outer s kind origins line (Ok made) → IsPut steps names line made result → IsStepped args outer s kind origins line steps names result
unfolding IsDone IsStepped IsPut
stepped_put args outer s kind origins line steps names made result reported put =
    subst (λ (why : Option Reason). Returns (unless_due why line (Ok (put_to steps names line (done args outer s kind origins)))) result) (sym (none_with args s kind names reported.1))
    (subst (λ (d : Done). Returns (unless_due (reason (many_codes names) None) line (Ok (put_to steps names line d))) result) reported.0 put)

pub next_stepped : (args outer : Values) (p named : Progress) (r : ResolvedInstruction) (origins : List Origin) (result : Result Progress (Fault Rejection))
    → named ≡ (record { state = p.state; steps = p.steps; names = with_origins p.names origins }) → origins ≡ r.origins
    → IsStepped args outer named.state r.instruction.kind r.origins r.instruction.line named.steps named.names result → IsNext args outer p r result
unfolding IsNext IsStepped
next_stepped args outer p named r origins result is same h =
    subst (λ (os : List Origin).
    Returns (unless_due (reason_both args p.state r.instruction.kind (with_origins p.names os)) r.instruction.line
    (Ok (put_to p.steps (with_origins p.names os) r.instruction.line (done args outer p.state r.instruction.kind r.origins)))) result) same
    (subst (λ (q : Progress).
    Returns (unless_due (reason_both args q.state r.instruction.kind q.names) r.instruction.line
    (Ok (put_to q.steps q.names r.instruction.line (done args outer q.state r.instruction.kind r.origins)))) result) is h)

pub next_none : (args outer : Values) (p : Progress) (r : ResolvedInstruction) → IsNext args outer p r (Err Memory)
unfolding IsNext
next_none args outer p r = tt

-- the instructions of a stage

unfoldable pub NextSoFar : Values → Values → Progress → List ResolvedInstruction → List ResolvedInstruction → Progress → Type 0
NextSoFar args outer first all rest now = SoFar (next_instruction args outer) first all rest now

pub next_first : (args outer : Values) (first : Progress) (all : List ResolvedInstruction) → NextSoFar args outer first all all first
unfolding NextSoFar
next_first args outer first all = so_far_first (next_instruction args outer) first all

pub next_more : (args outer : Values) (first : Progress) (all rest left : List ResolvedInstruction) (r : ResolvedInstruction) (now more : Progress)
    → NextSoFar args outer first all rest now → rest ≡ r ∷ left → IsNext args outer now r (Ok more) → NextSoFar args outer first all left more
unfolding NextSoFar IsNext
next_more args outer first all rest left r now more far is made = so_far_more (next_instruction args outer) first all rest left r now more far is made

pub next_refused : (args outer : Values) (first : Progress) (all rest left whole : List ResolvedInstruction) (r : ResolvedInstruction) (now : Progress) (fault : Fault Rejection)
    → NextSoFar args outer first all rest now → rest ≡ r ∷ left → all ≡ whole → IsNext args outer now r (Err fault) → AreNext args outer first whole (Err fault)
unfolding NextSoFar IsNext AreNext
next_refused args outer first all rest left whole r now fault far is same reported =
    subst (λ (rs : List ResolvedInstruction). Returns (instructions_from args outer (Ok first) rs) (Err fault)) same
    (so_far_reported (next_instruction args outer) first all rest left r now fault far is reported)

pub next_all : (args outer : Values) (first : Progress) (all rest whole : List ResolvedInstruction) (now : Progress)
    → NextSoFar args outer first all rest now → length rest ≡ 0 → all ≡ whole → AreNext args outer first whole (Ok now)
unfolding NextSoFar AreNext
next_all args outer first all rest whole now far over same =
    subst (λ (rs : List ResolvedInstruction). instructions_from args outer (Ok first) rs ≡ Ok now) same
    (so_far_all (next_instruction args outer) first all rest now far over)
