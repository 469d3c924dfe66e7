-- What an instruction does is what it leaves and what it does to the tree by that; so it is with the reasons to refuse it.
use Rattle.std.specs.Prelude.{◌≡◌, ℕ, List, Option, Some, None, Result, Ok, Err, refl}
use Rattle.std.proofs.Common.{◌∙◌, ap, ap₂, subst}
use Rattle.plain.specs.declared.fault.Fault.{Fault}
use Rattle.plain.specs.declared.fault.Fault.TheVariants.{Because, Memory}
use Rattle.expand.specs.declared.reason.Rejection.{Rejection}
use Rattle.rows.specs.declared.row.Action.{Action}
use Rattle.rows.specs.declared.row.Origin.{Origin}
use Rattle.expand.specs.declared.reason.Reason.{Reason}
use Rattle.instructions.specs.Reason.{reason}
use Rattle.instructions.specs.declared.instruction.InstructionKind.{InstructionKind}
use Rattle.instructions.specs.declared.instruction.InstructionKind.TheVariants.{From, Arg, Env, Label, Expose, User, Workdir, StopSignal, Volume, Shell, Cmd, Entrypoint, Run, Copy}
use Rattle.scopes.specs.Evaluate.{Values}
use Rattle.evaluation.specs.Instruction.{after, action_in, due, fault}
use Rattle.evaluation.specs.PrivateRefusals.{EvaluatesTo}
use Rattle.evaluation.specs.PrivateInstruction.{left_due, left_fault, acted, acted_due, acted_fault, finished, done}
use Rattle.evaluation.specs.declared.instruction.Done.{Done}
use Rattle.evaluation.specs.declared.state.State.{State}

acted_is : (args outer : Values) (s : State) (kind : InstructionKind) (origins : List Origin) → acted (after args outer s kind) kind origins ≡ action_in s kind origins
acted_is args outer s (From image name) origins = refl
acted_is args outer s (Arg arguments) origins = refl
acted_is args outer s (Env assignments) origins = refl
acted_is args outer s (Label labels) origins = refl
acted_is args outer s (Expose ports) origins = refl
acted_is args outer s (User user) origins = refl
acted_is args outer s (Workdir path) origins = refl
acted_is args outer s (StopSignal signal) origins = refl
acted_is args outer s (Volume paths) origins = refl
acted_is args outer s (Shell words) origins = refl
acted_is args outer s (Cmd command) origins = refl
acted_is args outer s (Entrypoint command) origins = refl
acted_is args outer s (Run mounts command) origins = refl
acted_is args outer s (Copy sources destination flags) origins = refl

nothing_or : (reported : Reason) → None ≡ Some reported → ⊥
nothing_or reported e = cc

due_none : (args outer : Values) (s : State) (kind : InstructionKind) → reason (left_due args s kind) (left_fault args s kind) ≡ None → reason (acted_due (after args outer s kind) kind) (acted_fault (after args outer s kind) kind) ≡ None → reason (due args s kind) (fault args s kind) ≡ None
due_none args outer s (From image name) h k = h
due_none args outer s (Arg arguments) h k = h
due_none args outer s (Env assignments) h k = h
due_none args outer s (Label labels) h k = h
due_none args outer s (Expose ports) h k = h
due_none args outer s (User user) h k = h
due_none args outer s (Workdir path) h k = h
due_none args outer s (StopSignal signal) h k = h
due_none args outer s (Volume paths) h k = h
due_none args outer s (Shell words) h k = h
due_none args outer s (Cmd command) h k = h
due_none args outer s (Entrypoint command) h k = h
due_none args outer s (Run mounts command) h k = k
due_none args outer s (Copy sources destination flags) h k = k

due_left : (args : Values) (s : State) (kind : InstructionKind) (reported : Reason) → reason (left_due args s kind) (left_fault args s kind) ≡ Some reported → reason (due args s kind) (fault args s kind) ≡ Some reported
due_left args s (From image name) reported h = h
due_left args s (Arg arguments) reported h = h
due_left args s (Env assignments) reported h = h
due_left args s (Label labels) reported h = h
due_left args s (Expose ports) reported h = h
due_left args s (User user) reported h = h
due_left args s (Workdir path) reported h = h
due_left args s (StopSignal signal) reported h = h
due_left args s (Volume paths) reported h = h
due_left args s (Shell words) reported h = h
due_left args s (Cmd command) reported h = h
due_left args s (Entrypoint command) reported h = h
due_left args s (Run mounts command) reported h = absurd (nothing_or reported h)
due_left args s (Copy sources destination flags) reported h = absurd (nothing_or reported h)

due_acted : (args outer : Values) (s : State) (kind : InstructionKind) (reported : Reason) → reason (acted_due (after args outer s kind) kind) (acted_fault (after args outer s kind) kind) ≡ Some reported → reason (due args s kind) (fault args s kind) ≡ Some reported
due_acted args outer s (From image name) reported h = absurd (nothing_or reported h)
due_acted args outer s (Arg arguments) reported h = absurd (nothing_or reported h)
due_acted args outer s (Env assignments) reported h = absurd (nothing_or reported h)
due_acted args outer s (Label labels) reported h = absurd (nothing_or reported h)
due_acted args outer s (Expose ports) reported h = absurd (nothing_or reported h)
due_acted args outer s (User user) reported h = absurd (nothing_or reported h)
due_acted args outer s (Workdir path) reported h = absurd (nothing_or reported h)
due_acted args outer s (StopSignal signal) reported h = absurd (nothing_or reported h)
due_acted args outer s (Volume paths) reported h = absurd (nothing_or reported h)
due_acted args outer s (Shell words) reported h = absurd (nothing_or reported h)
due_acted args outer s (Cmd command) reported h = absurd (nothing_or reported h)
due_acted args outer s (Entrypoint command) reported h = absurd (nothing_or reported h)
due_acted args outer s (Run mounts command) reported h = h
due_acted args outer s (Copy sources destination flags) reported h = h

done_of : State → Option Action → Done
done_of state action = record { state = state; action = action }

pub reported_left : (args outer : Values) (s : State) (kind : InstructionKind) (origins : List Origin) (line : ℕ) (out : Fault Rejection)
    → EvaluatesTo (after args outer s kind) (left_due args s kind) (left_fault args s kind) line (Err out)
    → EvaluatesTo (done args outer s kind origins) (due args s kind) (fault args s kind) line (Err out)
reported_left args outer s kind origins line (Because refusal) h = (h.0, due_left args s kind refusal.reason h.1)
reported_left args outer s kind origins line Memory h = tt

pub reported_both : (args outer : Values) (s next : State) (kind : InstructionKind) (origins : List Origin) (line : ℕ) (result : Result Done (Fault Rejection))
    → EvaluatesTo (after args outer s kind) (left_due args s kind) (left_fault args s kind) line (Ok next)
    → EvaluatesTo (finished next kind origins) (acted_due next kind) (acted_fault next kind) line result
    → EvaluatesTo (done args outer s kind origins) (due args s kind) (fault args s kind) line result
unfolding done_of
reported_both args outer s next kind origins line (Ok made) left act =
    let acts = ap (λ (t : State). acted t kind origins) left.0 ∙ acted_is args outer s kind origins in
    let none = subst (λ (t : State). reason (acted_due t kind) (acted_fault t kind) ≡ None) left.0 act.1 in
    (act.0 ∙ ap₂ done_of left.0 acts, due_none args outer s kind left.1 none)
reported_both args outer s next kind origins line (Err (Because refusal)) left act =
    (act.0, due_acted args outer s kind refusal.reason (subst (λ (t : State). reason (acted_due t kind) (acted_fault t kind) ≡ Some refusal.reason) left.0 act.1))
reported_both args outer s next kind origins line (Err Memory) left act = tt

-- the same of a kind and a line that were read of an instruction

pub left_as : (args outer : Values) (s : State) (kind spelled : InstructionKind) (line at : ℕ) (result : Result State (Fault Rejection)) → spelled ≡ kind → at ≡ line
    → EvaluatesTo (after args outer s spelled) (left_due args s spelled) (left_fault args s spelled) at result
    → EvaluatesTo (after args outer s kind) (left_due args s kind) (left_fault args s kind) line result
left_as args outer s kind spelled line at result same here h =
    subst (λ (n : ℕ). EvaluatesTo (after args outer s kind) (left_due args s kind) (left_fault args s kind) n result) here
    (subst (λ (k : InstructionKind). EvaluatesTo (after args outer s k) (left_due args s k) (left_fault args s k) at result) same h)

pub finished_as : (s : State) (kind spelled : InstructionKind) (origins : List Origin) (line at : ℕ) (result : Result Done (Fault Rejection)) → spelled ≡ kind → at ≡ line
    → EvaluatesTo (finished s spelled origins) (acted_due s spelled) (acted_fault s spelled) at result
    → EvaluatesTo (finished s kind origins) (acted_due s kind) (acted_fault s kind) line result
finished_as s kind spelled origins line at result same here h =
    subst (λ (n : ℕ). EvaluatesTo (finished s kind origins) (acted_due s kind) (acted_fault s kind) n result) here
    (subst (λ (k : InstructionKind). EvaluatesTo (finished s k origins) (acted_due s k) (acted_fault s k) at result) same h)
