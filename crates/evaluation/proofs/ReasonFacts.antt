-- Why the line of an instruction is refused that names images too: by what is due for what it says, and by the number of images.
use Rattle.std.specs.Prelude.{◌≡◌, ◌||◌, ℕ, Bool, true, false, List, Option, Some, None, Result, Ok, length, nat_lt, refl, if◌then◌else◌}
use Rattle.std.proofs.Common.{sym, ◌∙◌, ap}
use Rattle.plain.specs.Limits.{most_images}
use Rattle.plain.specs.declared.refusal.Code.{Code}
use Rattle.plain.specs.declared.refusal.Code.TheVariants.{R01, R02, R03, R04, R05, R06, R07, R08, R09, R10, R11, R12, R13, R14, R15, R16, R17, R18, R19, R20}
use Rattle.expand.specs.declared.fault.Unexpanded.{Unexpanded}
use Rattle.expand.specs.declared.reason.Reason.{Reason}
use Rattle.expand.specs.declared.reason.Rejection.{Rejection}
use Rattle.instructions.specs.Least.{least}
use Rattle.instructions.specs.Reason.{reason, reason_by, required_in}
use Rattle.instructions.specs.declared.instruction.InstructionKind.{InstructionKind}
use Rattle.instructions.specs.declared.instruction.InstructionKind.TheVariants.{From, Arg, Env, Label, Expose, User, Workdir, StopSignal, Volume, Shell, Cmd, Entrypoint, Run, Copy}
use Rattle.scopes.specs.Evaluate.{Values}
use Rattle.stages.specs.declared.stage.ResolvedInstruction.{ResolvedInstruction}
use Rattle.evaluation.specs.Images.{ImageNames, with_origins, many_codes}
use Rattle.evaluation.specs.Instruction.{due, fault}
use Rattle.evaluation.specs.PrivateRefusals.{with_many}
use Rattle.evaluation.specs.Stages.{line_codes, with_instruction, next_instruction}
use Rattle.evaluation.specs.declared.stage.Progress.{Progress}
use Rattle.evaluation.specs.declared.state.State.{State}
use Rattle.evaluation.proofs.FoldFacts.{not_due}

-- if there is no reason to refuse a line, no code is due for it

no_code_by : (code : Option Code) (text : Option (List ℕ)) → reason_by code text ≡ None → code ≡ None
no_code_by None text h = refl
no_code_by (Some code) text h = absurd (cc)

pub no_code : (codes : Code → Bool) (against : Option Unexpanded) → reason codes against ≡ None → least codes ≡ None
no_code codes against h = no_code_by (least codes) (required_in against) h

-- a line that names images alone

pub many_is : (names : ImageNames) (b : Bool) → nat_lt most_images (length names) ≡ b → reason (many_codes names) None ≡ with_many b None
many_is names true h = ap (λ (t : Bool). reason_by (if t then Some R18 else None) None) h
many_is names false h = ap (λ (t : Bool). reason_by (if t then Some R18 else None) None) h

few_by : (b : Bool) → with_many b None ≡ None → b ≡ false
few_by true h = absurd (cc)
few_by false h = refl

pub few_is : (names : ImageNames) → reason (many_codes names) None ≡ None → nat_lt most_images (length names) ≡ false
few_is names h = few_by (nat_lt most_images (length names)) (sym (many_is names (nat_lt most_images (length names)) refl) ∙ h)

-- the codes after R18 aren't due for an instruction
abbrev pub AreSmall : (Code → Bool) → Type 0
AreSmall codes = (codes R19 ≡ false) × (codes R20 ≡ false)

small_due : (args : Values) (s : State) (kind : InstructionKind) → AreSmall (due args s kind)
small_due args s (From image name) = (refl, refl)
small_due args s (Arg arguments) = (refl, refl)
small_due args s (Env assignments) = (refl, refl)
small_due args s (Label labels) = (refl, refl)
small_due args s (Expose ports) = (refl, refl)
small_due args s (User user) = (refl, refl)
small_due args s (Workdir path) = (refl, refl)
small_due args s (StopSignal signal) = (refl, refl)
small_due args s (Volume paths) = (refl, refl)
small_due args s (Shell words) = (refl, refl)
small_due args s (Cmd command) = (refl, refl)
small_due args s (Entrypoint command) = (refl, refl)
small_due args s (Run mounts command) = (refl, refl)
small_due args s (Copy sources destination flags) = (refl, refl)

-- the least code of both

code_with : Bool → Option Code → Option Code
code_with many (Some code) = Some code
code_with false None = None
code_with true None = Some R18

-- a code that isn't due for images
before_18 : (said many : Bool) (code : Code) (rest both : Option Code) → both ≡ code_with many rest
    → (if said || false then Some code else both) ≡ code_with many (if said then Some code else rest)
unfolding code_with
before_18 true many code rest both h = refl
before_18 false many code rest both h = h

after_18 : (said many : Bool) (both rest : Option Code) → both ≡ None → rest ≡ None
    → (if said || many then Some R18 else both) ≡ code_with many (if said then Some R18 else rest)
unfolding code_with
after_18 true many both rest h k = refl
after_18 false true both rest h k = ap (code_with true) (sym k)
after_18 false false both rest h k = h ∙ ap (code_with false) (sym k)

none_after : (codes : Code → Bool) → AreSmall codes → (if codes R19 || false then Some R19 else (if codes R20 || false then Some R20 else None)) ≡ None
none_after codes small =
    ap (λ (t : Bool). if t || false then Some R19 else (if codes R20 || false then Some R20 else None)) small.0
    ∙ ap (λ (t : Bool). if t || false then Some R20 else None) small.1

rest_after : (codes : Code → Bool) → AreSmall codes → (if codes R19 then Some R19 else (if codes R20 then Some R20 else None)) ≡ None
rest_after codes small =
    ap (λ (t : Bool). if t then Some R19 else (if codes R20 then Some R20 else None)) small.0
    ∙ ap (λ (t : Bool). if t then Some R20 else None) small.1

least_with : (codes : Code → Bool) (names : ImageNames) → AreSmall codes
    → least (λ code. codes code || many_codes names code) ≡ code_with (nat_lt most_images (length names)) (least codes)
least_with codes names small =
    let many = nat_lt most_images (length names) in
    before_18 (codes R01) many R01 _ _
    (before_18 (codes R02) many R02 _ _
    (before_18 (codes R03) many R03 _ _
    (before_18 (codes R04) many R04 _ _
    (before_18 (codes R05) many R05 _ _
    (before_18 (codes R06) many R06 _ _
    (before_18 (codes R07) many R07 _ _
    (before_18 (codes R08) many R08 _ _
    (before_18 (codes R09) many R09 _ _
    (before_18 (codes R10) many R10 _ _
    (before_18 (codes R11) many R11 _ _
    (before_18 (codes R12) many R12 _ _
    (before_18 (codes R13) many R13 _ _
    (before_18 (codes R14) many R14 _ _
    (before_18 (codes R15) many R15 _ _
    (before_18 (codes R16) many R16 _ _
    (before_18 (codes R17) many R17 _ _
    (after_18 (codes R18) many _ _ (none_after codes small) (rest_after codes small))))))))))))))))))

reason_by_with : (many : Bool) (code : Option Code) (text : Option (List ℕ)) → reason_by (code_with many code) text ≡ with_many many (reason_by code text)
unfolding code_with
reason_by_with true (Some code) text = refl
reason_by_with false (Some code) text = refl
reason_by_with true None (Some text) = refl
reason_by_with false None (Some text) = refl
reason_by_with true None None = refl
reason_by_with false None None = refl

pub reason_is : (args : Values) (s : State) (kind : InstructionKind) (names : ImageNames)
    → reason (λ code. due args s kind code || many_codes names code) (fault args s kind)
    ≡ with_many (nat_lt most_images (length names)) (reason (due args s kind) (fault args s kind))
reason_is args s kind names =
    let text = required_in (fault args s kind) in
    ap (λ (code : Option Code). reason_by code text) (least_with (due args s kind) names (small_due args s kind))
    ∙ reason_by_with (nat_lt most_images (length names)) (least (due args s kind)) text

-- there is no reason to refuse the line for what it says, nor for the images
pub record FreeOfBoth (args : Values) (s : State) (kind : InstructionKind) (names : ImageNames) : Type 0 where
  pub none : reason (due args s kind) (fault args s kind) ≡ None
  pub few : nat_lt most_images (length names) ≡ false

free_by : (many : Bool) (said : Option Reason) → with_many many said ≡ None → (said ≡ None) × (many ≡ false)
free_by many (Some reason) h = absurd (cc)
free_by true None h = absurd (cc)
free_by false None h = (refl, refl)

pub both_free : (args : Values) (s : State) (kind : InstructionKind) (names : ImageNames)
    → reason (λ code. due args s kind code || many_codes names code) (fault args s kind) ≡ None → FreeOfBoth args s kind names
both_free args s kind names h =
    let free = free_by (nat_lt most_images (length names)) (reason (due args s kind) (fault args s kind)) (sym (reason_is args s kind names) ∙ h) in
    record { none = free.0; few = free.1 }

abbrev well_of : {X : Type 0} → X → Result X Rejection
well_of x = Ok x

same_ok : {X : Type 0} (x y : X) → well_of x ≡ well_of y → x ≡ y
same_ok x y e = cc

-- an instruction that isn't refused
pub record Goes (args outer : Values) (p next : Progress) (r : ResolvedInstruction) : Type 0 where
  pub free : FreeOfBoth args p.state r.instruction.kind (with_origins p.names r.origins)
  pub is : with_instruction args outer p r ≡ next

pub goes : (args outer : Values) (p next : Progress) (r : ResolvedInstruction) → next_instruction args outer p r ≡ Ok next → Goes args outer p next r
goes args outer p next r h =
    let made = with_instruction args outer p r in
    let none = not_due (reason (line_codes args p r) (fault args p.state r.instruction.kind)) r.instruction.line (Ok made) next h in
    record { free = both_free args p.state r.instruction.kind (with_origins p.names r.origins) none.none; is = same_ok made next none.after }
