-- Facts on all refusals of a file.
use Rattle.std.proofs.Common.{◌≡◌, ◌<◌, ◌≤◌, ◌⊎◌, ◌++◌, ◌&&◌, ◌+◌, ℕ, zero, suc, Bool, true, false, List, [], ◌∷◌, Option, Some, None, length, take, drop, get_or, inl, inr, refl, sym, ap, ◌∙◌, subst, arith, if◌then◌else◌}
use Rattle.std.specs.Prelude.{Result, Ok, Err, IfOk, is_some}
use Rattle.std.specs.List.{Contains}
use Rattle.std.proofs.lemmas.Bool.{true≢false}
use Rattle.std.proofs.lemmas.List.{append_assoc, append-nil, length_push, take_more, drop_all}
use Rattle.std.proofs.Math.Seq.{drop-cons}
use Rattle.std.proofs.lemmas.List.Elements.{Contains-append_left, Contains-append_right, Contains-append_cases}
use Rattle.plain.specs.declared.fault.Fault.{Fault}
use Rattle.plain.specs.declared.fault.Fault.TheVariants.{Because, Memory}
use Rattle.plain.specs.declared.memory.Memory.{Memory as Want}
use Rattle.plain.specs.declared.refusal.Code.{Code}
use Rattle.plain.specs.declared.refusal.Code.TheVariants.{R05, R13}
use Rattle.expand.specs.Value.{Parts}
use Rattle.expand.specs.Reasons.{reason_number}
use Rattle.expand.specs.declared.fault.Unexpanded.{Unexpanded}
use Rattle.expand.specs.declared.reason.Reason.{Reason}
use Rattle.expand.specs.declared.reason.Reason.TheVariants.{Coded}
use Rattle.expand.specs.declared.reason.Rejection.{Rejection}
use Rattle.instructions.specs.Reason.{reason, Evaluates}
use Rattle.instructions.specs.declared.instruction.Argument.{Argument}
use Rattle.instructions.specs.Instruction.{Instruction}
use Rattle.instructions.specs.declared.instruction.InstructionKind.{InstructionKind}
use Rattle.scopes.specs.History.{scope_after}
use Rattle.scopes.specs.Scope.{value_in, kept}
use Rattle.scopes.specs.Evaluate.{Values, arg_line, arg_fault}
use Rattle.scopes.specs.declared.declaration.Declaration.{Declaration}
use Rattle.stages.specs.Naming.{Names, Known}
use Rattle.stages.specs.Before.{begun, declared_by, stage_names, all_but_last, with_declared, up_to, outer_scope}
use Rattle.stages.specs.Due.{argument_due, outer_due, outer_fault, inner_due, other_due, other_fault, begun_due, begun_fault, kind_due, kind_fault, due_after, fault_after, reason_after, IsReasonAfter}
use Rattle.stages.specs.Faults.{is_outer_argument, reported_before, refusals_after, target_refusals, empty_refusals, stage_refusals, AreJudged}
use Rattle.stages.specs.Refusals.{LacksTarget, LacksStages, IsDueAtLine, IsDue}
use Rattle.stages.specs.Resolved.{target_of, reported_at, first_refusal, are_arguments, unless_refused, with_target, resolved}
use Rattle.stages.specs.Table.{TableValue, stages_of}
use Rattle.stages.specs.PrivateFaults.{outer_with, outer_other, outer_by, names_by, reported, ReasonReported, Judges}
use Rattle.stages.proofs.BeforeFacts.{scope_open, scope_closed, scope_begun, scope_declared}
use Rattle.stages.proofs.DraftFacts.{names_begun, names_other}
use Rattle.stages.proofs.RefusalFacts.{LeastLaws, IsDueAfter, due_here, due_later, due_at_line}

-- what one more instruction leaves

scope_other : (args : Values) (is : List Instruction) (i : Instruction) (names : Names) (declared : Option (List Argument)) → stage_names is ≡ names → begun i.kind ≡ None
    → declared_by i.kind ≡ declared → outer_scope args (is ++ i ∷ []) ≡ outer_other args (outer_scope args is) names declared
scope_other args is i [] None there begins says =
    scope_open args is i there
    ∙ (ap (λ b. scope_after args (λ n. None) (outer_scope args is) (up_to b (with_declared (declared_by i.kind) []))) begins
    ∙ ap (λ d. scope_after args (λ n. None) (outer_scope args is) (with_declared d [])) says)
scope_other args is i [] (Some arguments) there begins says = scope_declared args is i arguments there begins says
scope_other args is i (name ∷ names) declared there begins says = scope_closed args is i name names there

scope_by : (args : Values) (is : List Instruction) (i : Instruction) (b : Option (Parts × Option (List ℕ))) → begun i.kind ≡ b
    → outer_scope args (is ++ i ∷ []) ≡ outer_by args (outer_scope args is) (stage_names is) (declared_by i.kind) b
scope_by args is i (Some stage) begins = scope_begun args is i stage (stage_names is) refl begins
scope_by args is i None begins = scope_other args is i (stage_names is) (declared_by i.kind) refl begins refl

names_more : (is : List Instruction) (i : Instruction) (b : Option (Parts × Option (List ℕ))) → begun i.kind ≡ b → stage_names (is ++ i ∷ []) ≡ names_by (stage_names is) b
names_more is i (Some stage) begins = names_begun is i stage begins
names_more is i None begins = names_other is i begins

outer_same : (args : Values) (outer : List Declaration) (names : Names) (declared : Option (List Argument)) (b : Option (Parts × Option (List ℕ)))
    → is_outer_argument names declared ≡ false → outer_by args outer names declared b ≡ outer
outer_same args outer names declared (Some stage) e = refl
outer_same args outer [] None None e = refl
outer_same args outer [] (Some arguments) None e = absurd (true≢false e)
outer_same args outer (name ∷ names) declared None e = refl

names_few : (names : Names) (b : Option (Parts × Option (List ℕ))) → length (names_by names b) ≤ length names + 1
names_few names (Some stage) = let h = length_push names stage.1 in omega (arith, h)
names_few names None = omega arith

-- which reason a call answers

none_some : {X : Type 0} (x : X) → None ≡ Some x → ⊥
none_some x e = cc

evaluates_reason : {X : Type 0} (made : Option X) (due : Code → Bool) (fault : Option Unexpanded) (result : Result X (Fault Reason)) (why : Option Reason) → Evaluates made due fault result
    → ReasonReported result why → why ≡ reason due fault
evaluates_reason made due fault (Ok x) why evaluates is = is ∙ sym evaluates.1
evaluates_reason made due fault (Err (Because other)) why evaluates is = is ∙ sym evaluates
evaluates_reason made due fault (Err Memory) why evaluates is = absurd is

pub all_evaluate : {X : Type 0} (made : Option X) (due : Code → Bool) (fault : Option Unexpanded) (result : Result X (Fault Reason)) (answer : Result (Option Reason) Want) → Evaluates made due fault result
    → IfOk answer (ReasonReported result) → IfOk answer (λ why. why ≡ reason due fault)
all_evaluate made due fault result (Ok why) evaluates is = evaluates_reason made due fault result why evaluates is
all_evaluate made due fault result (Err want) evaluates is = tt

-- a call that lends the scope judges
pub judged_same : (due : Code → Bool) (fault : Option Unexpanded) (outer : List Declaration) (why : Option Reason) → why ≡ reason due fault
    → Judges due fault outer outer outer why
judged_same due fault outer None e = (sym e, refl)
judged_same due fault outer (Some other) e = (sym e, refl)

pub lent_judged : (due : Code → Bool) (fault : Option Unexpanded) (outer : List Declaration) (result : Result (Option Reason) Want)
    → IfOk result (λ why. why ≡ reason due fault) → IfOk result (Judges due fault outer outer outer)
lent_judged due fault outer (Ok why) h = judged_same due fault outer why h
lent_judged due fault outer (Err want) h = tt

pub outer_none_judged : (args : Values) (outer : List Declaration) (declared : Option (List Argument)) → declared ≡ None
    → Judges (outer_due args outer declared) (outer_fault args outer declared) (outer_with args outer declared) outer outer (Some (Coded R05))
outer_none_judged args outer declared none =
    subst (λ d. Judges (outer_due args outer d) (outer_fault args outer d) (outer_with args outer d) outer outer (Some (Coded R05))) (sym none) (refl, refl)

pub outer_some_judged : (args : Values) (outer new : List Declaration) (declared : Option (List Argument)) (arguments : List Argument) (result : Result (Option Reason) Want)
    → declared ≡ Some arguments
    → IfOk result (Judges (argument_due (arg_fault (value_in outer) args arguments)) (arg_fault (value_in outer) args arguments) (kept (outer ++ arg_line (value_in outer) args (λ name. None) arguments)) outer new)
    → IfOk result (Judges (outer_due args outer declared) (outer_fault args outer declared) (outer_with args outer declared) outer new)
outer_some_judged args outer new declared arguments result says h =
    subst (λ d. IfOk result (Judges (outer_due args outer d) (outer_fault args outer d) (outer_with args outer d) outer new)) (sym says) h

pub other_outer_judged : (known : Known) (args : Values) (outer new : List Declaration) (names : Names) (kind : InstructionKind) (result : Result (Option Reason) Want)
    → names ≡ [] → IfOk result (Judges (outer_due args outer (declared_by kind)) (outer_fault args outer (declared_by kind)) (outer_with args outer (declared_by kind)) outer new)
    → IfOk result (Judges (other_due known args outer names kind) (other_fault args outer names kind) (outer_other args outer names (declared_by kind)) outer new)
other_outer_judged known args outer new names kind result none h =
    subst (λ ns. IfOk result (Judges (other_due known args outer ns kind) (other_fault args outer ns kind) (outer_other args outer ns (declared_by kind)) outer new)) (sym none) h

pub other_inner_judged : (known : Known) (args : Values) (outer : List Declaration) (names : Names) (kind : InstructionKind) (result : Result (Option Reason) Want)
    → (names ≡ [] → ⊥) → IfOk result (λ why. why ≡ reason (inner_due known (all_but_last names) kind) None)
    → IfOk result (Judges (other_due known args outer names kind) (other_fault args outer names kind) (outer_other args outer names (declared_by kind)) outer outer)
other_inner_judged known args outer [] kind result some h = absurd (some refl)
other_inner_judged known args outer (name ∷ names) kind result some h = lent_judged (inner_due known (all_but_last (name ∷ names)) kind) None outer result h

pub kind_other_judged : (known : Known) (args : Values) (outer new : List Declaration) (names lent : Names) (kind : InstructionKind) (result : Result (Option Reason) Want)
    → begun kind ≡ None → lent ≡ names → IfOk result (Judges (other_due known args outer lent kind) (other_fault args outer lent kind) (outer_other args outer lent (declared_by kind)) outer new)
    → IfOk result (Judges (kind_due known args outer names kind) (kind_fault args outer names kind) (outer_by args outer names (declared_by kind) (begun kind)) outer new)
kind_other_judged known args outer new names lent kind result begins same h =
    subst (λ b. IfOk result (Judges (begun_due known args outer names kind b) (begun_fault args outer names kind b) (outer_by args outer names (declared_by kind) b) outer new)) (sym begins)
    (subst (λ ns. IfOk result (Judges (other_due known args outer ns kind) (other_fault args outer ns kind) (outer_other args outer ns (declared_by kind)) outer new)) same h)

-- what is known after some instructions, and which refusals are still to come
pub record FaultsSoFar (known : Known) (args : Values) (all : List Rejection) (done rest : List Instruction) (count : ℕ) (outer : List Declaration) (names : Names) (refusals : List Rejection) : Type 0 where
  pub outer_is : outer ≡ outer_scope args done
  pub names_are : names ≡ stage_names done
  pub few : length names ≤ count
  pub reported : refusals ++ refusals_after known args done rest ≡ all

pub faults_first : (known : Known) (args : Values) (is : List Instruction) (outer : List Declaration) (names : Names) (refusals : List Rejection) → outer ≡ [] → names ≡ []
    → FaultsSoFar known args (refusals ++ refusals_after known args [] is) [] is 0 outer names refusals
faults_first known args is outer names refusals no_scope no_names = record {
  outer_is = no_scope;
  names_are = no_names;
  few = let h = ap length no_names in omega (arith, h);
  reported = refl;
}

due_as : (known : Known) (args : Values) (done : List Instruction) (outer : List Declaration) (names : Names) (i : Instruction) → outer ≡ outer_scope args done → names ≡ stage_names done
    → reason_after known args done i.kind ≡ reason (kind_due known args outer names i.kind) (kind_fault args outer names i.kind)
due_as known args done outer names i outer_is names_are =
    ap (λ scope. reason (kind_due known args scope (stage_names done) i.kind) (kind_fault args scope (stage_names done) i.kind)) (sym outer_is)
    ∙ ap (λ ns. reason (kind_due known args outer ns i.kind) (kind_fault args outer ns i.kind)) (sym names_are)

pub made_as : (args : Values) (done : List Instruction) (outer : List Declaration) (names : Names) (i : Instruction) → outer ≡ outer_scope args done → names ≡ stage_names done
    → outer_by args outer names (declared_by i.kind) (begun i.kind) ≡ outer_scope args (done ++ i ∷ [])
made_as args done outer names i outer_is names_are =
    ap (λ scope. outer_by args scope names (declared_by i.kind) (begun i.kind)) outer_is
    ∙ (ap (λ ns. outer_by args (outer_scope args done) ns (declared_by i.kind) (begun i.kind)) names_are ∙ sym (scope_by args done i (begun i.kind) refl))

pub names_as : (done : List Instruction) (names next : Names) (i : Instruction) → names ≡ stage_names done → next ≡ names_by names (begun i.kind) → next ≡ stage_names (done ++ i ∷ [])
names_as done names next i names_are is = is ∙ (ap (λ ns. names_by ns (begun i.kind)) names_are ∙ sym (names_more done i (begun i.kind) refl))

pub few_as : (names next : Names) (i : Instruction) (count : ℕ) → next ≡ names_by names (begun i.kind) → length names ≤ count → length next ≤ count + 1
few_as names next i count is few = let h = names_few names (begun i.kind) in let e = ap length is in omega (arith, h, e, few)

-- an instruction that isn't refused
pub faults_free : (known : Known) (args : Values) (all : List Rejection) (done : List Instruction) (i : Instruction) (rest : List Instruction) (count : ℕ)
    (outer next_outer : List Declaration) (names next_names : Names) (refusals : List Rejection)
    → FaultsSoFar known args all done (i ∷ rest) count outer names refusals
    → Judges (kind_due known args outer names i.kind) (kind_fault args outer names i.kind) (outer_by args outer names (declared_by i.kind) (begun i.kind)) outer next_outer None
    → next_names ≡ names_by names (begun i.kind)
    → FaultsSoFar known args all (done ++ i ∷ []) rest (count + 1) next_outer next_names refusals
faults_free known args all done i rest count outer next_outer names next_names refusals far judged more = record {
  outer_is = judged.1 ∙ made_as args done outer names i far.outer_is far.names_are;
  names_are = names_as done names next_names i far.names_are more;
  few = few_as names next_names i count more far.few;
  reported =
      ap (λ o. refusals ++ reported_before i.line o (is_outer_argument (stage_names done) (declared_by i.kind)) (refusals_after known args (done ++ i ∷ []) rest))
      (sym (due_as known args done outer names i far.outer_is far.names_are ∙ judged.0))
      ∙ far.reported;
}

reported_all : (known : Known) (args : Values) (all : List Rejection) (done : List Instruction) (i : Instruction) (rest : List Instruction) (count : ℕ)
    (outer : List Declaration) (names : Names) (refusals : List Rejection) (why : Reason) (is_last : Bool)
    → FaultsSoFar known args all done (i ∷ rest) count outer names refusals
    → reason (kind_due known args outer names i.kind) (kind_fault args outer names i.kind) ≡ Some why → is_outer_argument names (declared_by i.kind) ≡ is_last
    → refusals ++ (record { reason = why; line = i.line } ∷ (if is_last then [] else refusals_after known args (done ++ i ∷ []) rest)) ≡ all
reported_all known args all done i rest count outer names refusals why is_last far due last =
    ap (λ b. refusals ++ reported_before i.line (Some why) b (refusals_after known args (done ++ i ∷ []) rest))
    (sym (ap (λ ns. is_outer_argument ns (declared_by i.kind)) (sym far.names_are) ∙ last))
    ∙ (ap (λ o. refusals ++ reported_before i.line o (is_outer_argument (stage_names done) (declared_by i.kind)) (refusals_after known args (done ++ i ∷ []) rest))
    (sym (due_as known args done outer names i far.outer_is far.names_are ∙ due))
    ∙ far.reported)

-- an instruction that is refused, and isn't the last that is
pub faults_refused : (known : Known) (args : Values) (all : List Rejection) (done : List Instruction) (i : Instruction) (rest : List Instruction) (count : ℕ)
    (outer next_outer : List Declaration) (names next_names : Names) (refusals more : List Rejection) (why : Reason)
    → FaultsSoFar known args all done (i ∷ rest) count outer names refusals
    → Judges (kind_due known args outer names i.kind) (kind_fault args outer names i.kind) (outer_by args outer names (declared_by i.kind) (begun i.kind)) outer next_outer (Some why)
    → next_names ≡ names_by names (begun i.kind) → is_outer_argument names (declared_by i.kind) ≡ false
    → more ≡ refusals ++ record { reason = why; line = i.line } ∷ []
    → FaultsSoFar known args all (done ++ i ∷ []) rest (count + 1) next_outer next_names more
faults_refused known args all done i rest count outer next_outer names next_names refusals more why far judged longer goes_on added = record {
  outer_is =
      judged.1 ∙ (sym (outer_same args outer names (declared_by i.kind) (begun i.kind) goes_on) ∙ made_as args done outer names i far.outer_is far.names_are);
  names_are = names_as done names next_names i far.names_are longer;
  few = few_as names next_names i count longer far.few;
  reported =
      ap (λ rs. rs ++ refusals_after known args (done ++ i ∷ []) rest) added
      ∙ (append_assoc refusals (record { reason = why; line = i.line } ∷ []) (refusals_after known args (done ++ i ∷ []) rest)
      ∙ reported_all known args all done i rest count outer names refusals why false far judged.0 goes_on);
}

-- an ARG before the first FROM that is refused is the last
pub faults_ended : (known : Known) (args : Values) (all : List Rejection) (done : List Instruction) (i : Instruction) (rest : List Instruction) (count : ℕ)
    (outer next_outer : List Declaration) (names : Names) (refusals more : List Rejection) (why : Reason)
    → FaultsSoFar known args all done (i ∷ rest) count outer names refusals
    → Judges (kind_due known args outer names i.kind) (kind_fault args outer names i.kind) (outer_by args outer names (declared_by i.kind) (begun i.kind)) outer next_outer (Some why)
    → is_outer_argument names (declared_by i.kind) ≡ true → more ≡ refusals ++ record { reason = why; line = i.line } ∷ [] → more ≡ all
faults_ended known args all done i rest count outer next_outer names refusals more why far judged ends added =
    added ∙ reported_all known args all done i rest count outer names refusals why true far judged.0 ends

-- one more instruction, unless its refusal is the last
pub faults_step : (known : Known) (args : Values) (all : List Rejection) (done : List Instruction) (i : Instruction) (rest : List Instruction) (count : ℕ)
    (outer next_outer : List Declaration) (names next_names : Names) (refusals more : List Rejection) (why : Option Reason) (is_outer : Bool)
    → FaultsSoFar known args all done (i ∷ rest) count outer names refusals
    → Judges (kind_due known args outer names i.kind) (kind_fault args outer names i.kind) (outer_by args outer names (declared_by i.kind) (begun i.kind)) outer next_outer why
    → next_names ≡ names_by names (begun i.kind) → is_outer ≡ is_outer_argument names (declared_by i.kind)
    → more ≡ refusals ++ reported i.line why → (is_some why && is_outer) ≡ false
    → FaultsSoFar known args all (done ++ i ∷ []) rest (count + 1) next_outer next_names more
faults_step known args all done i rest count outer next_outer names next_names refusals more None is_outer far judged longer tests added goes_on =
    faults_free known args all done i rest count outer next_outer names next_names more
    (subst (λ rs. FaultsSoFar known args all done (i ∷ rest) count outer names rs) (sym (added ∙ append-nil refusals)) far) judged longer
faults_step known args all done i rest count outer next_outer names next_names refusals more (Some other) is_outer far judged longer tests added goes_on =
    faults_refused known args all done i rest count outer next_outer names next_names refusals more other far judged longer (sym tests ∙ goes_on) added

pub faults_last : (known : Known) (args : Values) (all : List Rejection) (done : List Instruction) (i : Instruction) (rest : List Instruction) (count : ℕ)
    (outer next_outer : List Declaration) (names : Names) (refusals more : List Rejection) (why : Option Reason) (is_outer : Bool)
    → FaultsSoFar known args all done (i ∷ rest) count outer names refusals
    → Judges (kind_due known args outer names i.kind) (kind_fault args outer names i.kind) (outer_by args outer names (declared_by i.kind) (begun i.kind)) outer next_outer why
    → is_outer ≡ is_outer_argument names (declared_by i.kind)
    → more ≡ refusals ++ reported i.line why → (is_some why && is_outer) ≡ true → more ≡ all
faults_last known args all done i rest count outer next_outer names refusals more None is_outer far judged tests added ends = absurd (true≢false (sym ends))
faults_last known args all done i rest count outer next_outer names refusals more (Some other) is_outer far judged tests added ends =
    faults_ended known args all done i rest count outer next_outer names refusals more other far judged (sym tests ∙ ends) added

pub faults_all : (known : Known) (args : Values) (all : List Rejection) (done : List Instruction) (count : ℕ) (outer : List Declaration) (names : Names) (refusals : List Rejection)
    → FaultsSoFar known args all done [] count outer names refusals → refusals ≡ all
faults_all known args all done count outer names refusals far = sym (append-nil refusals) ∙ far.reported

-- over the list that the loop goes through

pub taken : (is : List Instruction) (index : ℕ) (i : Instruction) → index < length is → i ≡ get_or is index i → take (index + 1) is ≡ take index is ++ i ∷ []
taken is index i lt here = take_more is index i lt ∙ ap (λ j. take index is ++ j ∷ []) (sym here)

pub dropped : (is : List Instruction) (index : ℕ) (i : Instruction) → index < length is → i ≡ get_or is index i → drop index is ≡ i ∷ drop (index + 1) is
dropped is index i lt here =
    let next : suc index ≡ index + 1 = omega arith in
    drop-cons is index i lt ∙ (ap (λ j. j ∷ drop (suc index) is) (sym here) ∙ ap (λ n. i ∷ drop n is) next)

pub turn_step : (known : Known) (args : Values) (all : List Rejection) (is : List Instruction) (index : ℕ) (i : Instruction) (kind : InstructionKind) (line : ℕ)
    (outer next_outer : List Declaration) (names next_names : Names) (refusals more : List Rejection) (why : Option Reason) (is_outer : Bool)
    → index < length is → i ≡ get_or is index i → kind ≡ i.kind → line ≡ i.line → FaultsSoFar known args all (take index is) (drop index is) index outer names refusals
    → Judges (kind_due known args outer names kind) (kind_fault args outer names kind) (outer_by args outer names (declared_by kind) (begun kind)) outer next_outer why
    → next_names ≡ names_by names (begun kind) → is_outer ≡ is_outer_argument names (declared_by kind)
    → more ≡ refusals ++ reported line why → (is_some why && is_outer) ≡ false
    → FaultsSoFar known args all (take (index + 1) is) (drop (index + 1) is) (index + 1) next_outer next_names more
turn_step known args all is index i kind line outer next_outer names next_names refusals more why is_outer lt here kind_is line_is far judged longer tests added goes_on =
    subst (λ (done : List Instruction). FaultsSoFar known args all done (drop (index + 1) is) (index + 1) next_outer next_names more) (sym (taken is index i lt here))
    (faults_step known args all (take index is) i (drop (index + 1) is) index outer next_outer names next_names refusals more why is_outer
    (subst (λ (rest : List Instruction). FaultsSoFar known args all (take index is) rest index outer names refusals) (dropped is index i lt here) far)
    (subst (λ k. Judges (kind_due known args outer names k) (kind_fault args outer names k) (outer_by args outer names (declared_by k) (begun k)) outer next_outer why) kind_is judged)
    (subst (λ k. next_names ≡ names_by names (begun k)) kind_is longer)
    (tests ∙ ap (λ k. is_outer_argument names (declared_by k)) kind_is) (added ∙ ap (λ n. refusals ++ reported n why) line_is) goes_on)

pub turn_last : (known : Known) (args : Values) (all : List Rejection) (is : List Instruction) (index : ℕ) (i : Instruction) (kind : InstructionKind) (line : ℕ)
    (outer next_outer : List Declaration) (names : Names) (refusals more : List Rejection) (why : Option Reason) (is_outer : Bool)
    → index < length is → i ≡ get_or is index i → kind ≡ i.kind → line ≡ i.line → FaultsSoFar known args all (take index is) (drop index is) index outer names refusals
    → Judges (kind_due known args outer names kind) (kind_fault args outer names kind) (outer_by args outer names (declared_by kind) (begun kind)) outer next_outer why
    → is_outer ≡ is_outer_argument names (declared_by kind)
    → more ≡ refusals ++ reported line why → (is_some why && is_outer) ≡ true → more ≡ all
turn_last known args all is index i kind line outer next_outer names refusals more why is_outer lt here kind_is line_is far judged tests added ends =
    faults_last known args all (take index is) i (drop (index + 1) is) index outer next_outer names refusals more why is_outer
    (subst (λ (rest : List Instruction). FaultsSoFar known args all (take index is) rest index outer names refusals) (dropped is index i lt here) far)
    (subst (λ k. Judges (kind_due known args outer names k) (kind_fault args outer names k) (outer_by args outer names (declared_by k) (begun k)) outer next_outer why) kind_is judged)
    (tests ∙ ap (λ k. is_outer_argument names (declared_by k)) kind_is) (added ∙ ap (λ n. refusals ++ reported n why) line_is) ends

pub turn_over : (known : Known) (args : Values) (all : List Rejection) (is : List Instruction) (index : ℕ) (outer : List Declaration) (names : Names) (refusals : List Rejection)
    → length is ≤ index → FaultsSoFar known args all (take index is) (drop index is) index outer names refusals → refusals ≡ all
turn_over known args all is index outer names refusals over far =
    faults_all known args all (take index is) index outer names refusals
    (subst (λ (rest : List Instruction). FaultsSoFar known args all (take index is) rest index outer names refusals) (drop_all index is over) far)

pub all_reported : (known : Known) (args : Values) (target : Option (List ℕ)) (is : List Instruction) (refusals : List Rejection) (result : Result (List Rejection) Want)
    → refusals ≡ target_refusals (target_of (stage_names is) target) ++ empty_refusals is
    → IfOk result (λ all. all ≡ refusals ++ refusals_after known args [] is) → IfOk result (λ all. all ≡ stage_refusals known args target is)
unfolding stage_refusals
all_reported known args target is refusals (Ok all) whole h = h ∙ ap (λ rs. rs ++ refusals_after known args [] is) whole
all_reported known args target is refusals (Err want) whole h = tt

-- the first refusal is what resolving is refused with

abbrev pub BeginsBy : Option Rejection → List Rejection → Type 0
BeginsBy None refusals = refusals ≡ []
BeginsBy (Some refusal) refusals = (more : List Rejection) × (refusals ≡ refusal ∷ more)

begins_by : (line : ℕ) (o : Option Reason) (is_last : Bool) (first : Option Rejection) (more : List Rejection) → BeginsBy first more → BeginsBy (reported_at line o first) (reported_before line o is_last more)
begins_by line None is_last first more h = h
begins_by line (Some why) is_last first more h = (if is_last then [] else more, refl)

begins_after : (known : Known) (args : Values) (before is : List Instruction) → BeginsBy (first_refusal known args before is) (refusals_after known args before is)
begins_after known args before [] = refl
begins_after known args before (i ∷ is) =
    begins_by i.line (reason_after known args before i.kind) (is_outer_argument (stage_names before) (declared_by i.kind))
    (first_refusal known args (before ++ i ∷ []) is) (refusals_after known args (before ++ i ∷ []) is) (begins_after known args (before ++ i ∷ []) is)

abbrev pub Relates : Result TableValue Rejection → List Rejection → Type 0
Relates (Ok table) refusals = refusals ≡ []
Relates (Err refusal) refusals = (more : List Rejection) × (refusals ≡ refusal ∷ more)

relates_first : (first : Option Rejection) (table : TableValue) (refusals : List Rejection) → BeginsBy first refusals → Relates (unless_refused first table) refusals
relates_first None table refusals h = h
relates_first (Some refusal) table refusals h = h

relates_stages : (known : Known) (args : Values) (is : List Instruction) (table : TableValue) (b : Bool)
    → Relates (unless_refused (if b then Some (record { reason = Coded R05; line = 1 }) else first_refusal known args [] is) table)
    ((if b then record { reason = Coded R05; line = 1 } ∷ [] else []) ++ refusals_after known args [] is)
relates_stages known args is table true = (refusals_after known args [] is, refl)
relates_stages known args is table false = relates_first (first_refusal known args [] is) table (refusals_after known args [] is) (begins_after known args [] is)

relates_target : (known : Known) (args : Values) (is : List Instruction) (target : Option ℕ)
    → Relates (with_target known args is target) ((target_refusals target ++ empty_refusals is) ++ refusals_after known args [] is)
relates_target known args is None = (empty_refusals is ++ refusals_after known args [] is, refl)
relates_target known args is (Some target) =
    relates_stages known args is (record { outer = outer_scope args is; stages = stages_of known args is; target = target }) (are_arguments is)

relates : (known : Known) (args : Values) (target : Option (List ℕ)) (is : List Instruction) → Relates (resolved known args target is) (stage_refusals known args target is)
unfolding resolved stage_refusals
relates known args target is = relates_target known args is (target_of (stage_names is) target)

nil_cons : {X : Type 0} (x : X) (xs : List X) → x ∷ xs ≡ [] → ⊥
nil_cons x xs e = cc

head_is : {X : Type 0} (x y : X) (xs ys : List X) → x ∷ xs ≡ y ∷ ys → x ≡ y
head_is x y xs ys e = cc

pub refused_first : (known : Known) (args : Values) (target : Option (List ℕ)) (is : List Instruction) (refusal : Rejection) → resolved known args target is ≡ Err refusal
    → (more : List Rejection) × (stage_refusals known args target is ≡ refusal ∷ more)
refused_first known args target is refusal e = subst (λ r. Relates r (stage_refusals known args target is)) e (relates known args target is)

pub resolved_none : (known : Known) (args : Values) (target : Option (List ℕ)) (is : List Instruction) (table : TableValue) → resolved known args target is ≡ Ok table
    → stage_refusals known args target is ≡ []
resolved_none known args target is table e = subst (λ r. Relates r (stage_refusals known args target is)) e (relates known args target is)

first_by : (result : Result TableValue Rejection) (refusal : Rejection) (more all : List Rejection) → Relates result all → all ≡ refusal ∷ more → result ≡ Err refusal
first_by (Ok table) refusal more all h e = absurd (nil_cons refusal more (sym e ∙ h))
first_by (Err other) refusal more all h e = ap Err (head_is other refusal h.0 more (sym h.1 ∙ e))

pub first_refused : (known : Known) (args : Values) (target : Option (List ℕ)) (is : List Instruction) (refusal : Rejection) (more : List Rejection)
    → stage_refusals known args target is ≡ refusal ∷ more → resolved known args target is ≡ Err refusal
first_refused known args target is refusal more e =
    first_by (resolved known args target is) refusal more (stage_refusals known args target is) (relates known args target is) e

none_by : (result : Result TableValue Rejection) (all : List Rejection) → Relates result all → all ≡ [] → (table : TableValue) × (result ≡ Ok table)
none_by (Ok table) all h e = (table, refl)
none_by (Err refusal) all h e = absurd (nil_cons refusal h.0 (sym h.1 ∙ e))

pub none_resolved : (known : Known) (args : Values) (target : Option (List ℕ)) (is : List Instruction) → stage_refusals known args target is ≡ []
    → (table : TableValue) × (resolved known args target is ≡ Ok table)
none_resolved known args target is e = none_by (resolved known args target is) (stage_refusals known args target is) (relates known args target is) e

-- each refusal is due

in_none : {X : Type 0} (x : X) → Contains [] x → ⊥
in_none x h = omega (arith, h.1)

in_one : {X : Type 0} (y x : X) → Contains (y ∷ []) x → y ≡ x
in_one y x (zero, within, e) = e
in_one y x (suc k, within, e) = absurd (omega (arith, within))

in_cons : {X : Type 0} (y : X) (ys : List X) (x : X) → Contains (y ∷ ys) x → (y ≡ x) ⊎ Contains ys x
in_cons y ys x h = elim (Contains-append_cases (y ∷ []) ys x h) [ inl here ↦ inl (in_one y x here) | inr there ↦ inr there ]

due_reported : LeastLaws → (known : Known) (args : Values) (before : List Instruction) (i : Instruction) (is : List Instruction) (o : Option Reason) (is_last : Bool) (refusal : Rejection)
    → reason_after known args before i.kind ≡ o
    → (Contains (refusals_after known args (before ++ i ∷ []) is) refusal → IsDueAfter known args (before ++ i ∷ []) is refusal)
    → Contains (reported_before i.line o is_last (refusals_after known args (before ++ i ∷ []) is)) refusal → IsDueAfter known args before (i ∷ is) refusal
due_reported laws known args before i is None is_last refusal e more h = due_later known args before i is refusal (more h)
due_reported laws known args before i is (Some why) true refusal e more h =
    let same = in_one (record { reason = why; line = i.line }) refusal h in
    subst (λ r. IsDueAfter known args before (i ∷ is) r) same
    (due_here known args before i is (record { reason = why; line = i.line }) (refl, (laws.is_least (due_after known args before i.kind) (fault_after args before i.kind) why e).0))
due_reported laws known args before i is (Some why) false refusal e more h = elim (in_cons (record { reason = why; line = i.line }) (refusals_after known args (before ++ i ∷ []) is) refusal h) [
  | inl same ↦
      subst (λ r. IsDueAfter known args before (i ∷ is) r) same
      (due_here known args before i is (record { reason = why; line = i.line }) (refl, (laws.is_least (due_after known args before i.kind) (fault_after args before i.kind) why e).0))
  | inr there ↦ due_later known args before i is refusal (more there)
]

due_in : LeastLaws → (known : Known) (args : Values) (before is : List Instruction) (refusal : Rejection) → Contains (refusals_after known args before is) refusal
    → IsDueAfter known args before is refusal
due_in laws known args before [] refusal h = absurd (in_none refusal h)
due_in laws known args before (i ∷ is) refusal h =
    due_reported laws known args before i is (reason_after known args before i.kind) (is_outer_argument (stage_names before) (declared_by i.kind)) refusal refl
    (λ there. due_in laws known args (before ++ i ∷ []) is refusal there) h

target_due : (known : Known) (args : Values) (target : Option (List ℕ)) (is : List Instruction) (o : Option ℕ) (refusal : Rejection) → target_of (stage_names is) target ≡ o
    → Contains (target_refusals o) refusal → IsDue known args target is refusal
target_due known args target is None refusal e h = inl (e, sym (in_one _ refusal h))
target_due known args target is (Some number) refusal e h = absurd (in_none refusal h)

empty_due : (known : Known) (args : Values) (target : Option (List ℕ)) (is : List Instruction) (b : Bool) (refusal : Rejection) → are_arguments is ≡ b
    → Contains (if b then record { reason = Coded R05; line = 1 } ∷ [] else []) refusal → IsDue known args target is refusal
empty_due known args target is true refusal e h = inr (inl (e, sym (in_one _ refusal h)))
empty_due known args target is false refusal e h = absurd (in_none refusal h)

pub each_due : LeastLaws → (known : Known) (args : Values) (target : Option (List ℕ)) (is : List Instruction) (refusal : Rejection)
    → Contains (stage_refusals known args target is) refusal → IsDue known args target is refusal
unfolding stage_refusals
each_due laws known args target is refusal h =
    elim (Contains-append_cases (target_refusals (target_of (stage_names is) target) ++ empty_refusals is) (refusals_after known args [] is) refusal h) [
      | inl whole ↦ elim (Contains-append_cases (target_refusals (target_of (stage_names is) target)) (empty_refusals is) refusal whole) [
        | inl lacks ↦ target_due known args target is (target_of (stage_names is) target) refusal refl lacks
        | inr empty ↦ empty_due known args target is (are_arguments is) refusal refl empty
      ]
      | inr line ↦ inr (inr (due_at_line known args is refusal (due_in laws known args [] is refusal line)))
    ]

-- and no due line is missing

first_in : {X : Type 0} (x : X) (xs : List X) → Contains (x ∷ xs) x
first_in x xs = (0, omega arith, refl)

-- a refusal of the same line is among some, whose number is no greater
abbrev pub IsCovered : List Rejection → Rejection → Type 0
IsCovered all refusal = (listed : Rejection) × Contains all listed × (listed.line ≡ refusal.line) × (reason_number listed.reason ≤ reason_number refusal.reason)

covered_more : (one : Rejection) (all : List Rejection) (refusal : Rejection) → IsCovered all refusal → IsCovered (one ∷ all) refusal
covered_more one all refusal h = (h.0, Contains-append_right (one ∷ []) all h.0 h.1, h.2, h.3)

abbrev AreJudgedAfter : Known → Values → List Instruction → List Instruction → Type 0
AreJudgedAfter known args first is = (before : List Instruction) (i : Instruction) (after : List Instruction) → is ≡ before ++ i ∷ after
    → is_outer_argument (stage_names (first ++ before)) (declared_by i.kind) ≡ true → reason_after known args (first ++ before) i.kind ≡ None

covered_here : LeastLaws → (known : Known) (args : Values) (first : List Instruction) (i : Instruction) (is : List Instruction) (refusal : Rejection) (o : Option Reason) (is_last : Bool)
    (more : List Rejection) → reason_after known args first i.kind ≡ o → refusal.line ≡ i.line → IsReasonAfter known args first i.kind refusal.reason
    → IsCovered (reported_before i.line o is_last more) refusal
covered_here laws known args first i is refusal None is_last more e line due =
    absurd (laws.is_free (due_after known args first i.kind) (fault_after args first i.kind) e refusal.reason due)
covered_here laws known args first i is refusal (Some why) is_last more e line due = (
  record { reason = why; line = i.line },
  first_in (record { reason = why; line = i.line }) (if is_last then [] else more),
  sym line,
  (laws.is_least (due_after known args first i.kind) (fault_after args first i.kind) why e).1 refusal.reason due,
)

covered_reported : (known : Known) (args : Values) (first : List Instruction) (i : Instruction) (refusal : Rejection) (o : Option Reason) (is_last : Bool) (more : List Rejection)
    → (is_last ≡ true → o ≡ None) → IsCovered more refusal → IsCovered (reported_before i.line o is_last more) refusal
covered_reported known args first i refusal None is_last more judged h = h
covered_reported known args first i refusal (Some why) true more judged h = absurd (none_some why (sym (judged refl)))
covered_reported known args first i refusal (Some why) false more judged h = covered_more (record { reason = why; line = i.line }) more refusal h

judged_here : (known : Known) (args : Values) (first : List Instruction) (b : Instruction) (bs : List Instruction) → AreJudgedAfter known args first (b ∷ bs)
    → is_outer_argument (stage_names first) (declared_by b.kind) ≡ true → reason_after known args first b.kind ≡ None
judged_here known args first b bs judged outer =
    subst (λ (is : List Instruction). reason_after known args is b.kind ≡ None) (append-nil first)
    (judged [] b bs refl (ap (λ (is : List Instruction). is_outer_argument (stage_names is) (declared_by b.kind)) (append-nil first) ∙ outer))

judged_later : (known : Known) (args : Values) (first : List Instruction) (b : Instruction) (bs : List Instruction) → AreJudgedAfter known args first (b ∷ bs)
    → AreJudgedAfter known args (first ++ b ∷ []) bs
judged_later known args first b bs judged before i after cut outer =
    let along : (first ++ b ∷ []) ++ before ≡ first ++ b ∷ before = append_assoc first (b ∷ []) before in
    ap (λ (is : List Instruction). reason_after known args is i.kind) along
    ∙ judged (b ∷ before) i after (ap (λ (is : List Instruction). b ∷ is) cut)
    (ap (λ (is : List Instruction). is_outer_argument (stage_names is) (declared_by i.kind)) (sym along) ∙ outer)

covered : LeastLaws → (known : Known) (args : Values) (first before : List Instruction) (i : Instruction) (after : List Instruction) (refusal : Rejection)
    → refusal.line ≡ i.line → IsReasonAfter known args (first ++ before) i.kind refusal.reason → AreJudgedAfter known args first before
    → IsCovered (refusals_after known args first (before ++ i ∷ after)) refusal
covered laws known args first [] i after refusal line due judged =
    covered_here laws known args first i after refusal (reason_after known args first i.kind) (is_outer_argument (stage_names first) (declared_by i.kind))
    (refusals_after known args (first ++ i ∷ []) after) refl line
    (subst (λ (is : List Instruction). IsReasonAfter known args is i.kind refusal.reason) (append-nil first) due)
covered laws known args first (b ∷ bs) i after refusal line due judged =
    covered_reported known args first b refusal (reason_after known args first b.kind) (is_outer_argument (stage_names first) (declared_by b.kind))
    (refusals_after known args (first ++ b ∷ []) (bs ++ i ∷ after)) (judged_here known args first b bs judged)
    (covered laws known args (first ++ b ∷ []) bs i after refusal line
    (subst (λ (is : List Instruction). IsReasonAfter known args is i.kind refusal.reason) (sym (append_assoc first (b ∷ []) bs)) due)
    (judged_later known args first b bs judged))

judged_all : (known : Known) (args : Values) (is : List Instruction) → AreJudged known args is → AreJudgedAfter known args [] is
judged_all known args is judged = judged

covered_append : (one all : List Rejection) (refusal : Rejection) → IsCovered all refusal → IsCovered (one ++ all) refusal
covered_append one all refusal h = (h.0, Contains-append_right one all h.0 h.1, h.2, h.3)

pub none_missing : LeastLaws → (known : Known) (args : Values) (target : Option (List ℕ)) (is : List Instruction) (refusal : Rejection) (due : IsDueAtLine known args is refusal)
    → AreJudged known args due.before → IsCovered (stage_refusals known args target is) refusal
unfolding stage_refusals
none_missing laws known args target is refusal due judged =
    covered_append (target_refusals (target_of (stage_names is) target) ++ empty_refusals is) (refusals_after known args [] is) refusal
    (subst (λ (js : List Instruction). IsCovered (refusals_after known args [] js) refusal) (sym due.cut)
    (covered laws known args [] due.before due.instruction due.after refusal due.line due.due (judged_all known args due.before judged)))

pub target_listed : (known : Known) (args : Values) (target : Option (List ℕ)) (is : List Instruction) (refusal : Rejection) → LacksTarget target is refusal
    → Contains (stage_refusals known args target is) refusal
unfolding stage_refusals
target_listed known args target is refusal lacks =
    Contains-append_left (target_refusals (target_of (stage_names is) target) ++ empty_refusals is) (refusals_after known args [] is) refusal
    (Contains-append_left (target_refusals (target_of (stage_names is) target)) (empty_refusals is) refusal
    (subst (λ (o : Option ℕ). Contains (target_refusals o) refusal) (sym lacks.0)
    (subst (λ (r : Rejection). Contains (record { reason = Coded R13; line = 0 } ∷ []) r) (sym lacks.1) (first_in (record { reason = Coded R13; line = 0 }) []))))

empty_by : (b : Bool) (refusal : Rejection) → b ≡ true → refusal ≡ record { reason = Coded R05; line = 1 } → Contains (if b then record { reason = Coded R05; line = 1 } ∷ [] else []) refusal
empty_by true refusal e is = subst (λ (r : Rejection). Contains (record { reason = Coded R05; line = 1 } ∷ []) r) (sym is) (first_in (record { reason = Coded R05; line = 1 }) [])
empty_by false refusal e is = absurd (true≢false (sym e))

pub empty_listed : (known : Known) (args : Values) (target : Option (List ℕ)) (is : List Instruction) (refusal : Rejection) → LacksStages is refusal
    → Contains (stage_refusals known args target is) refusal
unfolding stage_refusals
empty_listed known args target is refusal lacks =
    Contains-append_left (target_refusals (target_of (stage_names is) target) ++ empty_refusals is) (refusals_after known args [] is) refusal
    (Contains-append_right (target_refusals (target_of (stage_names is) target)) (empty_refusals is) refusal (empty_by (are_arguments is) refusal lacks.0 lacks.1))
