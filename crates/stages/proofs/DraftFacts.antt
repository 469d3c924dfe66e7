-- What the code has of a file, instruction by instruction.
use Rattle.std.proofs.Common.{◌≡◌, ◌<◌, ◌||◌, ℕ, Bool, true, false, List, [], ◌∷◌, ◌++◌, Option, Some, None, length, refl, sym, ap, ◌∙◌, subst, arith, if◌then◌else◌}
use Rattle.std.specs.Prelude.{◌==◌, nat_le, Result, Err}
use Rattle.std.specs.List.{All, cons_option}
use Rattle.std.specs.Option.{option_map}
use Rattle.std.proofs.lemmas.Bool.{true≢false, leb-false, eqb-true}
use Rattle.std.proofs.lemmas.List.{append-nil, append_assoc, length_push}
use Rattle.std.proofs.lemmas.List.Elements.{All-nil, All-push}
use Rattle.plain.specs.Limits.{most_stages}
use Rattle.plain.specs.declared.refusal.Code.{Code}
use Rattle.plain.specs.declared.refusal.Code.TheVariants.{R05, R11, R12, R18}
use Rattle.expand.specs.Value.{Parts}
use Rattle.expand.specs.declared.fault.Unexpanded.{Unexpanded}
use Rattle.expand.specs.declared.reason.Reason.{Reason}
use Rattle.expand.specs.declared.reason.Reason.TheVariants.{Coded}
use Rattle.plain.specs.declared.fault.Fault.{Fault}
use Rattle.plain.specs.declared.fault.Fault.TheVariants.{Because, Memory}
use Rattle.rows.specs.declared.row.Origin.{Origin}
use Rattle.instructions.specs.Least.{least}
use Rattle.instructions.specs.Reason.{is_long, required_in, reason_by, reason, Evaluates}
use Rattle.instructions.specs.declared.instruction.Argument.{Argument}
use Rattle.instructions.specs.Instruction.{Instruction}
use Rattle.instructions.specs.declared.instruction.InstructionKind.{InstructionKind}
use Rattle.scopes.specs.Scope.{value_in, kept}
use Rattle.scopes.specs.Evaluate.{Values, arg_line, arg_fault}
use Rattle.scopes.specs.declared.declaration.Declaration.{Declaration}
use Rattle.stages.specs.declared.resolving.Draft.{Draft}
use Rattle.stages.specs.declared.stage.ResolvedInstruction.{ResolvedInstruction}
use Rattle.stages.specs.declared.stage.ResolvedStage.{ResolvedStage}
use Rattle.stages.specs.Naming.{Names, Known, origins_of, leads_nowhere}
use Rattle.stages.specs.Before.{begun, declared_by, stage_names, all_but_last, outer_scope}
use Rattle.stages.specs.Due.{base_text, base_fault, is_taken, base_due, argument_due, outer_due, outer_fault, inner_due, other_due, other_fault, begun_due, begun_fault, kind_due, kind_fault, reason_after}
use Rattle.stages.specs.Table.{stages_after, stages_of}
use Rattle.stages.specs.Resolved.{reported_at, first_refusal}
use Rattle.stages.specs.PrivateResolving.{with_last, last_with, draft_begun, draft_declared, draft_outer, draft_extended, draft_other, draft_by, draft_after, IsCounted, AreCounted, IsDraft}
use Rattle.stages.proofs.BeforeFacts.{stage_names-push, scope_closed, scope_begun, scope_declared}
use Rattle.stages.proofs.NamingFacts.{origins_counted}
use Rattle.stages.proofs.TableFacts.{resolved_as, new_stage, extended, extended-with_last, stages_none, stages_begun, stages_extended}

cons_none : {X : Type 0} (x : X) (xs : List X) → x ∷ xs ≡ [] → ⊥
cons_none x xs e = cc

some_none : {X : Type 0} (x : X) → Some x ≡ None → ⊥
some_none x e = cc

some_is : {X : Type 0} (x y : X) → Some x ≡ Some y → x ≡ y
some_is x y e = cc

pub push_none : {X : Type 0} (xs : List X) (x : X) → xs ++ x ∷ [] ≡ [] → ⊥
push_none xs x e = let h = sym (length_push xs x) ∙ ap length e in omega (arith, h)

-- if there is no reason, no code is due

no_code_by : (o : Option Code) (text : Option (List ℕ)) → reason_by o text ≡ None → o ≡ None
no_code_by None text e = refl
no_code_by (Some code) text e = absurd (some_none (Coded code) e)

no_code : (due : Code → Bool) (fault : Option Unexpanded) → reason due fault ≡ None → least due ≡ None
no_code due fault e = no_code_by (least due) (required_in fault) e

-- if no code is due, none of the three is

base_clear : (a b c : Bool) → (if a then Some R11 else (if b then Some R12 else (if c then Some R18 else None))) ≡ None
    → (b ≡ false) × (c ≡ false)
base_clear true b c e = absurd (some_none R11 e)
base_clear false true c e = absurd (some_none R12 e)
base_clear false false true e = absurd (some_none R18 e)
base_clear false false false e = (refl, refl)

either_clear : (a b : Bool) → (a || b) ≡ false → b ≡ false
either_clear true b e = absurd (true≢false e)
either_clear false b e = e

room : (known : Known) (names : Names) (text : Option (List ℕ)) (fault : Option Unexpanded) (name : Option (List ℕ))
    → reason (base_due known names text fault name) fault ≡ None → length names < most_stages
room known names text fault name clear =
    let h = base_clear (is_taken names name) _ (is_long fault || nat_le most_stages (length names)) (no_code (base_due known names text fault name) fault clear) in
    leb-false most_stages (length names) (either_clear (is_long fault) _ h.1)

inner_clear : (a : Bool) → (if a then Some R12 else None) ≡ None → a ≡ false
inner_clear true e = absurd (some_none R12 e)
inner_clear false e = refl

-- all stages, and a last one

pub with_last_all : (P : ResolvedStage → Type 0) (stages : List ResolvedStage) (last : Option ResolvedStage) → All P stages
    → ((stage : ResolvedStage) → last ≡ Some stage → P stage) → All P (with_last stages last)
with_last_all P stages None all of_last = all
with_last_all P stages (Some last) all of_last = All-push P stages last all (of_last last refl)

last_counted_with : (r : ResolvedInstruction) (last : Option ResolvedStage) → IsCounted r → ((stage : ResolvedStage) → last ≡ Some stage → AreCounted stage)
    → (stage : ResolvedStage) → last_with r last ≡ Some stage → AreCounted stage
last_counted_with r None counted of_last stage e = absurd (some_none stage (sym e))
last_counted_with r (Some last) counted of_last stage e =
    subst AreCounted (some_is _ _ e) (All-push IsCounted last.instructions r (of_last last refl) counted)

last_with_none : (r : ResolvedInstruction) (last : Option ResolvedStage) → last_with r last ≡ None → last ≡ None
last_with_none r None e = refl
last_with_none r (Some last) e = absurd (some_none _ e)

-- before all instructions

pub draft_first : (known : Known) (args : Values) (draft : Draft) → draft.outer ≡ [] → draft.names ≡ [] → draft.stages ≡ [] → draft.last ≡ None
    → IsDraft known args [] draft
draft_first known args draft outer names stages last = record {
  outer = outer;
  names = names;
  stages = ap (λ l. with_last draft.stages l) last ∙ stages;
  few = let h = ap length names in omega (arith, h);
  none = λ e. last;
  first = λ e. stages;
  counted = subst (λ ss. All AreCounted ss) (sym stages) (All-nil AreCounted);
  last_counted = λ stage there. absurd (some_none stage (sym there ∙ last));
}

-- after a FROM

pub names_begun : (is : List Instruction) (i : Instruction) (stage : Parts × Option (List ℕ)) → begun i.kind ≡ Some stage
    → stage_names (is ++ i ∷ []) ≡ stage_names is ++ stage.1 ∷ []
names_begun is i stage begins = stage_names-push is i ∙ ap (λ b. stage_names is ++ cons_option (option_map (λ s. s.1) b) []) begins

pub names_other : (is : List Instruction) (i : Instruction) → begun i.kind ≡ None → stage_names (is ++ i ∷ []) ≡ stage_names is
names_other is i begins =
    stage_names-push is i ∙ ap (λ b. stage_names is ++ cons_option (option_map (λ s. s.1) b) []) begins ∙ append-nil (stage_names is)

stages_of_begun : (known : Known) (args : Values) (is : List Instruction) (i : Instruction) (stage : Parts × Option (List ℕ)) → begun i.kind ≡ Some stage
    → stages_of known args (is ++ i ∷ []) ≡ stages_of known args is ++ new_stage known (outer_scope args is) (stage_names is) i.line stage [] ∷ []
stages_of_begun known args is i stage begins =
    ap (λ scope. stages_after known scope [] (is ++ i ∷ [])) (scope_begun args is i stage (stage_names is) refl begins)
    ∙ stages_begun known (outer_scope args is) [] is i stage begins

after_begun : (known : Known) (args : Values) (is : List Instruction) (i : Instruction) (draft : Draft) (stage : Parts × Option (List ℕ)) → IsDraft known args is draft
    → begun i.kind ≡ Some stage → reason (base_due known draft.names (base_text draft.outer stage.0) (base_fault draft.outer stage.0) stage.1) (base_fault draft.outer stage.0) ≡ None
    → IsDraft known args (is ++ i ∷ []) (draft_begun known draft i.line stage.0 stage.1)
after_begun known args is i draft stage of begins clear = record {
  outer = of.outer ∙ sym (scope_begun args is i stage (stage_names is) refl begins);
  names = ap (λ ns. ns ++ stage.1 ∷ []) of.names ∙ sym (names_begun is i stage begins);
  stages =
      ap (λ ss. ss ++ new_stage known draft.outer draft.names i.line stage [] ∷ []) of.stages
      ∙ ap (λ scope. stages_of known args is ++ new_stage known scope draft.names i.line stage [] ∷ []) of.outer
      ∙ ap (λ ns. stages_of known args is ++ new_stage known (outer_scope args is) ns i.line stage [] ∷ []) of.names
      ∙ sym (stages_of_begun known args is i stage begins);
  few =
      let r = room known draft.names (base_text draft.outer stage.0) (base_fault draft.outer stage.0) stage.1 clear in
      let h = length_push draft.names stage.1 in omega (arith, r, h);
  none = λ e. absurd (push_none draft.names stage.1 e);
  first = λ e. absurd (some_none _ e);
  counted = with_last_all AreCounted draft.stages draft.last of.counted of.last_counted;
  last_counted = λ s there. subst AreCounted (some_is _ _ there) (All-nil IsCounted);
}

-- after an ARG before the first FROM

stages_of_none : (known : Known) (args : Values) (is : List Instruction) → stage_names is ≡ [] → stages_of known args is ≡ []
stages_of_none known args is none = stages_none known (outer_scope args is) [] is none

after_declared : (known : Known) (args : Values) (is : List Instruction) (i : Instruction) (draft : Draft) (arguments : List Argument) → IsDraft known args is draft
    → begun i.kind ≡ None → declared_by i.kind ≡ Some arguments → draft.names ≡ []
    → IsDraft known args (is ++ i ∷ []) (draft_declared args draft arguments)
after_declared known args is i draft arguments of begins says none =
    let before = sym of.names ∙ none in
    record {
      outer =
          ap (λ scope. kept (scope ++ arg_line (value_in scope) args (λ n. None) arguments)) of.outer
          ∙ sym (scope_declared args is i arguments before begins says);
      names = of.names ∙ sym (names_other is i begins);
      stages =
          of.stages ∙ stages_of_none known args is before
          ∙ sym (stages_of_none known args (is ++ i ∷ []) (names_other is i begins ∙ before));
      few = of.few;
      none = of.none;
      first = of.first;
      counted = of.counted;
      last_counted = of.last_counted;
    }

-- after an instruction of a stage

after_extended : (known : Known) (args : Values) (is : List Instruction) (i : Instruction) (draft : Draft) (name : Option (List ℕ)) (names : Names) → IsDraft known args is draft
    → begun i.kind ≡ None → draft.names ≡ name ∷ names → leads_nowhere known (all_but_last draft.names) i.kind ≡ false
    → IsDraft known args (is ++ i ∷ []) (draft_extended known draft i)
after_extended known args is i draft name names of begins some leads =
    let r = resolved_as known (all_but_last draft.names) i in
    let before = sym of.names ∙ some in
    record {
      outer = of.outer ∙ sym (scope_closed args is i name names before);
      names = of.names ∙ sym (names_other is i begins);
      stages =
          sym (extended-with_last r draft.stages draft.last of.first)
          ∙ ap (λ ns. extended (resolved_as known (all_but_last ns) i) (with_last draft.stages draft.last)) of.names
          ∙ ap (λ ss. extended (resolved_as known (all_but_last (stage_names is)) i) ss) of.stages
          ∙ sym (stages_extended known (outer_scope args is) is i [] begins)
          ∙ ap (λ scope. stages_after known scope [] (is ++ i ∷ [])) (sym (scope_closed args is i name names before));
      few = of.few;
      none = λ e. absurd (cons_none name names (sym some ∙ e));
      first = λ e. of.first (last_with_none r draft.last e);
      counted = of.counted;
      last_counted = last_counted_with r draft.last (origins_counted known (all_but_last draft.names) i.kind leads) of.last_counted;
    }

-- after any instruction that isn't refused

after_outer : (known : Known) (args : Values) (is : List Instruction) (i : Instruction) (draft : Draft) (d : Option (List Argument)) → IsDraft known args is draft
    → begun i.kind ≡ None → declared_by i.kind ≡ d → draft.names ≡ [] → reason (outer_due args draft.outer d) (outer_fault args draft.outer d) ≡ None
    → IsDraft known args (is ++ i ∷ []) (draft_outer args draft d)
after_outer known args is i draft None of begins says none clear = absurd (some_none (Coded R05) clear)
after_outer known args is i draft (Some arguments) of begins says none clear = after_declared known args is i draft arguments of begins says none

after_other : (known : Known) (args : Values) (is : List Instruction) (i : Instruction) (draft : Draft) (names : Names) → IsDraft known args is draft
    → begun i.kind ≡ None → draft.names ≡ names → reason (other_due known args draft.outer names i.kind) (other_fault args draft.outer names i.kind) ≡ None
    → IsDraft known args (is ++ i ∷ []) (draft_other known args draft names i)
after_other known args is i draft [] of begins there clear = after_outer known args is i draft (declared_by i.kind) of begins refl there clear
after_other known args is i draft (name ∷ names) of begins there clear =
    after_extended known args is i draft name names of begins there
    (ap (λ ns. leads_nowhere known (all_but_last ns) i.kind) there ∙ inner_clear (leads_nowhere known (all_but_last (name ∷ names)) i.kind) (no_code (inner_due known (all_but_last (name ∷ names)) i.kind) None clear))

after_by : (known : Known) (args : Values) (is : List Instruction) (i : Instruction) (draft : Draft) (b : Option (Parts × Option (List ℕ))) → IsDraft known args is draft
    → begun i.kind ≡ b → reason (begun_due known args draft.outer draft.names i.kind b) (begun_fault args draft.outer draft.names i.kind b) ≡ None
    → IsDraft known args (is ++ i ∷ []) (draft_by known args draft i b)
after_by known args is i draft (Some stage) of begins clear = after_begun known args is i draft stage of begins clear
after_by known args is i draft None of begins clear = after_other known args is i draft draft.names of begins refl clear

pub draft_step : (known : Known) (args : Values) (is : List Instruction) (i : Instruction) (draft next : Draft) → IsDraft known args is draft
    → reason (kind_due known args draft.outer draft.names i.kind) (kind_fault args draft.outer draft.names i.kind) ≡ None → Some (draft_after known args draft i) ≡ Some next
    → IsDraft known args (is ++ i ∷ []) next
draft_step known args is i draft next of clear made =
    subst (λ d. IsDraft known args (is ++ i ∷ []) d) (some_is _ _ made) (after_by known args is i draft (begun i.kind) of refl clear)

-- some instructions went without a refusal, and these are left
pub record DraftSoFar (known : Known) (args : Values) (all rest : List Instruction) (draft : Draft) : Type 0 where
  pub done : List Instruction
  pub split : all ≡ done ++ rest
  pub are : IsDraft known args done draft
  pub clear : first_refusal known args [] all ≡ first_refusal known args done rest

pub so_far_first : (known : Known) (args : Values) (all rest : List Instruction) (draft : Draft) → all ≡ rest
    → draft.outer ≡ [] → draft.names ≡ [] → draft.stages ≡ [] → draft.last ≡ None → DraftSoFar known args all rest draft
so_far_first known args all rest draft same outer names stages last = record {
  done = [];
  split = same;
  are = draft_first known args draft outer names stages last;
  clear = ap (λ is. first_refusal known args [] is) same;
}

pub due_same : (known : Known) (args : Values) (is : List Instruction) (draft : Draft) (i : Instruction) → IsDraft known args is draft
    → reason_after known args is i.kind ≡ reason (kind_due known args draft.outer draft.names i.kind) (kind_fault args draft.outer draft.names i.kind)
due_same known args is draft i of =
    ap (λ scope. reason (kind_due known args scope (stage_names is) i.kind) (kind_fault args scope (stage_names is) i.kind)) (sym of.outer)
    ∙ ap (λ ns. reason (kind_due known args draft.outer ns i.kind) (kind_fault args draft.outer ns i.kind)) (sym of.names)

pub so_far_step : (known : Known) (args : Values) (all : List Instruction) (i : Instruction) (old rest : List Instruction) (draft next : Draft)
    → DraftSoFar known args all old draft → old ≡ i ∷ rest
    → Some (draft_after known args draft i) ≡ Some next → reason (kind_due known args draft.outer draft.names i.kind) (kind_fault args draft.outer draft.names i.kind) ≡ None
    → DraftSoFar known args all rest next
so_far_step known args all i old rest draft next so_far left made clear = record {
  done = so_far.done ++ i ∷ [];
  split = so_far.split ∙ ap (λ is. so_far.done ++ is) left ∙ sym (append_assoc so_far.done (i ∷ []) rest);
  are = draft_step known args so_far.done i draft next so_far.are clear made;
  clear =
      so_far.clear ∙ ap (λ is. first_refusal known args so_far.done is) left
      ∙ ap (λ o. reported_at i.line o (first_refusal known args (so_far.done ++ i ∷ []) rest)) (due_same known args so_far.done draft i so_far.are ∙ clear);
}

pub so_far_refused : (known : Known) (args : Values) (all : List Instruction) (i : Instruction) (old rest : List Instruction) (draft : Draft) (why : Reason)
    → DraftSoFar known args all old draft → old ≡ i ∷ rest → reason (kind_due known args draft.outer draft.names i.kind) (kind_fault args draft.outer draft.names i.kind) ≡ Some why
    → first_refusal known args [] all ≡ Some (record { reason = why; line = i.line })
so_far_refused known args all i old rest draft why so_far left due =
    so_far.clear ∙ ap (λ is. first_refusal known args so_far.done is) left
    ∙ ap (λ o. reported_at i.line o (first_refusal known args (so_far.done ++ i ∷ []) rest)) (due_same known args so_far.done draft i so_far.are ∙ due)

empty_of_length : {X : Type 0} (xs : List X) → length xs ≡ 0 → xs ≡ []
empty_of_length [] e = refl
empty_of_length (x ∷ xs) e = absurd (omega (arith, e))

pub so_far_all : (known : Known) (args : Values) (all rest : List Instruction) (draft : Draft) → DraftSoFar known args all rest draft → length rest ≡ 0
    → (first_refusal known args [] all ≡ None) × IsDraft known args all draft
so_far_all known args all rest draft so_far over =
    let none = empty_of_length rest over in
    let same = so_far.split ∙ ap (λ is. so_far.done ++ is) none ∙ append-nil so_far.done in (
      so_far.clear ∙ ap (λ is. first_refusal known args so_far.done is) none,
      subst (λ is. IsDraft known args is draft) (sym same) so_far.are,
    )

-- what a call on an instruction answers, by what it begins and what stands before it

pub adds_begun : (known : Known) (args : Values) (draft : Draft) (i : Instruction) (stage : Parts × Option (List ℕ)) (result : Result Draft (Fault Reason))
    → begun i.kind ≡ Some stage
    → Evaluates (Some (draft_begun known draft i.line stage.0 stage.1)) (base_due known draft.names (base_text draft.outer stage.0) (base_fault draft.outer stage.0) stage.1) (base_fault draft.outer stage.0) result
    → Evaluates (Some (draft_after known args draft i)) (kind_due known args draft.outer draft.names i.kind) (kind_fault args draft.outer draft.names i.kind) result
adds_begun known args draft i stage result begins evaluates =
    subst (λ b. Evaluates (Some (draft_by known args draft i b)) (begun_due known args draft.outer draft.names i.kind b) (begun_fault args draft.outer draft.names i.kind b) result) (sym begins) evaluates

pub adds_other : (known : Known) (args : Values) (draft : Draft) (i : Instruction) (names : Names) (result : Result Draft (Fault Reason))
    → begun i.kind ≡ None → draft.names ≡ names
    → Evaluates (Some (draft_other known args draft names i)) (other_due known args draft.outer names i.kind) (other_fault args draft.outer names i.kind) result
    → Evaluates (Some (draft_after known args draft i)) (kind_due known args draft.outer draft.names i.kind) (kind_fault args draft.outer draft.names i.kind) result
adds_other known args draft i names result begins there evaluates =
    subst (λ b. Evaluates (Some (draft_by known args draft i b)) (begun_due known args draft.outer draft.names i.kind b) (begun_fault args draft.outer draft.names i.kind b) result) (sym begins)
    (subst (λ ns. Evaluates (Some (draft_other known args draft ns i)) (other_due known args draft.outer ns i.kind) (other_fault args draft.outer ns i.kind) result) (sym there) evaluates)

pub other_outer : (known : Known) (args : Values) (draft : Draft) (i : Instruction) (kind : InstructionKind) (result : Result Draft (Fault Reason)) → kind ≡ i.kind → draft.names ≡ []
    → Evaluates (Some (draft_outer args draft (declared_by kind))) (outer_due args draft.outer (declared_by kind)) (outer_fault args draft.outer (declared_by kind)) result
    → Evaluates (Some (draft_other known args draft draft.names i)) (other_due known args draft.outer draft.names i.kind) (other_fault args draft.outer draft.names i.kind) result
other_outer known args draft i kind result kind_is none evaluates =
    subst (λ ns. Evaluates (Some (draft_other known args draft ns i)) (other_due known args draft.outer ns i.kind) (other_fault args draft.outer ns i.kind) result) (sym none)
    (subst (λ k. Evaluates (Some (draft_outer args draft (declared_by k))) (outer_due args draft.outer (declared_by k)) (outer_fault args draft.outer (declared_by k)) result) kind_is evaluates)

other_inner_by : (known : Known) (args : Values) (draft : Draft) (i : Instruction) (names : Names) (result : Result Draft (Fault Reason))
    → (names ≡ [] → ⊥)
    → Evaluates (Some (draft_extended known draft i)) (inner_due known (all_but_last names) i.kind) None result
    → Evaluates (Some (draft_other known args draft names i)) (other_due known args draft.outer names i.kind) (other_fault args draft.outer names i.kind) result
other_inner_by known args draft i [] result some evaluates = absurd (some refl)
other_inner_by known args draft i (name ∷ names) result some evaluates = evaluates

pub other_inner : (known : Known) (args : Values) (draft : Draft) (i : Instruction) (result : Result Draft (Fault Reason)) → (draft.names ≡ [] → ⊥)
    → Evaluates (Some (draft_extended known draft i)) (inner_due known (all_but_last draft.names) i.kind) None result
    → Evaluates (Some (draft_other known args draft draft.names i)) (other_due known args draft.outer draft.names i.kind) (other_fault args draft.outer draft.names i.kind) result
other_inner known args draft i result some evaluates = other_inner_by known args draft i draft.names result some evaluates

-- what declaring the arguments of a line answers

-- a draft with another outer scope
abbrev pub draft_with_outer : Draft → List Declaration → Draft
draft_with_outer draft outer = record { outer = outer; names = draft.names; stages = draft.stages; last = draft.last }

pub declare_ok : (args : Values) (draft : Draft) (arguments : List Argument) (outer : List Declaration)
    → (Some (kept (draft.outer ++ arg_line (value_in draft.outer) args (λ name. None) arguments)) ≡ Some outer)
    × (reason (argument_due (arg_fault (value_in draft.outer) args arguments)) (arg_fault (value_in draft.outer) args arguments) ≡ None)
    → (Some (draft_declared args draft arguments) ≡ Some (draft_with_outer draft outer))
    × (reason (argument_due (arg_fault (value_in draft.outer) args arguments)) (arg_fault (value_in draft.outer) args arguments) ≡ None)
declare_ok args draft arguments outer met = (ap (λ o. Some (draft_with_outer draft o)) (some_is _ _ met.0), met.1)

pub declare_err : (args : Values) (draft : Draft) (arguments : List Argument) (made : List Declaration) (fault : Fault Reason)
    → Evaluates {X = List Declaration} (Some made) (argument_due (arg_fault (value_in draft.outer) args arguments)) (arg_fault (value_in draft.outer) args arguments) (Err fault)
    → Evaluates {X = Draft} (Some (draft_declared args draft arguments)) (argument_due (arg_fault (value_in draft.outer) args arguments)) (arg_fault (value_in draft.outer) args arguments) (Err fault)
declare_err args draft arguments made (Because why) met = met
declare_err args draft arguments made Memory met = tt

pub outer_some : (args : Values) (draft : Draft) (kind : InstructionKind) (arguments : List Argument) (result : Result Draft (Fault Reason)) → declared_by kind ≡ Some arguments
    → Evaluates (Some (draft_declared args draft arguments)) (argument_due (arg_fault (value_in draft.outer) args arguments)) (arg_fault (value_in draft.outer) args arguments) result
    → Evaluates (Some (draft_outer args draft (declared_by kind))) (outer_due args draft.outer (declared_by kind)) (outer_fault args draft.outer (declared_by kind)) result
outer_some args draft kind arguments result says met =
    subst (λ d. Evaluates (Some (draft_outer args draft d)) (outer_due args draft.outer d) (outer_fault args draft.outer d) result) (sym says) met

pub outer_none : (args : Values) (draft : Draft) (kind : InstructionKind) → declared_by kind ≡ None
    → Evaluates {X = Draft} (Some (draft_outer args draft (declared_by kind))) (outer_due args draft.outer (declared_by kind)) (outer_fault args draft.outer (declared_by kind)) (Err (Because (Coded R05)))
outer_none args draft kind says =
    subst (λ d. Evaluates {X = Draft} (Some (draft_outer args draft d)) (outer_due args draft.outer d) (outer_fault args draft.outer d) (Err (Because (Coded R05)))) (sym says) refl

pub extend_ok : (known : Known) (draft next : Draft) (i : Instruction) (kind : InstructionKind) (names : Names) (origins : List Origin) → kind ≡ i.kind → names ≡ draft.names
    → (Some (origins_of known (all_but_last names) kind) ≡ Some origins) × (reason (inner_due known (all_but_last names) kind) None ≡ None)
    → next ≡ record draft { last = last_with (record { instruction = i; origins = origins }) draft.last }
    → (Some (draft_extended known draft i) ≡ Some next) × (reason (inner_due known (all_but_last draft.names) i.kind) None ≡ None)
extend_ok known draft next i kind names origins kind_is same found is =
    let found_is : origins ≡ origins_of known (all_but_last draft.names) i.kind =
    sym (some_is _ _ found.0) ∙ ap (λ ns. origins_of known (all_but_last ns) kind) same ∙ ap (λ k. origins_of known (all_but_last draft.names) k) kind_is in (
      ap (λ os. Some (record draft { last = last_with (record { instruction = i; origins = os }) draft.last })) (sym found_is) ∙ ap Some (sym is),
      ap (λ k. reason (inner_due known (all_but_last draft.names) k) None) (sym kind_is) ∙ ap (λ ns. reason (inner_due known (all_but_last ns) kind) None) (sym same) ∙ found.1,
    )

pub extend_err : (known : Known) (draft : Draft) (i : Instruction) (kind : InstructionKind) (names : Names) (fault : Fault Reason) → kind ≡ i.kind → names ≡ draft.names
    → Evaluates (Some (origins_of known (all_but_last names) kind)) (inner_due known (all_but_last names) kind) None (Err fault)
    → Evaluates (Some (draft_extended known draft i)) (inner_due known (all_but_last draft.names) i.kind) None (Err fault)
extend_err known draft i kind names (Because why) kind_is same evaluates =
    ap (λ k. reason (inner_due known (all_but_last draft.names) k) None) (sym kind_is) ∙ ap (λ ns. reason (inner_due known (all_but_last ns) kind) None) (sym same) ∙ evaluates
extend_err known draft i kind names Memory kind_is same evaluates = tt

pub mapped_none : {X Y : Type 0} (f : X → Y) (o : Option X) (y : Option Y) → option_map f o ≡ y → o ≡ None → y ≡ None
mapped_none f o y e none = sym e ∙ ap (λ x. option_map f x) none

pub empty_is : (names : Names) → (length names == 0) ≡ true → names ≡ []
empty_is [] e = refl
empty_is (name ∷ names) e = absurd (let h = eqb-true (length (name ∷ names)) 0 e in omega (arith, h))

pub filled_is : (names : Names) → (length names == 0) ≡ false → names ≡ [] → ⊥
filled_is names e none = true≢false (ap (λ ns. length ns == 0) (sym none) ∙ e)
