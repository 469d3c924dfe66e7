-- Of all that is due for a file the least is reported.
use Rattle.std.proofs.Common.{◌≡◌, ◌<◌, ◌≤◌, ◌⊎◌, ◌++◌, ℕ, Bool, true, false, List, [], ◌∷◌, Option, Some, None, inl, inr, refl, sym, ap, ◌∙◌, subst, arith, if◌then◌else◌}
use Rattle.std.specs.Prelude.{Result, Ok, Err}
use Rattle.std.proofs.lemmas.Bool.{cases_lt, true≢false}
use Rattle.std.proofs.lemmas.List.{append_assoc, append-nil}
use Rattle.plain.specs.Codes.{number_of}
use Rattle.plain.specs.declared.refusal.Code.{Code}
use Rattle.plain.specs.declared.refusal.Code.TheVariants.{R05, R11, R12, R13, R18}
use Rattle.expand.specs.Value.{Parts}
use Rattle.expand.specs.Reasons.{reason_number}
use Rattle.expand.specs.declared.fault.Unexpanded.{Unexpanded}
use Rattle.expand.specs.declared.reason.Reason.{Reason}
use Rattle.expand.specs.declared.reason.Reason.TheVariants.{Coded, Required}
use Rattle.expand.specs.declared.reason.Rejection.{Rejection}
use Rattle.instructions.specs.Reason.{reason, IsReason, IsLeastReason}
use Rattle.instructions.specs.declared.instruction.Argument.{Argument}
use Rattle.instructions.specs.Instruction.{Instruction}
use Rattle.instructions.specs.declared.instruction.InstructionKind.{InstructionKind}
use Rattle.scopes.specs.Evaluate.{Values}
use Rattle.scopes.specs.declared.declaration.Declaration.{Declaration}
use Rattle.dockerfile.specs.Dockerfile.{AscendBelow}
use Rattle.stages.specs.Naming.{Names, Known}
use Rattle.stages.specs.Before.{begun, stage_names, all_but_last, outer_scope}
use Rattle.stages.specs.Due.{base_text, base_fault, base_due, argument_due, misplaced_due, outer_due, inner_due, other_due, begun_due, due_after, fault_after, reason_after, IsReasonAfter}
use Rattle.stages.specs.Table.{TableValue, stages_of}
use Rattle.stages.specs.Resolved.{target_of, reported_at, first_refusal, are_arguments, unless_refused, with_target, resolved}
use Rattle.stages.specs.Refusals.{IsDueAtLine, IsDue, IsNotAfter, IsLeastDue}

-- the law of the least reason, as a premise
pub record LeastLaws : Type 0 where
  pub is_least : (due : Code → Bool) (fault : Option Unexpanded) (why : Reason) → reason due fault ≡ Some why → IsLeastReason due fault why
  pub is_free : (due : Code → Bool) (fault : Option Unexpanded) → reason due fault ≡ None → (why : Reason) → IsReason due fault why → ⊥

none_some : {X : Type 0} (x : X) → None ≡ Some x → ⊥
none_some x e = cc

some_is : {X : Type 0} (x y : X) → Some x ≡ Some y → x ≡ y
some_is x y e = cc

head_is : {X : Type 0} (x y : X) (xs ys : List X) → x ∷ xs ≡ y ∷ ys → x ≡ y
head_is x y xs ys e = cc

tail_is : {X : Type 0} (x y : X) (xs ys : List X) → x ∷ xs ≡ y ∷ ys → xs ≡ ys
tail_is x y xs ys e = cc

nil_cut : {X : Type 0} (x : X) (before after : List X) → [] ≡ before ++ x ∷ after → ⊥
nil_cut x [] after e = cc
nil_cut x (b ∷ bs) after e = cc

err_is : (result : Result TableValue Rejection) (one other : Rejection) → result ≡ Err one → result ≡ Err other → one ≡ other
err_is result one other e reported = cc

err_ok : (refusal : Rejection) (table : TableValue) → Err refusal ≡ Ok table → ⊥
err_ok refusal table e = cc

unless_err : (o : Option Rejection) (table : TableValue) (refusal : Rejection) → unless_refused o table ≡ Err refusal → o ≡ Some refusal
unless_err None table refusal e = absurd (err_ok refusal table (sym e))
unless_err (Some other) table refusal e = ap Some (err_is (Err other) other refusal refl e)

unless_ok : (o : Option Rejection) (table found : TableValue) → unless_refused o table ≡ Ok found → o ≡ None
unless_ok None table found e = refl
unless_ok (Some refusal) table found e = absurd (err_ok refusal found e)

-- some instructions after others, of which one is refused for this reason
pub record IsDueAfter (known : Known) (args : Values) (first is : List Instruction) (refusal : Rejection) : Type 0 where
  pub before : List Instruction
  pub instruction : Instruction
  pub after : List Instruction
  pub cut : is ≡ before ++ instruction ∷ after
  pub line : refusal.line ≡ instruction.line
  pub due : IsReasonAfter known args (first ++ before) instruction.kind refusal.reason

pub due_at_line : (known : Known) (args : Values) (is : List Instruction) (refusal : Rejection) → IsDueAfter known args [] is refusal → IsDueAtLine known args is refusal
due_at_line known args is refusal h = record {
  before = h.before;
  instruction = h.instruction;
  after = h.after;
  cut = h.cut;
  line = h.line;
  due = h.due;
}

due_after_none : (known : Known) (args : Values) (is : List Instruction) (refusal : Rejection) → IsDueAtLine known args is refusal → IsDueAfter known args [] is refusal
due_after_none known args is refusal h = record {
  before = h.before;
  instruction = h.instruction;
  after = h.after;
  cut = h.cut;
  line = h.line;
  due = h.due;
}

-- there is this reason to refuse an instruction after others; the refusal has its line
abbrev pub IsDueHere : Known → Values → List Instruction → Instruction → Rejection → Type 0
IsDueHere known args first i refusal = (refusal.line ≡ i.line) × (IsReasonAfter known args first i.kind refusal.reason)

pub due_here : (known : Known) (args : Values) (first : List Instruction) (i : Instruction) (is : List Instruction) (refusal : Rejection)
    → IsDueHere known args first i refusal → IsDueAfter known args first (i ∷ is) refusal
due_here known args first i is refusal h = record {
  before = [];
  instruction = i;
  after = is;
  cut = refl;
  line = h.0;
  due = subst (λ (js : List Instruction). IsReasonAfter known args js i.kind refusal.reason) (sym (append-nil first)) h.1;
}

pub due_later : (known : Known) (args : Values) (first : List Instruction) (i : Instruction) (is : List Instruction) (refusal : Rejection)
    → IsDueAfter known args (first ++ i ∷ []) is refusal → IsDueAfter known args first (i ∷ is) refusal
due_later known args first i is refusal h = record {
  before = i ∷ h.before;
  instruction = h.instruction;
  after = h.after;
  cut = ap (λ (js : List Instruction). i ∷ js) h.cut;
  line = h.line;
  due = subst (λ (js : List Instruction). IsReasonAfter known args js h.instruction.kind refusal.reason) (append_assoc first (i ∷ []) h.before) h.due;
}

due_cut : (known : Known) (args : Values) (first : List Instruction) (i : Instruction) (is : List Instruction) (refusal : Rejection)
    (before : List Instruction) (instruction : Instruction) (after : List Instruction) → i ∷ is ≡ before ++ instruction ∷ after → refusal.line ≡ instruction.line
    → IsReasonAfter known args (first ++ before) instruction.kind refusal.reason
    → IsDueHere known args first i refusal ⊎ IsDueAfter known args (first ++ i ∷ []) is refusal
due_cut known args first i is refusal [] instruction after cut line due =
    let same : instruction ≡ i = sym (head_is i instruction is after cut) in
    let here : IsReasonAfter known args first instruction.kind refusal.reason =
    subst (λ (js : List Instruction). IsReasonAfter known args js instruction.kind refusal.reason) (append-nil first) due in
    inl (subst (λ (j : Instruction). IsDueHere known args first j refusal) same (line, here))
due_cut known args first i is refusal (b ∷ bs) instruction after cut line due =
    let same : b ≡ i = sym (head_is i b is (bs ++ instruction ∷ after) cut) in
    let along : IsReasonAfter known args ((first ++ b ∷ []) ++ bs) instruction.kind refusal.reason =
    subst (λ (js : List Instruction). IsReasonAfter known args js instruction.kind refusal.reason) (sym (append_assoc first (b ∷ []) bs)) due in
    inr (record {
      before = bs;
      instruction = instruction;
      after = after;
      cut = tail_is i b is (bs ++ instruction ∷ after) cut;
      line = line;
      due = subst (λ (j : Instruction). IsReasonAfter known args ((first ++ j ∷ []) ++ bs) instruction.kind refusal.reason) same along;
    })

due_either : (known : Known) (args : Values) (first : List Instruction) (i : Instruction) (is : List Instruction) (refusal : Rejection)
    → IsDueAfter known args first (i ∷ is) refusal → IsDueHere known args first i refusal ⊎ IsDueAfter known args (first ++ i ∷ []) is refusal
due_either known args first i is refusal h = due_cut known args first i is refusal h.before h.instruction h.after h.cut h.line h.due

-- an instruction's line is above all before it

line_above : (low : ℕ) (before : List Instruction) (i : Instruction) (after : List Instruction) → AscendBelow low (before ++ i ∷ after) → low < i.line
line_above low [] i after a = a.0
line_above low (b ∷ bs) i after a =
    let above = a.0 in
    let rest = line_above b.line bs i after a.2 in
    omega (arith, above, rest)

due_above : (known : Known) (args : Values) (first is : List Instruction) (low : ℕ) (refusal : Rejection) → AscendBelow low is → IsDueAfter known args first is refusal
    → low < refusal.line
due_above known args first is low refusal a h =
    let above = line_above low h.before h.instruction h.after (subst (AscendBelow low) h.cut a) in
    let same = h.line in
    omega (arith, above, same)

-- the first is the least

record IsLeastAfter (known : Known) (args : Values) (first is : List Instruction) (refusal : Rejection) : Type 0 where
  is_due : IsDueAfter known args first is refusal
  least : (other : Rejection) → IsDueAfter known args first is other → IsNotAfter refusal other

least_here : (known : Known) (args : Values) (first : List Instruction) (i : Instruction) (is : List Instruction) (why : Reason) → AscendBelow i.line is
    → IsLeastReason (due_after known args first i.kind) (fault_after args first i.kind) why → IsLeastAfter known args first (i ∷ is) (record { reason = why; line = i.line })
least_here known args first i is why a h = record {
  is_due = due_here known args first i is (record { reason = why; line = i.line }) (refl, h.0);
  least = λ other due. elim (due_either known args first i is other due) [
    | inl here ↦ inr (sym here.0, h.1 other.reason here.1)
    | inr later ↦ inl (due_above known args (first ++ i ∷ []) is i.line other a later)
  ];
}

least_later : (known : Known) (args : Values) (first : List Instruction) (i : Instruction) (is : List Instruction) (refusal : Rejection)
    → ((why : Reason) → IsReasonAfter known args first i.kind why → ⊥) → IsLeastAfter known args (first ++ i ∷ []) is refusal
    → IsLeastAfter known args first (i ∷ is) refusal
least_later known args first i is refusal free h = record {
  is_due = due_later known args first i is refusal h.is_due;
  least = λ other due. elim (due_either known args first i is other due) [
    | inl here ↦ absurd (free other.reason here.1)
    | inr later ↦ h.least other later
  ];
}

first_by : LeastLaws → (known : Known) (args : Values) (first : List Instruction) (i : Instruction) (is : List Instruction) (o : Option Reason) (refusal : Rejection)
    → reason_after known args first i.kind ≡ o → AscendBelow i.line is → reported_at i.line o (first_refusal known args (first ++ i ∷ []) is) ≡ Some refusal
    → (first_refusal known args (first ++ i ∷ []) is ≡ Some refusal → IsLeastAfter known args (first ++ i ∷ []) is refusal)
    → IsLeastAfter known args first (i ∷ is) refusal
first_by laws known args first i is None refusal e a reported more =
    least_later known args first i is refusal (laws.is_free (due_after known args first i.kind) (fault_after args first i.kind) e) (more reported)
first_by laws known args first i is (Some why) refusal e a reported more =
    subst (λ (r : Rejection). IsLeastAfter known args first (i ∷ is) r) (some_is (record { reason = why; line = i.line }) refusal reported)
    (least_here known args first i is why a (laws.is_least (due_after known args first i.kind) (fault_after args first i.kind) why e))

first_least : LeastLaws → (known : Known) (args : Values) (first is : List Instruction) (low : ℕ) (refusal : Rejection) → AscendBelow low is
    → first_refusal known args first is ≡ Some refusal → IsLeastAfter known args first is refusal
first_least laws known args first [] low refusal a reported = absurd (none_some refusal reported)
first_least laws known args first (i ∷ is) low refusal a reported =
    first_by laws known args first i is (reason_after known args first i.kind) refusal refl a.2 reported
    (λ more. first_least laws known args (first ++ i ∷ []) is i.line refusal a.2 more)

free_by : LeastLaws → (known : Known) (args : Values) (first : List Instruction) (i : Instruction) (is : List Instruction) (o : Option Reason) (refusal : Rejection)
    → reason_after known args first i.kind ≡ o → reported_at i.line o (first_refusal known args (first ++ i ∷ []) is) ≡ None
    → (first_refusal known args (first ++ i ∷ []) is ≡ None → IsDueAfter known args (first ++ i ∷ []) is refusal → ⊥)
    → IsDueAfter known args first (i ∷ is) refusal → ⊥
free_by laws known args first i is None refusal e reported more due = elim (due_either known args first i is refusal due) [
  | inl here ↦ laws.is_free (due_after known args first i.kind) (fault_after args first i.kind) e refusal.reason here.1
  | inr later ↦ more reported later
]
free_by laws known args first i is (Some why) refusal e reported more due = none_some (record { reason = why; line = i.line }) (sym reported)

first_free : LeastLaws → (known : Known) (args : Values) (first is : List Instruction) (refusal : Rejection) → first_refusal known args first is ≡ None
    → IsDueAfter known args first is refusal → ⊥
first_free laws known args first [] refusal reported due = nil_cut due.instruction due.before due.after due.cut
first_free laws known args first (i ∷ is) refusal reported due =
    free_by laws known args first i is (reason_after known args first i.kind) refusal refl reported
    (λ more. first_free laws known args (first ++ i ∷ []) is refusal more) due

-- no reason to refuse an instruction has a number less than that of R05

base_code : (known : Known) (names : Names) (text : Option (List ℕ)) (fault : Option Unexpanded) (name : Option (List ℕ)) (code : Code) → base_due known names text fault name code ≡ true
    → 5 ≤ number_of code
base_code known names text fault name R11 h = omega arith
base_code known names text fault name R12 h = omega arith
base_code known names text fault name R18 h = omega arith
base_code known names text fault name code h = absurd (true≢false (sym h))

argument_code : (fault : Option Unexpanded) (code : Code) → argument_due fault code ≡ true → 5 ≤ number_of code
argument_code fault R18 h = omega arith
argument_code fault code h = absurd (true≢false (sym h))

misplaced_code : (code : Code) → misplaced_due code ≡ true → 5 ≤ number_of code
misplaced_code R05 h = omega arith
misplaced_code code h = absurd (true≢false (sym h))

outer_code : (args : Values) (scope : List Declaration) (d : Option (List Argument)) (code : Code) → outer_due args scope d code ≡ true → 5 ≤ number_of code
outer_code args scope None code h = misplaced_code code h
outer_code args scope (Some arguments) code h = argument_code _ code h

inner_code : (known : Known) (earlier : Names) (kind : InstructionKind) (code : Code) → inner_due known earlier kind code ≡ true → 5 ≤ number_of code
inner_code known earlier kind R12 h = omega arith
inner_code known earlier kind code h = absurd (true≢false (sym h))

other_code : (known : Known) (args : Values) (scope : List Declaration) (names : Names) (kind : InstructionKind) (code : Code)
    → other_due known args scope names kind code ≡ true → 5 ≤ number_of code
other_code known args scope [] kind code h = outer_code args scope _ code h
other_code known args scope (name ∷ names) kind code h = inner_code known (all_but_last (name ∷ names)) kind code h

begun_code : (known : Known) (args : Values) (scope : List Declaration) (names : Names) (kind : InstructionKind) (b : Option (Parts × Option (List ℕ))) (code : Code)
    → begun_due known args scope names kind b code ≡ true → 5 ≤ number_of code
begun_code known args scope names kind (Some stage) code h = base_code known names (base_text scope stage.0) (base_fault scope stage.0) stage.1 code h
begun_code known args scope names kind None code h = other_code known args scope names kind code h

reason_five : (due : Code → Bool) (fault : Option Unexpanded) (why : Reason) → ((code : Code) → due code ≡ true → 5 ≤ number_of code) → IsReason due fault why
    → 5 ≤ reason_number why
reason_five due fault (Coded code) codes h = codes code h
reason_five due fault (Required text) codes h = omega arith

line_reason : (known : Known) (args : Values) (is : List Instruction) (refusal : Rejection) → IsDueAfter known args [] is refusal → 5 ≤ reason_number refusal.reason
line_reason known args is refusal h =
    reason_five (due_after known args h.before h.instruction.kind) (fault_after args h.before h.instruction.kind) refusal.reason
    (begun_code known args (outer_scope args h.before) (stage_names h.before) h.instruction.kind (begun h.instruction.kind)) h.due

-- what is due for the file as a whole

least_target : (known : Known) (args : Values) (target : Option (List ℕ)) (is : List Instruction) → AscendBelow 0 is → target_of (stage_names is) target ≡ None
    → IsLeastDue known args target is (record { reason = Coded R13; line = 0 })
least_target known args target is a none = record {
  is_due = inl (none, refl);
  least = λ other due. elim due [
    | inl lacks ↦ inr (sym (ap (λ (r : Rejection). r.line) lacks.1), (let same = ap (λ (r : Rejection). reason_number r.reason) lacks.1 in omega (arith, same)))
    | inr more ↦ elim more [
      | inl empty ↦ inl (let line = ap (λ (r : Rejection). r.line) empty.1 in omega (arith, line))
      | inr later ↦ inl (due_above known args [] is 0 other a (due_after_none known args is other later))
    ]
  ];
}

one_or_more : (n : ℕ) → 0 < n → (1 ≡ n) ⊎ (1 < n)
one_or_more n h = elim (cases_lt 1 n) [ inl more ↦ inr more | inr few ↦ inl (omega (arith, h, few)) ]

-- no instruction stands before line 1
not_after : (other : Rejection) → 0 < other.line → 5 ≤ reason_number other.reason → IsNotAfter (record { reason = Coded R05; line = 1 }) other
not_after other line number = elim (one_or_more other.line line) [ inl one ↦ inr (one, number) | inr more ↦ inl more ]

least_stages : (known : Known) (args : Values) (target : Option (List ℕ)) (is : List Instruction) (number : ℕ) → AscendBelow 0 is
    → target_of (stage_names is) target ≡ Some number → are_arguments is ≡ true → IsLeastDue known args target is (record { reason = Coded R05; line = 1 })
least_stages known args target is number a found all = record {
  is_due = inr (inl (all, refl));
  least = λ other due. elim due [
    | inl lacks ↦ absurd (none_some number (sym lacks.0 ∙ found))
    | inr more ↦ elim more [
      | inl empty ↦ inr (sym (ap (λ (r : Rejection). r.line) empty.1), (let same = ap (λ (r : Rejection). reason_number r.reason) empty.1 in omega (arith, same)))
      | inr later ↦
          let there = due_after_none known args is other later in
          not_after other (due_above known args [] is 0 other a there) (line_reason known args is other there)
    ]
  ];
}

least_line : (known : Known) (args : Values) (target : Option (List ℕ)) (is : List Instruction) (number : ℕ) (refusal : Rejection)
    → target_of (stage_names is) target ≡ Some number → are_arguments is ≡ false → IsLeastAfter known args [] is refusal → IsLeastDue known args target is refusal
least_line known args target is number refusal found some h = record {
  is_due = inr (inr (due_at_line known args is refusal h.is_due));
  least = λ other due. elim due [
    | inl lacks ↦ absurd (none_some number (sym lacks.0 ∙ found))
    | inr more ↦ elim more [
      | inl empty ↦ absurd (true≢false (sym empty.0 ∙ some))
      | inr later ↦ h.least other (due_after_none known args is other later)
    ]
  ];
}

-- what a file is resolved to

stages_by : LeastLaws → (known : Known) (args : Values) (target : Option (List ℕ)) (is : List Instruction) (number : ℕ) (table : TableValue) (refusal : Rejection) (all : Bool)
    → AscendBelow 0 is → target_of (stage_names is) target ≡ Some number → are_arguments is ≡ all
    → unless_refused (if all then Some (record { reason = Coded R05; line = 1 }) else first_refusal known args [] is) table ≡ Err refusal → IsLeastDue known args target is refusal
stages_by laws known args target is number table refusal true a found e reported =
    subst (λ (r : Rejection). IsLeastDue known args target is r) (err_is (Err (record { reason = Coded R05; line = 1 })) (record { reason = Coded R05; line = 1 }) refusal refl reported)
    (least_stages known args target is number a found e)
stages_by laws known args target is number table refusal false a found e reported =
    least_line known args target is number refusal found e
    (first_least laws known args [] is 0 refusal a (unless_err (first_refusal known args [] is) table refusal reported))

target_by : LeastLaws → (known : Known) (args : Values) (target : Option (List ℕ)) (is : List Instruction) (o : Option ℕ) (refusal : Rejection) → AscendBelow 0 is
    → target_of (stage_names is) target ≡ o → with_target known args is o ≡ Err refusal → IsLeastDue known args target is refusal
target_by laws known args target is None refusal a e reported =
    subst (λ (r : Rejection). IsLeastDue known args target is r) (err_is (Err (record { reason = Coded R13; line = 0 })) (record { reason = Coded R13; line = 0 }) refusal refl reported) (least_target known args target is a e)
target_by laws known args target is (Some number) refusal a e reported =
    stages_by laws known args target is number (record { outer = outer_scope args is; stages = stages_of known args is; target = number }) refusal (are_arguments is) a e refl reported

pub refused_least : LeastLaws → (known : Known) (args : Values) (target : Option (List ℕ)) (is : List Instruction) (refusal : Rejection) → AscendBelow 0 is
    → resolved known args target is ≡ Err refusal → IsLeastDue known args target is refusal
unfolding resolved
refused_least laws known args target is refusal a reported = target_by laws known args target is (target_of (stage_names is) target) refusal a refl reported

free_stages : LeastLaws → (known : Known) (args : Values) (target : Option (List ℕ)) (is : List Instruction) (number : ℕ) (table found : TableValue) (all : Bool) (other : Rejection)
    → target_of (stage_names is) target ≡ Some number → are_arguments is ≡ all
    → unless_refused (if all then Some (record { reason = Coded R05; line = 1 }) else first_refusal known args [] is) table ≡ Ok found → IsDue known args target is other → ⊥
free_stages laws known args target is number table found true other at e reported due = err_ok (record { reason = Coded R05; line = 1 }) found reported
free_stages laws known args target is number table found false other at e reported due = elim due [
  | inl lacks ↦ none_some number (sym lacks.0 ∙ at)
  | inr more ↦ elim more [
    | inl empty ↦ true≢false (sym empty.0 ∙ e)
    | inr later ↦
        first_free laws known args [] is other (unless_ok (first_refusal known args [] is) table found reported) (due_after_none known args is other later)
  ]
]

free_target : LeastLaws → (known : Known) (args : Values) (target : Option (List ℕ)) (is : List Instruction) (o : Option ℕ) (found : TableValue) (other : Rejection)
    → target_of (stage_names is) target ≡ o → with_target known args is o ≡ Ok found → IsDue known args target is other → ⊥
free_target laws known args target is None found other e reported due = err_ok (record { reason = Coded R13; line = 0 }) found reported
free_target laws known args target is (Some number) found other e reported due =
    free_stages laws known args target is number (record { outer = outer_scope args is; stages = stages_of known args is; target = number }) found (are_arguments is) other e refl reported due

pub resolved_free : LeastLaws → (known : Known) (args : Values) (target : Option (List ℕ)) (is : List Instruction) (table : TableValue)
    → resolved known args target is ≡ Ok table → (refusal : Rejection) → IsDue known args target is refusal → ⊥
unfolding resolved
resolved_free laws known args target is table reported refusal due = free_target laws known args target is (target_of (stage_names is) target) table refusal refl reported due
