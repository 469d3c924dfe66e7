-- What each table keeps, of the stages of a file.
use Rattle.std.proofs.Common.{inl, inr, suc, zero, ◌≡◌, ◌<◌, ◌≤◌, ◌&&◌, ◌+◌, ℕ, Bool, true, false, List, [], ◌∷◌, ◌++◌, Option, Some, None, length, map, refl, sym, ap, ◌∙◌, subst, arith, if◌then◌else◌}
use Rattle.std.specs.Prelude.{slice_get, is_some, Ok, Err, Contains}
use Rattle.std.specs.List.{All, cons_option, list_all, filter_map}
use Rattle.std.proofs.lemmas.Bool.{true≢false}
use Rattle.std.proofs.lemmas.List.{length_push, length-append, append_assoc}
use Rattle.std.proofs.lemmas.List.Elements.{All-nil, All-cons, All-head, All-tail, filter_map-append}
use Rattle.plain.specs.Limits.{most_lines, most_stages}
use Rattle.plain.specs.declared.refusal.Code.TheVariants.{R05}
use Rattle.plain.specs.declared.fault.Fault.{Fault}
use Rattle.plain.specs.declared.fault.Fault.TheVariants.{Because, Memory}
use Rattle.options.specs.declared.copy.CopyFlags.{CopyFlags}
use Rattle.expand.specs.Value.{Parts}
use Rattle.expand.specs.declared.reason.Reason.{Reason}
use Rattle.expand.specs.declared.reason.Reason.TheVariants.{Coded}
use Rattle.expand.specs.declared.reason.Rejection.{Rejection}
use Rattle.instructions.specs.Instruction.{is_files, IsInstruction}
use Rattle.instructions.specs.Reason.{reason}
use Rattle.instructions.specs.declared.instruction.Argument.{Argument}
use Rattle.instructions.specs.Instruction.{Instruction}
use Rattle.instructions.specs.declared.instruction.InstructionKind.TheVariants.{Copy}
use Rattle.instructions.specs.declared.instruction.Source.{Source}
use Rattle.llb.specs.Places.{AscendFrom, AreLines}
use Rattle.llb.specs.declared.op.Source.TheVariants.{Context}
use Rattle.llb.proofs.LineFacts.{contains_nil, contains_cases}
use Rattle.rows.specs.declared.row.Origin.{Origin}
use Rattle.rows.specs.declared.row.Origin.TheVariants.{Source as SourceOf, Stage as StageOf}
use Rattle.scopes.specs.Evaluate.{Values}
use Rattle.scopes.specs.declared.declaration.Declaration.{Declaration}
use Rattle.dockerfile.specs.Dockerfile.{AscendBelow, IsDockerfile}
use Rattle.stages.specs.declared.resolving.Draft.{Draft}
use Rattle.stages.specs.declared.stage.ResolvedInstruction.{ResolvedInstruction}
use Rattle.stages.specs.declared.stage.ResolvedStage.{ResolvedStage}
use Rattle.stages.specs.Naming.{Names, Known, copy_reference, led_to, origins_of}
use Rattle.stages.specs.Before.{begun, declared_by, name_begun, stage_names, outer_scope}
use Rattle.stages.specs.Due.{outer_due, outer_fault, other_due, other_fault, reason_after, begun_due, begun_fault}
use Rattle.stages.specs.Table.{StagesValue, unless_begun, stage_instructions, stages_after, stages_of, stages_in, lines_of, IsResolved, IsStage, IsTable, AreStages, IsKnown, NamesKnown}
use Rattle.stages.specs.Resolved.{target_of, reported_at, first_refusal, are_arguments, unless_refused, resolved_stages, Returns}
use Rattle.stages.specs.PrivateResolving.{with_last, IsCounted, AreCounted, IsDraft, Drafts}
use Rattle.stages.specs.PrivateTable.{stages_made, table_by}
use Rattle.stages.proofs.NamingFacts.{found_within, base_before, base_known, origins_before, origins_known}
use Rattle.stages.proofs.BeforeFacts.{stage_names-push}
use Rattle.stages.proofs.TableFacts.{resolved_as, new_stage, stages_by, stages_long}
use Rattle.stages.proofs.DraftFacts.{push_none, with_last_all, names_begun}

some_none : {X : Type 0} (x : X) → Some x ≡ None → ⊥
some_none x e = cc

none_some : {X : Type 0} (x : X) → None ≡ Some x → ⊥
none_some x e = cc

some_is : {X : Type 0} (x y : X) → Some x ≡ Some y → x ≡ y
some_is x y e = cc

cons_none : {X : Type 0} (x : X) (xs : List X) → x ∷ xs ≡ [] → ⊥
cons_none x xs e = cc

-- an instruction is whole
abbrev IsWhole : Instruction → Type 0
IsWhole i = IsInstruction i.kind

-- a COPY from a stage has a `--from`, so its sources are patterns

only_context : (other : ℕ) → Contains (SourceOf Context ∷ []) (StageOf other) → ⊥
only_context other h = elim (contains_cases {X = Origin} (SourceOf Context) (StageOf other) [] h) [
  | inl same ↦ (let is : StageOf other ≡ SourceOf Context = same in cc)
  | inr none ↦ contains_nil {X = Origin} (StageOf other) none
]

patterns_by : (known : Known) (names : Names) (sources : List Source) (from : Option (List ℕ)) (other : ℕ)
    → ((name : List ℕ) → from ≡ Some name → list_all is_files sources ≡ true)
    → Contains (filter_map (led_to known names) (copy_reference from ∷ [])) (StageOf other) → list_all is_files sources ≡ true
patterns_by known names sources None other files h = absurd (only_context other h)
patterns_by known names sources (Some name) other files h = files name refl

pub patterns_there : (known : Known) (names : Names) (sources : List Source) (destination : Parts) (flags : CopyFlags) (other : ℕ)
    → IsInstruction (Copy sources destination flags) → Contains (origins_of known names (Copy sources destination flags)) (StageOf other)
    → list_all is_files sources ≡ true
patterns_there known names sources destination flags other whole h = patterns_by known names sources flags.from other whole.2 h

-- each instruction of a stage is resolved

body_by : (known : Known) (names : Names) (i : Instruction) (b : Option (Parts × Option (List ℕ))) (rs : List ResolvedInstruction) → begun i.kind ≡ b
    → IsWhole i → (All IsCounted rs → All (IsResolved (length names)) rs) → All IsCounted (unless_begun b (resolved_as known names i) rs)
    → All (IsResolved (length names)) (unless_begun b (resolved_as known names i) rs)
body_by known names i (Some stage) rs begins whole more counted = All-nil (IsResolved (length names))
body_by known names i None rs begins whole more counted =
    All-cons (IsResolved (length names)) (resolved_as known names i) rs
    (record {
      whole = whole;
      inner = begins;
      count = All-head IsCounted (resolved_as known names i) rs counted;
      before = origins_before known names i.kind;
      patterns = λ sources destination flags other is h.
          patterns_there known names sources destination flags other (subst IsInstruction is whole)
          (subst (λ kind. Contains (origins_of known names kind) (StageOf other)) is h);
    }) (more (All-tail IsCounted (resolved_as known names i) rs counted))

body_resolved : (known : Known) (names : Names) (is : List Instruction) → All IsWhole is → All IsCounted (stage_instructions known names is)
    → All (IsResolved (length names)) (stage_instructions known names is)
body_resolved known names [] whole counted = All-nil (IsResolved (length names))
body_resolved known names (i ∷ is) whole counted =
    body_by known names i (begun i.kind) (stage_instructions known names is) refl (All-head IsWhole i is whole)
    (λ c. body_resolved known names is (All-tail IsWhole i is whole) c) counted

-- each stage is one in its place

-- each of some stages is one in its place, the first of them having this number
abbrev AreFrom : ℕ → List ResolvedStage → Type 0
AreFrom first stages = (number : ℕ) (stage : ResolvedStage) → slice_get stages number ≡ Some stage → IsStage (first + number) stage

from_none : (first : ℕ) → AreFrom first []
from_none first number stage there = absurd (none_some stage there)

from_cons : (first : ℕ) (s : ResolvedStage) (ss : List ResolvedStage) → IsStage first s → AreFrom (first + 1) ss → AreFrom first (s ∷ ss)
from_cons first s ss is more zero stage there =
    let n : first ≡ first + 0 = omega arith in subst (λ k. IsStage k stage) n (subst (λ t. IsStage first t) (some_is s stage there) is)
from_cons first s ss is more (suc number) stage there =
    let n : first + 1 + number ≡ first + suc number = omega arith in subst (λ k. IsStage k stage) n (more number stage there)

stages_from_by : (known : Known) (scope : List Declaration) (names : Names) (is : List Instruction) (line : ℕ) (b : Option (Parts × Option (List ℕ)))
    → All IsWhole is
    → ((ns : Names) → All AreCounted (stages_after known scope ns is) → AreFrom (length ns) (stages_after known scope ns is))
    → All AreCounted (stages_by known scope names line b (stage_instructions known names is) (λ ns. stages_after known scope ns is))
    → AreFrom (length names) (stages_by known scope names line b (stage_instructions known names is) (λ ns. stages_after known scope ns is))
stages_from_by known scope names is line None whole more counted =
    let h = more (names ++ []) counted in
    subst (λ n. AreFrom n (stages_after known scope (names ++ []) is)) (let e = length-append names [] in omega (arith, e)) h
stages_from_by known scope names is line (Some stage) whole more counted =
    let s = new_stage known scope names line stage (stage_instructions known names is) in
    let ss = stages_after known scope (names ++ stage.1 ∷ []) is in
    from_cons (length names) s ss
    (record {
      base = base_before known scope names stage.0;
      instructions = body_resolved known names is whole (All-head AreCounted s ss counted);
    })
    (subst (λ n. AreFrom n ss) (length_push names stage.1) (more (names ++ stage.1 ∷ []) (All-tail AreCounted s ss counted)))

stages_from : (known : Known) (scope : List Declaration) (names : Names) (is : List Instruction) → All IsWhole is → All AreCounted (stages_after known scope names is)
    → AreFrom (length names) (stages_after known scope names is)
stages_from known scope names [] whole counted = from_none (length names)
stages_from known scope names (i ∷ is) whole counted =
    stages_from_by known scope names is i.line (begun i.kind) (All-tail IsWhole i is whole)
    (λ ns c. stages_from known scope ns is (All-tail IsWhole i is whole) c) counted

-- all images that are named are known

body_known_by : (known : Known) (names : Names) (i : Instruction) (b : Option (Parts × Option (List ℕ))) (rs : List ResolvedInstruction)
    → All (λ r. All (IsKnown known) r.origins) rs → All (λ r. All (IsKnown known) r.origins) (unless_begun b (resolved_as known names i) rs)
body_known_by known names i (Some stage) rs more = All-nil (λ r. All (IsKnown known) r.origins)
body_known_by known names i None rs more = All-cons (λ r. All (IsKnown known) r.origins) (resolved_as known names i) rs (origins_known known names i.kind) more

body_known : (known : Known) (names : Names) (is : List Instruction) → All (λ r. All (IsKnown known) r.origins) (stage_instructions known names is)
body_known known names [] = All-nil (λ r. All (IsKnown known) r.origins)
body_known known names (i ∷ is) = body_known_by known names i (begun i.kind) (stage_instructions known names is) (body_known known names is)

stages_known_by : (known : Known) (scope : List Declaration) (names : Names) (is : List Instruction) (line : ℕ) (b : Option (Parts × Option (List ℕ)))
    → ((ns : Names) → All (NamesKnown known) (stages_after known scope ns is))
    → All (NamesKnown known) (stages_by known scope names line b (stage_instructions known names is) (λ ns. stages_after known scope ns is))
stages_known_by known scope names is line None more = more (names ++ [])
stages_known_by known scope names is line (Some stage) more =
    All-cons (NamesKnown known) (new_stage known scope names line stage (stage_instructions known names is)) (stages_after known scope (names ++ stage.1 ∷ []) is)
    (record { base = base_known known scope names stage.0; instructions = body_known known names is }) (more (names ++ stage.1 ∷ []))

stages_known : (known : Known) (scope : List Declaration) (names : Names) (is : List Instruction) → All (NamesKnown known) (stages_after known scope names is)
stages_known known scope names [] = All-nil (NamesKnown known)
stages_known known scope names (i ∷ is) = stages_known_by known scope names is i.line (begun i.kind) (λ ns. stages_known known scope ns is)

pub names_known : (known : Known) (args : Values) (is : List Instruction) → All (NamesKnown known) (stages_of known args is)
names_known known args is = stages_known known (outer_scope args is) [] is

-- the lines

-- the lines of instructions
abbrev lines_in : List Instruction → List ℕ
lines_in is = map (λ i. i.line) is

body_lines_by : (known : Known) (scope : List Declaration) (earlier names : Names) (i : Instruction) (is : List Instruction) (b : Option (Parts × Option (List ℕ)))
    → ((es ns : Names) → map (λ r. r.instruction.line) (stage_instructions known es is) ++ lines_of (stages_after known scope ns is) ≡ lines_in is)
    → map (λ r. r.instruction.line) (unless_begun b (resolved_as known earlier i) (stage_instructions known earlier is))
    ++ lines_of (stages_by known scope names i.line b (stage_instructions known names is) (λ ns. stages_after known scope ns is)) ≡ i.line ∷ lines_in is
body_lines_by known scope earlier names i is None more = ap (λ ls. i.line ∷ ls) (more earlier (names ++ []))
body_lines_by known scope earlier names i is (Some stage) more = ap (λ ls. i.line ∷ ls) (more names (names ++ stage.1 ∷ []))

-- the instructions of the stage that goes on, and the stages that follow, have all lines
body_lines : (known : Known) (scope : List Declaration) (earlier names : Names) (is : List Instruction)
    → map (λ r. r.instruction.line) (stage_instructions known earlier is) ++ lines_of (stages_after known scope names is) ≡ lines_in is
body_lines known scope earlier names [] = refl
body_lines known scope earlier names (i ∷ is) = body_lines_by known scope earlier names i is (begun i.kind) (λ es ns. body_lines known scope es ns is)

ascend_lower : (low high : ℕ) (lines : List ℕ) → low ≤ high → AscendFrom high lines → AscendFrom low lines
ascend_lower low high [] le ascend = tt
ascend_lower low high (line ∷ lines) le ascend = (omega (arith, le, ascend.0), ascend.1)

ascend_lines : (low : ℕ) (is : List Instruction) → AscendBelow low is → AscendFrom low (lines_in is)
ascend_lines low [] ascend = tt
ascend_lines low (i ∷ is) ascend = (ascend.0, (ascend.1, ascend_lines i.line is ascend.2))

-- all lines of the stages ascend, and there are no more than instructions
abbrev IsTail : ℕ → ℕ → List ℕ → Type 0
IsTail low count lines = AscendFrom low lines × (length lines ≤ count)

lines_long : (is : List Instruction) → length (lines_in is) ≡ length is
lines_long [] = refl
lines_long (i ∷ is) = let h = lines_long is in omega (arith, h)

stages_lines_by : (known : Known) (scope : List Declaration) (names : Names) (low : ℕ) (i : Instruction) (is : List Instruction) (b : Option (Parts × Option (List ℕ)))
    → AscendBelow low (i ∷ is)
    → ((ns : Names) → IsTail i.line (length is) (lines_of (stages_after known scope ns is)))
    → IsTail low (length is + 1) (lines_of (stages_by known scope names i.line b (stage_instructions known names is) (λ ns. stages_after known scope ns is)))
stages_lines_by known scope names low i is None ascend more =
    let h = more (names ++ []) in
    let lt : low < i.line = ascend.0 in
    (ascend_lower low i.line (lines_of (stages_after known scope (names ++ []) is)) (omega (arith, lt)) h.0, omega (arith, h.1))
stages_lines_by known scope names low i is (Some stage) ascend more =
    let same = ap (λ ls. i.line ∷ ls) (body_lines known scope names (names ++ stage.1 ∷ []) is) in (
      subst (λ ls. AscendFrom low ls) (sym same) (ascend_lines low (i ∷ is) ascend),
      let h = ap length same in let k = lines_long is in omega (arith, h, k),
    )

stages_lines : (known : Known) (scope : List Declaration) (names : Names) (low : ℕ) (is : List Instruction) → AscendBelow low is
    → IsTail low (length is) (lines_of (stages_after known scope names is))
stages_lines known scope names low [] ascend = (tt, omega arith)
stages_lines known scope names low (i ∷ is) ascend =
    let h = stages_lines_by known scope names low i is (begun i.kind) ascend (λ ns. stages_lines known scope ns i.line is ascend.2) in
    (h.0, omega (arith, h.1))

-- a file that isn't refused has a stage

outer_declares : (args : Values) (scope : List Declaration) (d : Option (List Argument)) → reason (outer_due args scope d) (outer_fault args scope d) ≡ None → is_some d ≡ true
outer_declares args scope None clear = absurd (some_none (Coded R05) clear)
outer_declares args scope (Some arguments) clear = refl

pub reported_none : (line : ℕ) (o : Option Reason) (more : Option Rejection) → reported_at line o more ≡ None → (o ≡ None) × (more ≡ None)
reported_none line None more e = (refl, e)
reported_none line (Some why) more e = absurd (some_none _ e)

and_is : (a b : Bool) → a ≡ true → b ≡ true → (a && b) ≡ true
and_is a b e f = rw (e, f) refl

declares_by : (known : Known) (args : Values) (before : List Instruction) (i : Instruction) (b : Option (Parts × Option (List ℕ))) → begun i.kind ≡ b
    → stage_names before ≡ [] → stage_names (before ++ i ∷ []) ≡ []
    → reason (begun_due known args (outer_scope args before) (stage_names before) i.kind b) (begun_fault args (outer_scope args before) (stage_names before) i.kind b) ≡ None → is_some (declared_by i.kind) ≡ true
declares_by known args before i (Some stage) begins none still clear =
    absurd (push_none (stage_names before) stage.1 (sym (names_begun before i stage begins) ∙ still))
declares_by known args before i None begins none still clear =
    outer_declares args (outer_scope args before) (declared_by i.kind)
    (subst (λ ns. reason (other_due known args (outer_scope args before) ns i.kind) (other_fault args (outer_scope args before) ns i.kind) ≡ None) none clear)

append_none : {X : Type 0} (xs ys : List X) → xs ++ ys ≡ [] → xs ≡ []
append_none [] ys e = refl
append_none (x ∷ xs) ys e = absurd (cons_none x (xs ++ ys) e)

all_declare : (known : Known) (args : Values) (before is : List Instruction) → first_refusal known args before is ≡ None → stage_names (before ++ is) ≡ []
    → are_arguments is ≡ true
all_declare known args before [] clear none = refl
all_declare known args before (i ∷ is) clear none =
    let reported = reported_none i.line (reason_after known args before i.kind) (first_refusal known args (before ++ i ∷ []) is) clear in
    let along : stage_names ((before ++ i ∷ []) ++ is) ≡ [] = ap stage_names (append_assoc before (i ∷ []) is) ∙ none in
    let still = append_none (stage_names (before ++ i ∷ [])) (stage_names is) (sym (filter_map-append name_begun (before ++ i ∷ []) is) ∙ along) in
    let first = append_none (stage_names before) (cons_option (name_begun i) []) (sym (stage_names-push before i) ∙ still) in
    and_is (is_some (declared_by i.kind)) (are_arguments is)
    (declares_by known args before i (begun i.kind) refl first still reported.0) (all_declare known args (before ++ i ∷ []) is reported.1 along)

has_stage_by : (names : Names) → (names ≡ [] → ⊥) → 0 < length names
has_stage_by [] some = absurd (some refl)
has_stage_by (name ∷ names) some = omega arith

has_stage : (known : Known) (args : Values) (is : List Instruction) → first_refusal known args [] is ≡ None → are_arguments is ≡ false → 0 < length (stage_names is)
has_stage known args is clear other = has_stage_by (stage_names is) (λ none. true≢false (sym (all_declare known args [] is clear none) ∙ other))

pub target_within : (names : Names) (target : Option (List ℕ)) (number : ℕ) → 0 < length names → target_of names target ≡ Some number → number < length names
target_within names None number some e = let h = some_is _ _ e in omega (arith, some, h)
target_within names (Some text) number some e = found_within names text number e

-- what the code has at the end makes the table

-- with each of the stages as its target
table_at : (known : Known) (args : Values) (is : List Instruction) (draft : Draft) (stages : List ResolvedStage) (number : ℕ)
    → IsDockerfile is → number < length stages → IsDraft known args is draft → stages ≡ with_last draft.stages draft.last
    → IsTable (table_by draft.outer stages number)
table_at known args is draft stages number file inside of all =
    let same : stages ≡ stages_of known args is = all ∙ of.stages in
    let long = ap length same ∙ stages_long known (outer_scope args is) [] is in
    let lines = stages_lines known (outer_scope args is) [] 0 is file.ascend in
    let counted = subst (λ ss. All AreCounted ss) of.stages (with_last_all AreCounted draft.stages draft.last of.counted of.last_counted) in
    record {
      has_target = inside;
      few = let h = ap length of.names in let few = of.few in omega (arith, h, long, few);
      each = λ k stage there.
          let n : length (stage_names []) + k ≡ k = omega arith in
          subst (λ m. IsStage m stage) n
          (stages_from known (outer_scope args is) [] is file.whole counted k stage (subst (λ ss. slice_get ss k ≡ Some stage) same there));
      lines = subst (λ ss. AreLines (lines_of ss)) (sym same) lines.0;
      short = subst (λ ss. length (lines_of ss) ≤ most_lines) (sym same) (let few = file.few in let h = lines.1 in omega (arith, few, h));
    }

pub table_whole : (known : Known) (args : Values) (target : Option (List ℕ)) (is : List Instruction) (draft : Draft) (stages : List ResolvedStage) (number : ℕ)
    → IsDockerfile is → target_of (stage_names is) target ≡ Some number → are_arguments is ≡ false → first_refusal known args [] is ≡ None
    → IsDraft known args is draft → stages ≡ with_last draft.stages draft.last → IsTable (table_by draft.outer stages number)
table_whole known args target is draft stages number file found other clear of all =
    let long = ap length (all ∙ of.stages) ∙ stages_long known (outer_scope args is) [] is in
    let inside = target_within (stage_names is) target number (has_stage known args is clear other) found in
    table_at known args is draft stages number file (omega (arith, long, inside)) of all

stages_whole : (known : Known) (args : Values) (is : List Instruction) (draft : Draft)
    → IsDockerfile is → are_arguments is ≡ false → first_refusal known args [] is ≡ None → IsDraft known args is draft
    → AreStages (stages_made draft.outer draft.names (with_last draft.stages draft.last))
stages_whole known args is draft file other clear of =
    let long = ap length of.stages ∙ stages_long known (outer_scope args is) [] is in
    let names = ap length of.names in
    let some = has_stage known args is clear other in
    record {
      some = omega (arith, long, some);
      named = names ∙ sym long;
      each = λ target inside. table_at known args is draft (with_last draft.stages draft.last) target file inside of refl;
    }

-- there are no more names than a file may have stages
pub few_names : (stages : StagesValue) (names : Names) → names ≡ stages.names → AreStages stages → length names ≤ most_stages
few_names stages names same are =
    let long = ap length same ∙ are.named in
    let few = (are.each 0 are.some).few in
    omega (arith, long, few)

-- what the call answers, by what it asked of the instructions, which it has by other names

flag_along : (is slice : List Instruction) (flag wanted : Bool) → slice ≡ is → flag ≡ are_arguments slice → flag ≡ wanted → are_arguments is ≡ wanted
flag_along is slice flag wanted same asked is_so = ap are_arguments (sym same) ∙ sym asked ∙ is_so

stages_clear : (known : Known) (args : Values) (is : List Instruction) → are_arguments is ≡ false → first_refusal known args [] is ≡ None
    → resolved_stages known args is ≡ Ok (stages_in known args is)
unfolding resolved_stages
stages_clear known args is other clear =
    ap (λ b. unless_refused (if b then Some (record { reason = Coded R05; line = 1 }) else first_refusal known args [] is) (stages_in known args is)) other
    ∙ ap (λ r. unless_refused r (stages_in known args is)) clear

stages_refused : (known : Known) (args : Values) (is : List Instruction) (refusal : Rejection) → are_arguments is ≡ false
    → first_refusal known args [] is ≡ Some refusal → resolved_stages known args is ≡ Err refusal
unfolding resolved_stages
stages_refused known args is refusal other due =
    ap (λ b. unless_refused (if b then Some (record { reason = Coded R05; line = 1 }) else first_refusal known args [] is) (stages_in known args is)) other
    ∙ ap (λ r. unless_refused r (stages_in known args is)) due

stages_missing : (known : Known) (args : Values) (is : List Instruction) → are_arguments is ≡ true
    → resolved_stages known args is ≡ Err (record { reason = Coded R05; line = 1 })
unfolding resolved_stages
stages_missing known args is all =
    ap (λ b. unless_refused (if b then Some (record { reason = Coded R05; line = 1 }) else first_refusal known args [] is) (stages_in known args is)) all

draft_stages : (known : Known) (args : Values) (is : List Instruction) (draft : Draft) → IsDraft known args is draft
    → stages_made draft.outer draft.names (with_last draft.stages draft.last) ≡ stages_in known args is
draft_stages known args is draft of =
    ap (λ outer. stages_made outer draft.names (with_last draft.stages draft.last)) of.outer
    ∙ ap (λ names. stages_made (outer_scope args is) names (with_last draft.stages draft.last)) of.names
    ∙ ap (λ stages. stages_made (outer_scope args is) (stage_names is) stages) of.stages

pub answers_arguments : (known : Known) (args : Values) (is slice : List Instruction) (flag : Bool) (fault : Fault Rejection) → slice ≡ is
    → flag ≡ are_arguments slice → flag ≡ true → fault ≡ Because (record { reason = Coded R05; line = 1 })
    → Returns (resolved_stages known args is) (Err fault)
answers_arguments known args is slice flag fault same tested holds reported =
    subst (λ f. Returns (resolved_stages known args is) (Err f)) (sym reported) (stages_missing known args is (flag_along is slice flag true same tested holds))

refused_by : (known : Known) (args : Values) (is : List Instruction) (fault : Fault Rejection) → are_arguments is ≡ false → Drafts known args is (Err fault)
    → Returns (resolved_stages known args is) (Err fault)
refused_by known args is (Because refusal) other due = stages_refused known args is refusal other due
refused_by known args is Memory other due = tt

pub answers_refused : (known : Known) (args : Values) (is slice items : List Instruction) (flag : Bool) (fault : Fault Rejection) → slice ≡ is → items ≡ is
    → flag ≡ are_arguments slice → flag ≡ false → Drafts known args items (Err fault) → Returns (resolved_stages known args is) (Err fault)
answers_refused known args is slice items flag fault same same_items tested fails drafts =
    refused_by known args is fault (flag_along is slice flag false same tested fails) (subst (λ js. Drafts known args js (Err fault)) same_items drafts)

pub whole_requires : (known : Known) (args : Values) (is slice items : List Instruction) (flag : Bool) (draft : Draft) → IsDockerfile is → slice ≡ is → items ≡ is
    → flag ≡ are_arguments slice → flag ≡ false → Drafts known args items (Ok draft)
    → AreStages (stages_made draft.outer draft.names (with_last draft.stages draft.last))
whole_requires known args is slice items flag draft file same same_items tested fails drafts =
    let of = subst (λ js. Drafts known args js (Ok draft)) same_items drafts in
    stages_whole known args is draft file (flag_along is slice flag false same tested fails) of.0 of.1

pub answers_table : (known : Known) (args : Values) (is slice items : List Instruction) (flag : Bool) (draft : Draft) (table : StagesValue) → slice ≡ is → items ≡ is
    → flag ≡ are_arguments slice → flag ≡ false → Drafts known args items (Ok draft)
    → table ≡ stages_made draft.outer draft.names (with_last draft.stages draft.last) → resolved_stages known args is ≡ Ok table
answers_table known args is slice items flag draft table same same_items tested fails drafts made =
    let of = subst (λ js. Drafts known args js (Ok draft)) same_items drafts in
    stages_clear known args is (flag_along is slice flag false same tested fails) of.0 ∙ ap (λ t. Ok t) (sym (draft_stages known args is draft of.1) ∙ sym made)

pub table_known_by : (known : Known) (args : Values) (items : List Instruction) (draft : Draft) (table : StagesValue) → Drafts known args items (Ok draft)
    → table ≡ stages_made draft.outer draft.names (with_last draft.stages draft.last) → All (NamesKnown known) table.stages
table_known_by known args items draft table drafts made =
    let stages : table.stages ≡ stages_of known args items = ap (λ (t : StagesValue). t.stages) made ∙ drafts.1.stages in
    subst (λ ss. All (NamesKnown known) ss) (sym stages) (names_known known args items)
