-- The refusals of a table's needed stages: the first of them, that of each stage, and their order.
use Rattle.std.specs.Prelude.{◌≡◌, ◌+◌, ◌&&◌, ◌⊎◌, ℕ, zero, suc, Bool, true, false, List, [], ◌∷◌, ◌++◌, map, Option, Some, None, Result, Ok, Err, Contains, length, slice_get, refl, if◌then◌else◌}
use Rattle.std.proofs.Common.{sym, ◌∙◌, ap, subst, arith, inl, inr, append-nil, length-append}
use Rattle.std.proofs.lemmas.Bool.{true≢false}
use Rattle.std.proofs.lemmas.List.Elements.{Contains-append_left, Contains-append_right, Contains-append_cases}
use Rattle.plain.specs.Marks.{is_marked}
use Rattle.expand.specs.declared.reason.Reason.{Reason}
use Rattle.expand.specs.declared.reason.Rejection.{Rejection}
use Rattle.llb.specs.Places.{AscendFrom, AreLines}
use Rattle.llb.proofs.LineFacts.{contains_nil, contains_here, contains_there, contains_cases}
use Rattle.plans.specs.Images.{ImagesValue}
use Rattle.rows.specs.declared.row.Origin.{Origin}
use Rattle.rows.specs.declared.row.Origin.TheVariants.{Source as SourceOf, Stage as StageOf}
use Rattle.rows.specs.declared.row.Stage.{Stage}
use Rattle.scopes.specs.Evaluate.{Values}
use Rattle.scopes.specs.Scope.{value_in}
use Rattle.instructions.specs.Reason.{reason}
use Rattle.stages.specs.Table.{TableValue, IsTable, stage_lines, lines_of}
use Rattle.stages.specs.declared.stage.ResolvedInstruction.{ResolvedInstruction}
use Rattle.stages.specs.declared.stage.ResolvedStage.{ResolvedStage}
use Rattle.imageconfig.specs.Stage.{unless_due}
use Rattle.imageconfig.specs.declared.config.Config.{Config}
use Rattle.evaluation.specs.Evaluated.{no_stage, evaluated}
use Rattle.evaluation.specs.Faults.{leaves_nothing, is_lost, is_base_lost, judged_stage, refusals_in, after_judged, refusals_after, evaluation_refusals, walk_before, IsStageRefused}
use Rattle.evaluation.specs.Images.{ImageNames, with_origin, many_codes}
use Rattle.evaluation.specs.Instruction.{fault}
use Rattle.evaluation.specs.Stages.{line_codes, with_instruction, next_instruction, instructions_from, begun, with_ended, with_none, stage_from, next_stage, stages_from}
use Rattle.evaluation.specs.declared.stage.Progress.{Progress}
use Rattle.evaluation.specs.declared.state.State.{State}
use Rattle.evaluation.specs.declared.walk.Walk.{Walk}
use Rattle.evaluation.proofs.FoldFacts.{refused_stays, refused_or_ok}
use Rattle.evaluation.proofs.OrderFacts.{AscendLike, ascend_lower, none_ascend, both_ascend, inner_of}
use Rattle.evaluation.proofs.ReachedFacts.{same_ok, stage_made}

-- no stage is lost before the first that is refused

and_first : (a b : Bool) → (a && b) ≡ true → a ≡ true
and_first true b h = refl
and_first false b h = h

and_second : (a b : Bool) → (a && b) ≡ true → b ≡ true
and_second true b h = h
and_second false b h = absurd (true≢false (sym h))

and_both : (a b : Bool) → a ≡ true → b ≡ true → (a && b) ≡ true
and_both true b h k = k
and_both false b h k = h

not_true : (b : Bool) → (b ≡ true → ⊥) → b ≡ false
not_true true f = absurd (f refl)
not_true false f = refl

some_or_none : {X : Type 0} (x : X) → Some x ≡ None → ⊥
some_or_none x e = cc

leaves_more : (states : List (Option State)) (x : Option State) (n : ℕ) → leaves_nothing (slice_get (states ++ x ∷ []) n) ≡ true
    → (leaves_nothing (slice_get states n) ≡ true) ⊎ ((n ≡ length states) × (x ≡ None))
leaves_more [] None zero h = inr (refl, refl)
leaves_more [] (Some state) zero h = absurd (true≢false (sym h))
leaves_more [] x (suc n) h = absurd (true≢false (sym h))
leaves_more (first ∷ states) x zero h = inl h
leaves_more (first ∷ states) x (suc n) h = elim (leaves_more states x n h) [
  | inl a ↦ inl a
  | inr b ↦ inr (ap suc b.0, b.1)
]

-- no stage so far is lost
pub record NoneLost (needed : List Bool) (walk : Walk) : Type 0 where
  pub long : length walk.states ≡ length walk.rows
  pub none : (n : ℕ) → is_lost needed walk.states n ≡ true → ⊥

none_first : (needed : List Bool) → NoneLost needed no_stage
none_first needed = record { long = refl; none = λ n h. true≢false (sym (and_second (is_marked needed n) false h)) }

none_more : (needed : List Bool) (walk : Walk) (row : Option Stage) (x : Option State) (names : ImageNames) → NoneLost needed walk
    → (is_marked needed (length walk.rows) ≡ true → x ≡ None → ⊥)
    → NoneLost needed (record { rows = walk.rows ++ row ∷ []; states = walk.states ++ x ∷ []; names = names })
none_more needed walk row x names are f = record {
  long = length-append walk.states (x ∷ []) ∙ (ap (λ n. n + 1) are.long ∙ sym (length-append walk.rows (row ∷ [])));
  none = λ n h.
      let marked = and_first (is_marked needed n) (leaves_nothing (slice_get (walk.states ++ x ∷ []) n)) h in
      elim (leaves_more walk.states x n (and_second (is_marked needed n) (leaves_nothing (slice_get (walk.states ++ x ∷ []) n)) h)) [
        | inl nothing ↦ are.none n (and_both (is_marked needed n) (leaves_nothing (slice_get walk.states n)) marked nothing)
        | inr last ↦ f (subst (λ (m : ℕ). is_marked needed m ≡ true) (last.0 ∙ are.long) marked) last.1
      ];
}

none_by : (args outer : Values) (images : ImagesValue Config) (needed : List Bool) (walk next : Walk) (stage : ResolvedStage) (marked : Bool)
    → marked ≡ is_marked needed (length walk.rows) → NoneLost needed walk
    → (if marked then stage_from args outer images walk stage else Ok (with_none walk)) ≡ Ok next → NoneLost needed next
none_by args outer images needed walk next stage true same are e =
    let made = stage_made args outer images walk stage next e in
    subst (NoneLost needed) made.is
    (none_more needed walk (Some (record { line = stage.line; base = stage.base; steps = made.last.steps })) (Some made.last.state) made.last.names are
    (λ marked nothing. some_or_none made.last.state nothing))
none_by args outer images needed walk next stage false same are e =
    subst (NoneLost needed) (same_ok (with_none walk) next e)
    (none_more needed walk None None walk.names are (λ marked nothing. true≢false (sym (same ∙ marked))))

base_kept : (needed : List Bool) (walk : Walk) (base : Origin) → NoneLost needed walk → is_base_lost needed walk.states base ≡ false
base_kept needed walk (SourceOf source) are = refl
base_kept needed walk (StageOf number) are = not_true (is_lost needed walk.states number) (are.none number)

judged_by : (lost : Bool) (out in_turn : Result Walk Rejection) → lost ≡ false → (if lost then out else in_turn) ≡ in_turn
judged_by true out in_turn e = absurd (true≢false e)
judged_by false out in_turn e = refl

judged_next : (args outer : Values) (images : ImagesValue Config) (needed : List Bool) (walk : Walk) (stage : ResolvedStage) → NoneLost needed walk
    → judged_stage args outer images needed walk stage ≡ next_stage args outer images needed walk stage
judged_next args outer images needed walk stage are =
    judged_by (is_base_lost needed walk.states stage.base) (Ok (with_none walk)) (next_stage args outer images needed walk stage) (base_kept needed walk stage.base are)

-- the first refusal

-- these are the refusals of what is evaluated so
abbrev AreOf : List Rejection → Result Walk Rejection → Type 0
AreOf refusals (Ok walk) = refusals ≡ []
AreOf refusals (Err refusal) = (more : List Rejection) × (refusals ≡ refusal ∷ more)

are_by : (args outer : Values) (images : ImagesValue Config) (needed : List Bool) (walk : Walk) (stages : List ResolvedStage) (result : Result Walk Rejection)
    → ((next : Walk) → result ≡ Ok next → AreOf (refusals_after args outer images needed next stages) (stages_from args outer images needed (Ok next) stages))
    → AreOf (refusals_in result ++ refusals_after args outer images needed (after_judged walk result) stages) (stages_from args outer images needed result stages)
are_by args outer images needed walk stages (Ok next) f = f next refl
are_by args outer images needed walk stages (Err refusal) f =
    let rest = refusals_after args outer images needed (after_judged walk (Err refusal)) stages in
    subst (AreOf (refusal ∷ rest)) (sym (refused_stays (next_stage args outer images needed) refusal stages)) (rest, refl)

are_of : (args outer : Values) (images : ImagesValue Config) (needed : List Bool) (stages : List ResolvedStage) (walk : Walk) → NoneLost needed walk
    → AreOf (refusals_after args outer images needed walk stages) (stages_from args outer images needed (Ok walk) stages)
are_of args outer images needed [] walk are = refl
are_of args outer images needed (stage ∷ stages) walk are =
    let next_is = next_stage args outer images needed walk stage in
    subst (λ (judged : Result Walk Rejection). AreOf (refusals_in judged ++ refusals_after args outer images needed (after_judged walk judged) stages) (stages_from args outer images needed next_is stages))
    (sym (judged_next args outer images needed walk stage are))
    (are_by args outer images needed walk stages next_is
    (λ next e. are_of args outer images needed stages next
    (none_by args outer images needed walk next stage (is_marked needed (length walk.rows)) refl are e)))

all_of : (args : Values) (images : ImagesValue Config) (needed : List Bool) (table : TableValue)
    → AreOf (evaluation_refusals args images needed table) (evaluated args images needed table)
unfolding evaluation_refusals
all_of args images needed table = are_of args (value_in table.outer) images needed table.stages no_stage (none_first needed)

same_first : (one other : Rejection) (more others : List Rejection) → one ∷ more ≡ other ∷ others → one ≡ other
same_first one other more others e = cc

some_is_none : (refusal : Rejection) (more : List Rejection) → refusal ∷ more ≡ [] → ⊥
some_is_none refusal more e = cc

abbrev refused_for : Rejection → Result Walk Rejection
refused_for refusal = Err refusal

first_by : (refusals more : List Rejection) (refusal : Rejection) (result : Result Walk Rejection) → AreOf refusals result → refusals ≡ refusal ∷ more → result ≡ Err refusal
first_by refusals more refusal (Ok walk) are is = absurd (some_is_none refusal more (sym is ∙ are))
first_by refusals more refusal (Err other) are is = ap refused_for (same_first other refusal are.0 more (sym are.1 ∙ is))

free_by : (refusals : List Rejection) (result : Result Walk Rejection) → AreOf refusals result → refusals ≡ [] → (walk : Walk) × (result ≡ Ok walk)
free_by refusals (Ok walk) are is = (walk, refl)
free_by refusals (Err other) are is = absurd (some_is_none other are.0 (sym are.1 ∙ is))

pub first : (args : Values) (images : ImagesValue Config) (needed : List Bool) (table : TableValue) (refusal : Rejection) (more : List Rejection)
    → evaluation_refusals args images needed table ≡ refusal ∷ more → evaluated args images needed table ≡ Err refusal
first args images needed table refusal more is =
    first_by (evaluation_refusals args images needed table) more refusal (evaluated args images needed table) (all_of args images needed table) is

pub refused : (args : Values) (images : ImagesValue Config) (needed : List Bool) (table : TableValue) (refusal : Rejection)
    → evaluated args images needed table ≡ Err refusal → (more : List Rejection) × (evaluation_refusals args images needed table ≡ refusal ∷ more)
refused args images needed table refusal e = subst (AreOf (evaluation_refusals args images needed table)) e (all_of args images needed table)

pub free : (args : Values) (images : ImagesValue Config) (needed : List Bool) (table : TableValue)
    → evaluation_refusals args images needed table ≡ [] → (walk : Walk) × (evaluated args images needed table ≡ Ok walk)
free args images needed table is = free_by (evaluation_refusals args images needed table) (evaluated args images needed table) (all_of args images needed table) is

pub accepted : (args : Values) (images : ImagesValue Config) (needed : List Bool) (table : TableValue) (walk : Walk)
    → evaluated args images needed table ≡ Ok walk → evaluation_refusals args images needed table ≡ []
accepted args images needed table walk e = subst (AreOf (evaluation_refusals args images needed table)) e (all_of args images needed table)

-- the refusal of each stage

judged_refused : (judged : Result Walk Rejection) (refusal : Rejection) → Contains (refusals_in judged) refusal → judged ≡ Err refusal
judged_refused (Ok walk) refusal h = absurd (contains_nil {X = Rejection} refusal h)
judged_refused (Err other) refusal h = elim (contains_cases {X = Rejection} other refusal [] h) [
  | inl same ↦ ap refused_for (sym same)
  | inr none ↦ absurd (contains_nil {X = Rejection} refusal none)
]

-- a stage among some after those before it that is refused so
abbrev RefusedAmong : Values → Values → ImagesValue Config → List Bool → Walk → List ResolvedStage → Rejection → Type 0
RefusedAmong args outer images needed walk stages refusal =
    (number : ℕ) × ((stage : ResolvedStage) × (slice_get stages number ≡ Some stage)
    × (judged_stage args outer images needed (walk_before args outer images needed walk stages number) stage ≡ Err refusal))

refused_among : (args outer : Values) (images : ImagesValue Config) (needed : List Bool) (stages : List ResolvedStage) (walk : Walk) (refusal : Rejection)
    → Contains (refusals_after args outer images needed walk stages) refusal → RefusedAmong args outer images needed walk stages refusal
refused_among args outer images needed [] walk refusal h = absurd (contains_nil {X = Rejection} refusal h)
refused_among args outer images needed (stage ∷ stages) walk refusal h =
    let judged = judged_stage args outer images needed walk stage in
    let rest = refusals_after args outer images needed (after_judged walk judged) stages in
    elim (Contains-append_cases (refusals_in judged) rest refusal h) [
      | inl here ↦ (0, (stage, refl, judged_refused judged refusal here))
      | inr later ↦ (let found = refused_among args outer images needed stages (after_judged walk judged) refusal later in (suc found.0, found.1))
    ]

same_stage : (one other : ResolvedStage) → Some one ≡ Some other → one ≡ other
same_stage one other e = cc

no_stage_there : (stage : ResolvedStage) → None ≡ Some stage → ⊥
no_stage_there stage e = cc

among_listed : (args outer : Values) (images : ImagesValue Config) (needed : List Bool) (stages : List ResolvedStage) (walk : Walk) (number : ℕ) (stage : ResolvedStage) (refusal : Rejection)
    → slice_get stages number ≡ Some stage → judged_stage args outer images needed (walk_before args outer images needed walk stages number) stage ≡ Err refusal
    → Contains (refusals_after args outer images needed walk stages) refusal
among_listed args outer images needed [] walk number stage refusal there e = absurd (no_stage_there stage there)
among_listed args outer images needed (here ∷ stages) walk zero stage refusal there e =
    let judged = judged_stage args outer images needed walk here in
    let is : judged ≡ Err refusal = ap (judged_stage args outer images needed walk) (same_stage here stage there) ∙ e in
    Contains-append_left (refusals_in judged) (refusals_after args outer images needed (after_judged walk judged) stages) refusal
    (subst (λ (j : Result Walk Rejection). Contains (refusals_in j) refusal) (sym is) (contains_here refusal []))
among_listed args outer images needed (here ∷ stages) walk (suc number) stage refusal there e =
    let judged = judged_stage args outer images needed walk here in
    Contains-append_right (refusals_in judged) (refusals_after args outer images needed (after_judged walk judged) stages) refusal
    (among_listed args outer images needed stages (after_judged walk judged) number stage refusal there e)

pub each : (args : Values) (images : ImagesValue Config) (needed : List Bool) (table : TableValue) (refusal : Rejection)
    → Contains (evaluation_refusals args images needed table) refusal → (number : ℕ) × IsStageRefused args images needed table number refusal
unfolding evaluation_refusals
each args images needed table refusal h =
    let found = refused_among args (value_in table.outer) images needed table.stages no_stage refusal h in
    (found.0, record { stage = found.1.0; there = found.1.1; judged = found.1.2 })

pub listed : (args : Values) (images : ImagesValue Config) (needed : List Bool) (table : TableValue) (number : ℕ) (refusal : Rejection)
    → IsStageRefused args images needed table number refusal → Contains (evaluation_refusals args images needed table) refusal
unfolding evaluation_refusals
listed args images needed table number refusal is =
    among_listed args (value_in table.outer) images needed table.stages no_stage number is.stage refusal is.there is.judged

same_refusal : (one other : Rejection) → refused_for one ≡ refused_for other → one ≡ other
same_refusal one other e = cc

pub once : (args : Values) (images : ImagesValue Config) (needed : List Bool) (table : TableValue) (number : ℕ) (one other : Rejection)
    → IsStageRefused args images needed table number one → IsStageRefused args images needed table number other → one ≡ other
once args images needed table number one other this that =
    let walk = walk_before args (value_in table.outer) images needed no_stage table.stages number in
    let same = same_stage this.stage that.stage (sym this.there ∙ that.there) in
    same_refusal one other (sym this.judged ∙ (ap (judged_stage args (value_in table.outer) images needed walk) same ∙ that.judged))

-- the line of a refusal is one of its stage's

abbrev told_with : ℕ → Reason → Rejection
told_with line why = record { reason = why; line = line }

same_told : {X : Type 0} (one other : Rejection) (result : Result X Rejection) → result ≡ Err one → result ≡ Err other → one ≡ other
same_told one other result e f = cc

same_line : {X : Type 0} (why : Reason) (line : ℕ) (refusal : Rejection) (result : Result X Rejection) → result ≡ Err (told_with line why) → result ≡ Err refusal
    → line ≡ refusal.line
same_line why line refusal result e f = ap (λ (r : Rejection). r.line) (same_told (told_with line why) refusal result e f)

inner_by : (args outer : Values) (rs : List ResolvedInstruction) (why : Option Reason) (line : ℕ) (p : Progress) (refusal : Rejection)
    → instructions_from args outer (unless_due why line (Ok p)) rs ≡ Err refusal
    → (instructions_from args outer (Ok p) rs ≡ Err refusal → Contains (inner_of rs) refusal.line) → Contains (line ∷ inner_of rs) refusal.line
inner_by args outer rs None line p refusal h f = contains_there {X = ℕ} line refusal.line (inner_of rs) (f h)
inner_by args outer rs (Some why) line p refusal h f =
    let result = instructions_from args outer (Err (told_with line why)) rs in
    let same = same_line why line refusal result (refused_stays (next_instruction args outer) (told_with line why) rs) h in
    subst (λ (l : ℕ). Contains (line ∷ inner_of rs) l) same (contains_here {X = ℕ} line (inner_of rs))

inner_line : (args outer : Values) (rs : List ResolvedInstruction) (p : Progress) (refusal : Rejection)
    → instructions_from args outer (Ok p) rs ≡ Err refusal → Contains (inner_of rs) refusal.line
inner_line args outer [] p refusal h = absurd (refused_or_ok refusal p (sym h))
inner_line args outer (r ∷ rs) p refusal h =
    let next = with_instruction args outer p r in
    inner_by args outer rs (reason (line_codes args p r) (fault args p.state r.instruction.kind)) r.instruction.line next refusal h (inner_line args outer rs next refusal)

abbrev ended_for : Rejection → Result Progress Rejection
ended_for refusal = Err refusal

ended_line : (walk : Walk) (stage : ResolvedStage) (why : Option Reason) (ended : Result Progress Rejection) (refusal : Rejection)
    → unless_due why stage.line (with_ended walk stage ended) ≡ Err refusal
    → (ended ≡ Err refusal → Contains (inner_of stage.instructions) refusal.line) → Contains (stage_lines stage) refusal.line
ended_line walk stage None (Ok p) refusal h f = absurd cc
ended_line walk stage None (Err other) refusal h f =
    contains_there {X = ℕ} stage.line refusal.line (inner_of stage.instructions) (f (ap ended_for (same_refusal other refusal h)))
ended_line walk stage (Some why) ended refusal h f =
    subst (λ (l : ℕ). Contains (stage_lines stage) l) (same_line why stage.line refusal (unless_due (Some why) stage.line (with_ended walk stage ended)) refl h) (contains_here {X = ℕ} stage.line (inner_of stage.instructions))

judged_line_by : (args outer : Values) (images : ImagesValue Config) (walk : Walk) (stage : ResolvedStage) (lost marked : Bool) (refusal : Rejection)
    → (if lost then Ok (with_none walk) else (if marked then stage_from args outer images walk stage else Ok (with_none walk))) ≡ Err refusal
    → Contains (stage_lines stage) refusal.line
judged_line_by args outer images walk stage true marked refusal h = absurd (refused_or_ok refusal (with_none walk) (sym h))
judged_line_by args outer images walk stage false false refusal h = absurd (refused_or_ok refusal (with_none walk) (sym h))
judged_line_by args outer images walk stage false true refusal h =
    ended_line walk stage (reason (many_codes (with_origin walk.names stage.base)) None) (instructions_from args outer (Ok (begun images walk stage)) stage.instructions) refusal h
    (inner_line args outer stage.instructions (begun images walk stage) refusal)

pub refused_line : (args : Values) (images : ImagesValue Config) (needed : List Bool) (table : TableValue) (number : ℕ) (refusal : Rejection)
    (is : IsStageRefused args images needed table number refusal) → Contains (stage_lines is.stage) refusal.line
refused_line args images needed table number refusal is =
    let outer = value_in table.outer in
    let walk = walk_before args outer images needed no_stage table.stages number in
    judged_line_by args outer images walk is.stage (is_base_lost needed walk.states is.stage.base) (is_marked needed (length walk.rows)) refusal is.judged

-- so their lines ascend

abbrev fault_lines : List Rejection → List ℕ
fault_lines refusals = map (λ (refusal : Rejection). refusal.line) refusals

fault_lines-append : (refusals more : List Rejection) → fault_lines (refusals ++ more) ≡ fault_lines refusals ++ fault_lines more
fault_lines-append [] more = refl
fault_lines-append (refusal ∷ refusals) more = ap (λ (lines : List ℕ). refusal.line ∷ lines) (fault_lines-append refusals more)

member_ascends : (lines : List ℕ) (line : ℕ) → Contains lines line → AscendLike (line ∷ []) lines
member_ascends [] line h after_these after_those rest low ascend = absurd (contains_nil {X = ℕ} line h)
member_ascends (first ∷ lines) line h after_these after_those rest low ascend = elim (contains_cases {X = ℕ} first line lines h) [
  | inl same ↦
      subst (λ (l : ℕ). AscendFrom low (l ∷ after_these)) (sym same)
      (ascend.0, (ascend.1.0, none_ascend lines after_these after_those rest first ascend.1.1))
  | inr there ↦
      ascend_lower low first (line ∷ after_these) (let above = ascend.0 in omega (arith, above))
      (member_ascends lines line there after_these after_those rest first ascend.1.1)
]

judged_ascends : (stage : ResolvedStage) (judged : Result Walk Rejection) → ((refusal : Rejection) → judged ≡ Err refusal → Contains (stage_lines stage) refusal.line)
    → AscendLike (fault_lines (refusals_in judged)) (stage_lines stage)
judged_ascends stage (Ok walk) f = none_ascend (stage_lines stage)
judged_ascends stage (Err refusal) f = member_ascends (stage_lines stage) refusal.line (f refusal refl)

all_ascend : (args outer : Values) (images : ImagesValue Config) (needed : List Bool) (stages : List ResolvedStage) (walk : Walk)
    → AscendLike (fault_lines (refusals_after args outer images needed walk stages)) (lines_of stages)
all_ascend args outer images needed [] walk = none_ascend []
all_ascend args outer images needed (stage ∷ stages) walk =
    let judged = judged_stage args outer images needed walk stage in
    let rest = refusals_after args outer images needed (after_judged walk judged) stages in
    subst (λ (lines : List ℕ). AscendLike lines (stage_lines stage ++ lines_of stages)) (sym (fault_lines-append (refusals_in judged) rest))
    (both_ascend (fault_lines (refusals_in judged)) (stage_lines stage) (fault_lines rest) (lines_of stages)
    (judged_ascends stage judged
    (λ refusal e. judged_line_by args outer images walk stage (is_base_lost needed walk.states stage.base) (is_marked needed (length walk.rows)) refusal e))
    (all_ascend args outer images needed stages (after_judged walk judged)))

pub in_order : (args : Values) (images : ImagesValue Config) (needed : List Bool) (table : TableValue) → IsTable table
    → AreLines (map (λ (refusal : Rejection). refusal.line) (evaluation_refusals args images needed table))
unfolding evaluation_refusals
in_order args images needed table whole =
    let lines = fault_lines (refusals_after args (value_in table.outer) images needed no_stage table.stages) in
    let those : AscendFrom 0 (lines_of table.stages ++ []) = subst (AscendFrom 0) (sym (append-nil (lines_of table.stages))) whole.lines in
    subst (AscendFrom 0) (append-nil lines)
    (all_ascend args (value_in table.outer) images needed table.stages no_stage [] [] (λ low ascend. ascend) 0 those)
