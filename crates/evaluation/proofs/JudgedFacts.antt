-- What evaluating lines answers, by all lines judged: refused is the first that there is a reason to refuse.
use Rattle.std.specs.Prelude.{◌≡◌, ◌<◌, ◌≤◌, ℕ, Bool, true, false, List, [], ◌∷◌, ◌++◌, map, Option, Some, None, Result, Ok, Err, Contains, length, refl, if◌then◌else◌}
use Rattle.std.specs.List.{All}
use Rattle.std.proofs.Common.{sym, ◌∙◌, ap, subst, arith, append_assoc, inl, inr}
use Rattle.std.proofs.lemmas.List.{map-append}
use Rattle.std.proofs.lemmas.List.Elements.{All-nil, All-cons, All-append, All-weaker, Contains-append_right}
use Rattle.plain.specs.Marks.{is_marked}
use Rattle.plain.specs.declared.refusal.Code.{Code}
use Rattle.expand.specs.declared.fault.Unexpanded.{Unexpanded}
use Rattle.expand.specs.declared.reason.Reason.{Reason}
use Rattle.expand.specs.declared.reason.Rejection.{Rejection}
use Rattle.llb.specs.Places.{AscendFrom}
use Rattle.plans.specs.Images.{ImagesValue}
use Rattle.instructions.specs.Reason.{reason, IsReason, IsLeastReason}
use Rattle.scopes.specs.Evaluate.{Values}
use Rattle.scopes.specs.Scope.{value_in}
use Rattle.stages.specs.Table.{TableValue, IsTable, stage_lines, lines_of}
use Rattle.stages.specs.declared.stage.ResolvedInstruction.{ResolvedInstruction}
use Rattle.stages.specs.declared.stage.ResolvedStage.{ResolvedStage}
use Rattle.imageconfig.specs.declared.config.Config.{Config}
use Rattle.evaluation.specs.Evaluated.{no_stage, evaluated}
use Rattle.evaluation.specs.Images.{with_origin, many_codes}
use Rattle.evaluation.specs.NeededLines.{JudgedLine, judged, lines_judged, after_all, stage_judged, after_stage, stages_judged, needed_lines, IsFree, IsUpTo, IsLeastRefusal}
use Rattle.imageconfig.specs.Stage.{unless_due}
use Rattle.evaluation.specs.Refusals.{all_from}
use Rattle.evaluation.specs.Stages.{with_instruction, next_instruction, instructions_from, begun, with_stage, with_ended, with_none, stage_from, next_stage, stages_from}
use Rattle.evaluation.specs.declared.stage.Progress.{Progress}
use Rattle.evaluation.specs.declared.walk.Walk.{Walk}
use Rattle.evaluation.proofs.FoldFacts.{refused_stays}

-- the law of the least reason, as a premise
pub record LeastLaws : Type 0 where
  pub is_least : (codes : Code → Bool) (against : Option Unexpanded) (reported : Reason) → reason codes against ≡ Some reported → IsLeastReason codes against reported
  pub is_free : (codes : Code → Bool) (against : Option Unexpanded) → reason codes against ≡ None → (other : Reason) → IsReason codes against other → ⊥

-- the first of some lines that there is a reason to refuse
pub record IsFirst (lines : List JudgedLine) (refusal : Rejection) : Type 0 where
  pub before : List JudgedLine
  pub at : JudgedLine
  pub after : List JudgedLine
  pub split : lines ≡ before ++ at ∷ after
  pub free : All IsFree before
  pub line : at.line ≡ refusal.line
  pub is : IsLeastReason at.codes at.fault refusal.reason

-- what lines come to: there is no reason to refuse any, and this comes after them, or the first of them is refused
abbrev pub ComeTo : {X : Type 0} → List JudgedLine → Result X Rejection → X → Type 0
ComeTo lines (Ok x) last = All IsFree lines × (x ≡ last)
ComeTo lines (Err refusal) last = IsFirst lines refusal

first_here : (j : JudgedLine) (rest : List JudgedLine) (refusal : Rejection) → j.line ≡ refusal.line → IsLeastReason j.codes j.fault refusal.reason → IsFirst (j ∷ rest) refusal
first_here j rest refusal line is = record { before = []; at = j; after = rest; split = refl; free = All-nil IsFree; line = line; is = is }

front_free : {X : Type 0} (first rest : List JudgedLine) (result : Result X Rejection) (last : X) → All IsFree first → ComeTo rest result last → ComeTo (first ++ rest) result last
front_free first rest (Ok x) last free k = (All-append IsFree first rest free k.0, k.1)
front_free first rest (Err refusal) last free k = record {
  before = first ++ k.before;
  at = k.at;
  after = k.after;
  split = ap (λ (l : List JudgedLine). first ++ l) k.split ∙ sym (append_assoc first k.before (k.at ∷ k.after));
  free = All-append IsFree first k.before free k.free;
  line = k.line;
  is = k.is;
}

first_more : (first rest : List JudgedLine) (refusal : Rejection) → IsFirst first refusal → IsFirst (first ++ rest) refusal
first_more first rest refusal h = record {
  before = h.before;
  at = h.at;
  after = h.after ++ rest;
  split = ap (λ (l : List JudgedLine). l ++ rest) h.split ∙ append_assoc h.before (h.at ∷ h.after) rest;
  free = h.free;
  line = h.line;
  is = h.is;
}

come_then : {X S : Type 0} (step : X → S → Result X Rejection) (first rest : List JudgedLine) (result : Result X Rejection) (now : X) (ss : List S) (last : X)
    → ComeTo first result now → ComeTo rest (all_from step (Ok now) ss) last → ComeTo (first ++ rest) (all_from step result ss) last
come_then {X = X} step first rest (Ok x) now ss last h k =
    front_free first rest (all_from step (Ok x) ss) last h.0 (subst (λ (y : X). ComeTo rest (all_from step (Ok y) ss) last) (sym h.1) k)
come_then {X = X} step first rest (Err refusal) now ss last h k =
    subst (λ (r : Result X Rejection). ComeTo (first ++ rest) r last) (sym (refused_stays step refusal ss)) (first_more first rest refusal h)

-- one line

line_by : {X : Type 0} (laws : LeastLaws) (j : JudgedLine) (lines : List JudgedLine) (rest : Result X Rejection) (last : X) (reported : Option Reason) → reason j.codes j.fault ≡ reported
    → ComeTo lines rest last → ComeTo (j ∷ lines) (unless_due reported j.line rest) last
line_by laws j lines rest last (Some reported) e h = first_here j lines (record { reason = reported; line = j.line }) refl (laws.is_least j.codes j.fault reported e)
line_by laws j lines rest last None e h =
    front_free (j ∷ []) lines rest last (All-cons IsFree j [] (laws.is_free j.codes j.fault e) (All-nil IsFree)) h

line_come : {X : Type 0} (laws : LeastLaws) (j : JudgedLine) (lines : List JudgedLine) (rest : Result X Rejection) (last : X) → ComeTo lines rest last
    → ComeTo (j ∷ lines) (unless_due (reason j.codes j.fault) j.line rest) last
line_come laws j lines rest last h = line_by laws j lines rest last (reason j.codes j.fault) refl h

step_come : (laws : LeastLaws) (args outer : Values) (p : Progress) (r : ResolvedInstruction) → ComeTo (judged args p r ∷ []) (next_instruction args outer p r) (with_instruction args outer p r)
step_come laws args outer p r = line_come laws (judged args p r) [] (Ok (with_instruction args outer p r)) (with_instruction args outer p r) (All-nil IsFree, refl)

-- the instructions of a stage

lines_come : (laws : LeastLaws) (args outer : Values) (rs : List ResolvedInstruction) (p : Progress)
    → ComeTo (lines_judged args outer p rs) (instructions_from args outer (Ok p) rs) (after_all args outer p rs)
lines_come laws args outer [] p = (All-nil IsFree, refl)
lines_come laws args outer (r ∷ rs) p =
    come_then (next_instruction args outer) (judged args p r ∷ []) (lines_judged args outer (with_instruction args outer p r) rs) (next_instruction args outer p r)
    (with_instruction args outer p r) rs (after_all args outer (with_instruction args outer p r) rs) (step_come laws args outer p r) (lines_come laws args outer rs (with_instruction args outer p r))

-- a needed stage

ended_come : (walk : Walk) (stage : ResolvedStage) (lines : List JudgedLine) (ended : Result Progress Rejection) (last : Progress) → ComeTo lines ended last
    → ComeTo lines (with_ended walk stage ended) (with_stage walk stage last)
ended_come walk stage lines (Ok p) last h = (h.0, ap (with_stage walk stage) h.1)
ended_come walk stage lines (Err refusal) last h = h

stage_come : (laws : LeastLaws) (args outer : Values) (images : ImagesValue Config) (walk : Walk) (stage : ResolvedStage)
    → ComeTo (stage_judged args outer images walk stage) (stage_from args outer images walk stage) (with_stage walk stage (after_all args outer (begun images walk stage) stage.instructions))
stage_come laws args outer images walk stage =
    let first = begun images walk stage in
    let ended = instructions_from args outer (Ok first) stage.instructions in
    let last = after_all args outer first stage.instructions in
    let lines = lines_judged args outer first stage.instructions in
    line_come laws (record { line = stage.line; codes = many_codes (with_origin walk.names stage.base); fault = None }) lines (with_ended walk stage ended) (with_stage walk stage last)
    (ended_come walk stage lines ended last (lines_come laws args outer stage.instructions first))

-- all stages

next_by : (laws : LeastLaws) (args outer : Values) (images : ImagesValue Config) (walk : Walk) (stage : ResolvedStage) (marked : Bool)
    → ComeTo (if marked then stage_judged args outer images walk stage else []) (if marked then stage_from args outer images walk stage else Ok (with_none walk))
    (if marked then with_stage walk stage (after_all args outer (begun images walk stage) stage.instructions) else with_none walk)
next_by laws args outer images walk stage true = stage_come laws args outer images walk stage
next_by laws args outer images walk stage false = (All-nil IsFree, refl)

pub next_come : (laws : LeastLaws) (args outer : Values) (images : ImagesValue Config) (needed : List Bool) (walk : Walk) (stage : ResolvedStage)
    → ComeTo (if is_marked needed (length walk.rows) then stage_judged args outer images walk stage else []) (next_stage args outer images needed walk stage)
    (after_stage args outer images needed walk stage)
next_come laws args outer images needed walk stage = next_by laws args outer images walk stage (is_marked needed (length walk.rows))

abbrev after_stages : Values → Values → ImagesValue Config → List Bool → Walk → List ResolvedStage → Walk
after_stages args outer images needed walk [] = walk
after_stages args outer images needed walk (stage ∷ stages) = after_stages args outer images needed (after_stage args outer images needed walk stage) stages

stages_come : (laws : LeastLaws) (args outer : Values) (images : ImagesValue Config) (needed : List Bool) (stages : List ResolvedStage) (walk : Walk)
    → ComeTo (stages_judged args outer images needed walk stages) (stages_from args outer images needed (Ok walk) stages) (after_stages args outer images needed walk stages)
stages_come laws args outer images needed [] walk = (All-nil IsFree, refl)
stages_come laws args outer images needed (stage ∷ stages) walk =
    let now = after_stage args outer images needed walk stage in
    come_then (next_stage args outer images needed) (if is_marked needed (length walk.rows) then stage_judged args outer images walk stage else [])
    (stages_judged args outer images needed now stages) (next_stage args outer images needed walk stage) now stages (after_stages args outer images needed now stages)
    (next_come laws args outer images needed walk stage) (stages_come laws args outer images needed stages now)

-- the lines ascend

abbrev numbers_of : List JudgedLine → List ℕ
numbers_of lines = map (λ j. j.line) lines

ascend_lower : (low high : ℕ) (lines : List ℕ) → low ≤ high → AscendFrom high lines → AscendFrom low lines
ascend_lower low high [] h a = tt
ascend_lower low high (line ∷ lines) h a = (let above = a.0 in (omega (arith, h, above), (a.1.0, a.1.1)))

ascend_back : (low : ℕ) (xs ys : List ℕ) → AscendFrom low (xs ++ ys) → AscendFrom low ys
ascend_back low [] ys a = a
ascend_back low (x ∷ xs) ys a = (let above = a.0 in ascend_lower low x ys (omega (arith, above)) (ascend_back x xs ys a.1.1))

ascend_with : (low : ℕ) (xs ys zs : List ℕ) → ((n : ℕ) → AscendFrom n ys → AscendFrom n zs) → AscendFrom low (xs ++ ys) → AscendFrom low (xs ++ zs)
ascend_with low [] ys zs f a = f low a
ascend_with low (x ∷ xs) ys zs f a = (a.0, (a.1.0, ascend_with x xs ys zs f a.1.1))

numbers_inner : (args outer : Values) (rs : List ResolvedInstruction) (p : Progress) → numbers_of (lines_judged args outer p rs) ≡ map (λ (r : ResolvedInstruction). r.instruction.line) rs
numbers_inner args outer [] p = refl
numbers_inner args outer (r ∷ rs) p = ap (λ (ns : List ℕ). r.instruction.line ∷ ns) (numbers_inner args outer rs (with_instruction args outer p r))

ascend_by : (args outer : Values) (images : ImagesValue Config) (walk : Walk) (stage : ResolvedStage) (stages : List ResolvedStage) (rest : List JudgedLine) (low : ℕ) (marked : Bool)
    → ((n : ℕ) → AscendFrom n (lines_of stages) → AscendFrom n (numbers_of rest)) → AscendFrom low (stage_lines stage ++ lines_of stages)
    → AscendFrom low (numbers_of ((if marked then stage_judged args outer images walk stage else []) ++ rest))
ascend_by args outer images walk stage stages rest low true f a =
    let inner = numbers_inner args outer stage.instructions (begun images walk stage) in
    let here = ap (λ (ns : List ℕ). stage.line ∷ ns) inner in
    subst (AscendFrom low) (sym (map-append (λ (j : JudgedLine). j.line) (stage_judged args outer images walk stage) rest))
    (subst (λ (ns : List ℕ). AscendFrom low (ns ++ numbers_of rest)) (sym here) (ascend_with low (stage_lines stage) (lines_of stages) (numbers_of rest) f a))
ascend_by args outer images walk stage stages rest low false f a = f low (ascend_back low (stage_lines stage) (lines_of stages) a)

stages_ascend : (args outer : Values) (images : ImagesValue Config) (needed : List Bool) (stages : List ResolvedStage) (walk : Walk) (low : ℕ)
    → AscendFrom low (lines_of stages) → AscendFrom low (numbers_of (stages_judged args outer images needed walk stages))
stages_ascend args outer images needed [] walk low a = tt
stages_ascend args outer images needed (stage ∷ stages) walk low a =
    ascend_by args outer images walk stage stages (stages_judged args outer images needed (after_stage args outer images needed walk stage) stages) low
    (is_marked needed (length walk.rows)) (stages_ascend args outer images needed stages (after_stage args outer images needed walk stage)) a

-- the first is the least

all_above : (low : ℕ) (lines : List JudgedLine) → AscendFrom low (numbers_of lines) → All (λ (j : JudgedLine). low < j.line) lines
all_above low [] a = All-nil (λ (j : JudgedLine). low < j.line)
all_above low (j ∷ lines) a =
    let above = a.0 in
    All-cons (λ (i : JudgedLine). low < i.line) j lines above
    (All-weaker (λ (i : JudgedLine). j.line < i.line) (λ (i : JudgedLine). low < i.line) (λ i higher. omega (arith, above, higher)) lines (all_above j.line lines a.1.1))

abbrev IsAfter : Rejection → JudgedLine → Type 0
IsAfter refusal j = (other : Reason) → IsReason j.codes j.fault other → IsUpTo refusal j.line other

rest_after : (low : ℕ) (j : JudgedLine) (after : List JudgedLine) (refusal : Rejection) → j.line ≡ refusal.line → IsLeastReason j.codes j.fault refusal.reason → AscendFrom low (numbers_of (j ∷ after))
    → All (IsAfter refusal) (j ∷ after)
rest_after low j after refusal line is a =
    All-cons (IsAfter refusal) j after (λ other there. inr (sym line, is.1 other there))
    (All-weaker (λ (i : JudgedLine). j.line < i.line) (IsAfter refusal) (λ i higher other there. inl (omega (arith, line, higher))) after (all_above j.line after a.1.1))

least_of : (lines : List JudgedLine) (refusal : Rejection) → AscendFrom 0 (numbers_of lines) → IsFirst lines refusal → IsLeastRefusal lines refusal
least_of lines refusal a h =
    let split = h.split in
    let there : AscendFrom 0 (numbers_of h.before ++ numbers_of (h.at ∷ h.after)) =
    subst (AscendFrom 0) (ap numbers_of split ∙ map-append (λ (j : JudgedLine). j.line) h.before (h.at ∷ h.after)) a in
    let after = rest_after 0 h.at h.after refusal h.line h.is (ascend_back 0 (numbers_of h.before) (numbers_of (h.at ∷ h.after)) there) in
    let free = All-weaker IsFree (IsAfter refusal) (λ j none other there. absurd (none other there)) h.before h.free in
    record {
      is_due = (h.at, subst (λ (ls : List JudgedLine). Contains ls h.at) (sym split) (Contains-append_right h.before (h.at ∷ h.after) h.at (0, omega arith, refl)), h.line, h.is.0);
      least = subst (All (IsAfter refusal)) (sym split) (All-append (IsAfter refusal) h.before (h.at ∷ h.after) free after);
    }

-- what a table comes to

refused_by : (lines : List JudgedLine) (result : Result Walk Rejection) (last : Walk) (refusal : Rejection) → ComeTo lines result last → result ≡ Err refusal → IsFirst lines refusal
refused_by lines result last refusal h e = subst (λ (r : Result Walk Rejection). ComeTo lines r last) e h

free_by : (lines : List JudgedLine) (result : Result Walk Rejection) (last walk : Walk) → ComeTo lines result last → result ≡ Ok walk → All IsFree lines × (walk ≡ last)
free_by lines result last walk h e = subst (λ (r : Result Walk Rejection). ComeTo lines r last) e h

pub refused_least : LeastLaws → (args : Values) (images : ImagesValue Config) (needed : List Bool) (table : TableValue) (refusal : Rejection) → IsTable table
    → evaluated args images needed table ≡ Err refusal → IsLeastRefusal (needed_lines args images needed table) refusal
refused_least laws args images needed table refusal is e =
    let outer = value_in table.outer in
    least_of (needed_lines args images needed table) refusal (stages_ascend args outer images needed table.stages no_stage 0 is.lines)
    (refused_by (needed_lines args images needed table) (evaluated args images needed table) (after_stages args outer images needed no_stage table.stages) refusal
    (stages_come laws args outer images needed table.stages no_stage) e)

pub evaluated_free : LeastLaws → (args : Values) (images : ImagesValue Config) (needed : List Bool) (table : TableValue) (walk : Walk)
    → evaluated args images needed table ≡ Ok walk → All IsFree (needed_lines args images needed table)
evaluated_free laws args images needed table walk e =
    let outer = value_in table.outer in
    (free_by (needed_lines args images needed table) (evaluated args images needed table) (after_stages args outer images needed no_stage table.stages) walk
    (stages_come laws args outer images needed table.stages no_stage) e).0

pub next_is : LeastLaws → (args outer : Values) (images : ImagesValue Config) (needed : List Bool) (walk next : Walk) (stage : ResolvedStage)
    → next_stage args outer images needed walk stage ≡ Ok next → next ≡ after_stage args outer images needed walk stage
next_is laws args outer images needed walk next stage e =
    (free_by (if is_marked needed (length walk.rows) then stage_judged args outer images walk stage else []) (next_stage args outer images needed walk stage)
    (after_stage args outer images needed walk stage) next (next_come laws args outer images needed walk stage) e).1
