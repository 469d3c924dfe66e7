-- What is kept of stages is enough: they are evaluated as if all were kept.
use Rattle.std.specs.Prelude.{◌≡◌, ◌+◌, ◌&&◌, ℕ, zero, suc, Bool, true, false, List, [], ◌∷◌, ◌++◌, Option, Some, None, Result, Ok, Err, length, slice_get, slice_index_or, slice_set, refl, if◌then◌else◌}
use Rattle.std.proofs.Common.{sym, ◌∙◌, ap, subst, arith, inl, inr, unwrap_or}
use Rattle.std.proofs.lemmas.Bool.{true≢false}
use Rattle.std.proofs.lemmas.List.{length-append, length-set}
use Rattle.std.proofs.lemmas.Option.{unwrap_or-slice_get}
use Rattle.plain.specs.Marks.{is_marked}
use Rattle.expand.specs.declared.reason.Reason.{Reason}
use Rattle.expand.specs.declared.reason.Rejection.{Rejection}
use Rattle.plans.specs.Images.{ImagesValue}
use Rattle.rows.specs.declared.row.Origin.{Origin}
use Rattle.rows.specs.declared.row.Origin.TheVariants.{Source as SourceOf, Stage as StageOf}
use Rattle.instructions.specs.Reason.{reason}
use Rattle.scopes.specs.Evaluate.{Values}
use Rattle.stages.specs.declared.stage.ResolvedStage.{ResolvedStage}
use Rattle.imageconfig.specs.Stage.{unless_due}
use Rattle.imageconfig.specs.declared.config.Config.{Config}
use Rattle.evaluation.specs.Evaluated.{no_stage}
use Rattle.evaluation.specs.Faults.{leaves_nothing, is_base_lost, judged_stage, refusals_in, with_refused, after_judged, refusals_after}
use Rattle.evaluation.specs.Images.{ImageNames, with_origin, many_codes}
use Rattle.evaluation.specs.PrivateKept.{IsWanted, TellsWanted, without_state, left_by, state_if, with_kept, kept_ended, kept_stage, kept_next, kept_from, kept_judged, kept_refusals, IsKept}
use Rattle.evaluation.specs.PrivateStage.{begun_with}
use Rattle.evaluation.specs.Refusals.{one_more, all_from}
use Rattle.evaluation.specs.State.{ended_state, start}
use Rattle.evaluation.specs.Stages.{instructions_from, begun, with_stage, with_ended, stage_from, with_none, next_stage, stages_from}
use Rattle.evaluation.specs.declared.stage.Progress.{Progress}
use Rattle.evaluation.specs.declared.state.State.{State}
use Rattle.evaluation.specs.declared.walk.Walk.{Walk}

-- lists

set_other : {X : Type 0} (xs : List X) (i j : ℕ) (x : X) → (j ≡ i → ⊥) → slice_get (slice_set xs i x) j ≡ slice_get xs j
set_other [] i j x differ = refl
set_other (y ∷ ys) zero zero x differ = absurd (differ refl)
set_other (y ∷ ys) zero (suc j) x differ = refl
set_other (y ∷ ys) (suc i) zero x differ = refl
set_other (y ∷ ys) (suc i) (suc j) x differ = set_other ys i j x (λ e. differ (ap suc e))

more_same : {X : Type 0} (xs ys : List X) (a b : X) (i : ℕ) → length xs ≡ length ys → slice_get xs i ≡ slice_get ys i → (i ≡ length xs → a ≡ b)
    → slice_get (xs ++ a ∷ []) i ≡ slice_get (ys ++ b ∷ []) i
more_same [] [] a b zero long same here = ap Some (here refl)
more_same [] [] a b (suc i) long same here = refl
more_same [] (y ∷ ys) a b i long same here = absurd (omega (arith, long))
more_same (x ∷ xs) [] a b i long same here = absurd (omega (arith, long))
more_same (x ∷ xs) (y ∷ ys) a b zero long same here = same
more_same (x ∷ xs) (y ∷ ys) a b (suc i) long same here = more_same xs ys a b i (omega (arith, long)) same (λ e. here (ap suc e))

one_longer : {X : Type 0} (xs : List X) (x : X) (n : ℕ) → length xs ≡ n → length (xs ++ x ∷ []) ≡ suc n
one_longer xs x n long =
    let whole = length-append xs (x ∷ []) in
    omega (arith, whole, long)

pub index_same : (xs ys : List (Option State)) (i : ℕ) → slice_get xs i ≡ slice_get ys i → slice_index_or xs i None ≡ slice_index_or ys i None
index_same xs ys i e = sym (unwrap_or-slice_get xs i None) ∙ (ap (λ found. unwrap_or found None) e ∙ unwrap_or-slice_get ys i None)

-- what is wanted

still_wanted : (needed : List Bool) (stages : List ResolvedStage) (target from number : ℕ) → IsWanted needed stages target (suc from) number → IsWanted needed stages target from number
still_wanted needed stages target from number (inl is) = inl is
still_wanted needed stages target from number (inr later) =
    let past = later.1 in
    inr (later.0, omega (arith, past), later.2)

base_wanted : (needed : List Bool) (stages : List ResolvedStage) (target from number : ℕ) (stage : ResolvedStage) → slice_get stages from ≡ Some stage → is_marked needed from ≡ true
    → stage.base ≡ StageOf number → IsWanted needed stages target from number
base_wanted needed stages target from number stage there marked begins =
    inr (from, omega arith, record { stage = stage; there = there; marked = marked; begins = begins })

start_of : (images : ImagesValue Config) (needed : List Bool) (stages : List ResolvedStage) (target from : ℕ) (walk kept : Walk) (stage : ResolvedStage) (base : Origin) → stage.base ≡ base
    → IsKept needed stages target from walk kept → slice_get stages from ≡ Some stage → is_marked needed from ≡ true → start images kept.states base ≡ start images walk.states base
start_of images needed stages target from walk kept stage (SourceOf source) e is there marked = refl
start_of images needed stages target from walk kept stage (StageOf number) e is there marked =
    ap ended_state (index_same kept.states walk.states number (is.each number (base_wanted needed stages target from number stage there marked e)))

-- what is left once a stage has begun

left_if : (wanted : Bool) (kept : Walk) (other number : ℕ) → (wanted ≡ false → number ≡ other → ⊥)
    → slice_get (if wanted then kept else without_state kept other).states number ≡ slice_get kept.states number
left_if true kept other number differ = refl
left_if false kept other number differ = set_other kept.states other number None (differ refl)

left_each : (wants : ℕ → ℕ → Bool) (kept : Walk) (base : Origin) (number : ℕ) → wants (length kept.rows) number ≡ true
    → slice_get (left_by wants kept base).states number ≡ slice_get kept.states number
left_each wants kept (SourceOf source) number wanted = refl
left_each wants kept (StageOf other) number wanted =
    left_if (wants (length kept.rows) other) kept other number
    (λ none same. true≢false (sym wanted ∙ (ap (wants (length kept.rows)) same ∙ none)))

long_if : (wanted : Bool) (kept : Walk) (other : ℕ) → length (if wanted then kept else without_state kept other).states ≡ length kept.states
long_if true kept other = refl
long_if false kept other = length-set kept.states other None

left_long : (wants : ℕ → ℕ → Bool) (kept : Walk) (base : Origin) → length (left_by wants kept base).states ≡ length kept.states
left_long wants kept (SourceOf source) = refl
left_long wants kept (StageOf other) = long_if (wants (length kept.rows) other) kept other

rows_if : (wanted : Bool) (kept : Walk) (other : ℕ) → (if wanted then kept else without_state kept other).rows ≡ kept.rows
rows_if true kept other = refl
rows_if false kept other = refl

left_rows : (wants : ℕ → ℕ → Bool) (kept : Walk) (base : Origin) → (left_by wants kept base).rows ≡ kept.rows
left_rows wants kept (SourceOf source) = refl
left_rows wants kept (StageOf other) = rows_if (wants (length kept.rows) other) kept other

names_if : (wanted : Bool) (kept : Walk) (other : ℕ) → (if wanted then kept else without_state kept other).names ≡ kept.names
names_if true kept other = refl
names_if false kept other = refl

left_names : (wants : ℕ → ℕ → Bool) (kept : Walk) (base : Origin) → (left_by wants kept base).names ≡ kept.names
left_names wants kept (SourceOf source) = refl
left_names wants kept (StageOf other) = names_if (wants (length kept.rows) other) kept other

-- what is kept once a stage has begun: all that is wanted after it
record IsLeft (needed : List Bool) (stages : List ResolvedStage) (target from : ℕ) (walk left : Walk) : Type 0 where
  rows : left.rows ≡ walk.rows
  names : left.names ≡ walk.names
  long : length walk.rows ≡ from
  states_long : length walk.states ≡ from
  left_states_long : length left.states ≡ from
  each : (number : ℕ) → IsWanted needed stages target (suc from) number → slice_get left.states number ≡ slice_get walk.states number

is_left : (wants : ℕ → ℕ → Bool) (needed : List Bool) (stages : List ResolvedStage) (target from : ℕ) (walk kept : Walk) (base : Origin) → TellsWanted needed stages target wants
    → IsKept needed stages target from walk kept → IsLeft needed stages target from walk (left_by wants kept base)
is_left wants needed stages target from walk kept base tells is = record {
  rows = left_rows wants kept base ∙ is.rows;
  names = left_names wants kept base ∙ is.names;
  long = is.long;
  states_long = is.states_long;
  left_states_long = left_long wants kept base ∙ is.kept_long;
  each = λ number wanted.
      let at : length kept.rows ≡ from = ap length is.rows ∙ is.long in
      left_each wants kept base number (ap (λ n. wants n number) at ∙ tells from number wanted)
      ∙ is.each number (still_wanted needed stages target from number wanted);
}

-- one stage more

none_kept : (needed : List Bool) (stages : List ResolvedStage) (target from : ℕ) (walk left : Walk) → IsLeft needed stages target from walk left
    → IsKept needed stages target (suc from) (with_none walk) (with_none left)
none_kept needed stages target from walk left is = record {
  rows = ap (λ rows. rows ++ None ∷ []) is.rows;
  names = is.names;
  long = one_longer walk.rows None from is.long;
  states_long = one_longer walk.states None from is.states_long;
  kept_long = one_longer left.states None from is.left_states_long;
  each = λ number wanted. more_same left.states walk.states None None number (is.left_states_long ∙ sym is.states_long) (is.each number wanted) (λ e. refl);
}

stage_kept : (wants : ℕ → ℕ → Bool) (needed : List Bool) (stages : List ResolvedStage) (target from : ℕ) (walk left : Walk) (stage : ResolvedStage) (p : Progress) → TellsWanted needed stages target wants
    → IsLeft needed stages target from walk left → IsKept needed stages target (suc from) (with_stage walk stage p) (with_kept wants left stage p)
stage_kept wants needed stages target from walk left stage p tells is =
    let at : length left.rows ≡ from = ap length is.rows ∙ is.long in
    record {
      rows = ap (λ rows. rows ++ Some (record { line = stage.line; base = stage.base; steps = p.steps }) ∷ []) is.rows;
      names = refl;
      long = one_longer walk.rows _ from is.long;
      states_long = one_longer walk.states _ from is.states_long;
      kept_long = one_longer left.states _ from is.left_states_long;
      each = λ number wanted.
          more_same left.states walk.states (state_if (wants (length left.rows) (length left.rows)) p.state) (Some p.state) number
          (is.left_states_long ∙ sym is.states_long) (is.each number wanted)
          (λ e.
          let own : number ≡ from = e ∙ is.left_states_long in
          ap (λ b. state_if b p.state) (ap (λ n. wants n n) at ∙ (ap (wants from) (sym own) ∙ tells from number wanted)));
    }

-- what goes on with all stages, and with what is kept of them

abbrev pub Alike : List Bool → List ResolvedStage → ℕ → ℕ → Result Walk Rejection → Result Walk Rejection → Type 0
Alike needed stages target from (Ok walk) (Ok kept) = IsKept needed stages target from walk kept
Alike needed stages target from (Ok walk) (Err refusal) = ⊥
Alike needed stages target from (Err refusal) (Ok kept) = ⊥
Alike needed stages target from (Err refusal) (Err other) = refusal ≡ other

ended_alike : (wants : ℕ → ℕ → Bool) (needed : List Bool) (stages : List ResolvedStage) (target from : ℕ) (walk left : Walk) (stage : ResolvedStage) (r : Result Progress Rejection) → TellsWanted needed stages target wants
    → IsLeft needed stages target from walk left → Alike needed stages target (suc from) (with_ended walk stage r) (kept_ended wants left stage r)
ended_alike wants needed stages target from walk left stage (Ok p) tells is = stage_kept wants needed stages target from walk left stage p tells is
ended_alike wants needed stages target from walk left stage (Err refusal) tells is = refl

due_alike : (needed : List Bool) (stages : List ResolvedStage) (target from : ℕ) (due : Option Reason) (line : ℕ) (one other : Result Walk Rejection) → Alike needed stages target from one other
    → Alike needed stages target from (unless_due due line one) (unless_due due line other)
due_alike needed stages target from None line one other alike = alike
due_alike needed stages target from (Some why) line one other alike = refl

-- what a stage that has begun with this gives, with these images named before it
abbrev from_begun : Values → Values → (ℕ → ℕ → Bool) → Walk → ResolvedStage → ImageNames → State → Result Walk Rejection
from_begun args outer wants left stage names state =
    unless_due (reason (many_codes (with_origin names stage.base)) None) stage.line
    (kept_ended wants left stage (instructions_from args outer (Ok (begun_with state (with_origin names stage.base))) stage.instructions))

stage_alike : (args outer : Values) (images : ImagesValue Config) (wants : ℕ → ℕ → Bool) (needed : List Bool) (stages : List ResolvedStage) (target from : ℕ) (walk kept : Walk) (stage : ResolvedStage)
    → TellsWanted needed stages target wants → IsKept needed stages target from walk kept → slice_get stages from ≡ Some stage → is_marked needed from ≡ true
    → Alike needed stages target (suc from) (stage_from args outer images walk stage) (kept_stage args outer images wants kept stage)
stage_alike args outer images wants needed stages target from walk kept stage tells is there marked =
    let left = left_by wants kept stage.base in
    let still = is_left wants needed stages target from walk kept stage.base tells is in
    let here = start_of images needed stages target from walk kept stage stage.base refl is there marked in
    subst (λ (names : ImageNames). Alike needed stages target (suc from) (stage_from args outer images walk stage) (from_begun args outer wants left stage names (start images kept.states stage.base)))
    (sym still.names)
    (subst (λ (state : State). Alike needed stages target (suc from) (stage_from args outer images walk stage) (from_begun args outer wants left stage walk.names state))
    (sym here)
    (due_alike needed stages target (suc from) (reason (many_codes (with_origin walk.names stage.base)) None) stage.line _ _
    (ended_alike wants needed stages target from walk left stage (instructions_from args outer (Ok (begun images walk stage)) stage.instructions) tells still)))

as_left : (needed : List Bool) (stages : List ResolvedStage) (target from : ℕ) (walk kept : Walk) → IsKept needed stages target from walk kept → IsLeft needed stages target from walk kept
as_left needed stages target from walk kept is = record {
  rows = is.rows;
  names = is.names;
  long = is.long;
  states_long = is.states_long;
  left_states_long = is.kept_long;
  each = λ number wanted. is.each number (still_wanted needed stages target from number wanted);
}

by_mark : (needed : List Bool) (stages : List ResolvedStage) (target from : ℕ) (here mark other : Bool) (one more : Result Walk Rejection) (walk kept : Walk) → mark ≡ here → other ≡ here
    → (here ≡ true → Alike needed stages target from one more) → IsKept needed stages target from walk kept
    → Alike needed stages target from (if mark then one else Ok walk) (if other then more else Ok kept)
by_mark needed stages target from true true true one more walk kept e f alike is = alike refl
by_mark needed stages target from false false false one more walk kept e f alike is = is
by_mark needed stages target from true true false one more walk kept e f alike is = absurd (true≢false (sym f))
by_mark needed stages target from true false other one more walk kept e f alike is = absurd (true≢false (sym e))
by_mark needed stages target from false true other one more walk kept e f alike is = absurd (true≢false e)
by_mark needed stages target from false false true one more walk kept e f alike is = absurd (true≢false f)

next_alike : (args outer : Values) (images : ImagesValue Config) (wants : ℕ → ℕ → Bool) (needed : List Bool) (stages : List ResolvedStage) (target from : ℕ) (walk kept : Walk) (stage : ResolvedStage)
    → TellsWanted needed stages target wants → IsKept needed stages target from walk kept → slice_get stages from ≡ Some stage
    → Alike needed stages target (suc from) (next_stage args outer images needed walk stage) (kept_next args outer images needed wants kept stage)
next_alike args outer images wants needed stages target from walk kept stage tells is there =
    by_mark needed stages target (suc from) (is_marked needed from) (is_marked needed (length walk.rows)) (is_marked needed (length kept.rows))
    (stage_from args outer images walk stage) (kept_stage args outer images wants kept stage) (with_none walk) (with_none kept)
    (ap (is_marked needed) is.long) (ap (is_marked needed) (ap length is.rows ∙ is.long))
    (λ marked. stage_alike args outer images wants needed stages target from walk kept stage tells is there marked)
    (none_kept needed stages target from walk kept (as_left needed stages target from walk kept is))

-- stages one after another

one_alike : (args outer : Values) (images : ImagesValue Config) (wants : ℕ → ℕ → Bool) (needed : List Bool) (stages : List ResolvedStage) (target from : ℕ) (one other : Result Walk Rejection) (stage : ResolvedStage)
    → TellsWanted needed stages target wants → Alike needed stages target from one other → slice_get stages from ≡ Some stage
    → Alike needed stages target (suc from) (one_more (next_stage args outer images needed) one stage) (one_more (kept_next args outer images needed wants) other stage)
one_alike args outer images wants needed stages target from (Ok walk) (Ok kept) stage tells alike there = next_alike args outer images wants needed stages target from walk kept stage tells alike there
one_alike args outer images wants needed stages target from (Ok walk) (Err refusal) stage tells alike there = absurd alike
one_alike args outer images wants needed stages target from (Err refusal) (Ok kept) stage tells alike there = absurd alike
one_alike args outer images wants needed stages target from (Err refusal) (Err other) stage tells alike there = alike

-- these are the stages from this one on
abbrev AreFrom : List ResolvedStage → ℕ → List ResolvedStage → Type 0
AreFrom stages from later = (k : ℕ) → slice_get stages (k + from) ≡ slice_get later k

first_there : (stages : List ResolvedStage) (from : ℕ) (stage : ResolvedStage) (later : List ResolvedStage) → AreFrom stages from (stage ∷ later) → slice_get stages from ≡ Some stage
first_there stages from stage later are = ap (slice_get stages) (omega arith) ∙ are 0

are_next : (stages : List ResolvedStage) (from : ℕ) (stage : ResolvedStage) (later : List ResolvedStage) → AreFrom stages from (stage ∷ later) → AreFrom stages (suc from) later
are_next stages from stage later are k = ap (slice_get stages) (omega arith) ∙ are (suc k)

all_alike : (args outer : Values) (images : ImagesValue Config) (wants : ℕ → ℕ → Bool) (needed : List Bool) (stages : List ResolvedStage) (target from : ℕ) (one other : Result Walk Rejection) (later : List ResolvedStage)
    → TellsWanted needed stages target wants → Alike needed stages target from one other → AreFrom stages from later
    → Alike needed stages target (length later + from) (all_from (next_stage args outer images needed) one later) (all_from (kept_next args outer images needed wants) other later)
all_alike args outer images wants needed stages target from one other [] tells alike are = subst (λ n. Alike needed stages target n one other) (omega arith) alike
all_alike args outer images wants needed stages target from one other (stage ∷ later) tells alike are =
    subst (λ n.
    Alike needed stages target n (all_from (next_stage args outer images needed) (one_more (next_stage args outer images needed) one stage) later)
    (all_from (kept_next args outer images needed wants) (one_more (kept_next args outer images needed wants) other stage) later))
    (omega arith)
    (all_alike args outer images wants needed stages target (suc from) (one_more (next_stage args outer images needed) one stage) (one_more (kept_next args outer images needed wants) other stage) later
    tells (one_alike args outer images wants needed stages target from one other stage tells alike (first_there stages from stage later are)) (are_next stages from stage later are))

no_stage_kept : (needed : List Bool) (stages : List ResolvedStage) (target : ℕ) → IsKept needed stages target 0 no_stage no_stage
no_stage_kept needed stages target = record { rows = refl; names = refl; long = refl; states_long = refl; kept_long = refl; each = λ number wanted. refl }

pub stages_alike : (args outer : Values) (images : ImagesValue Config) (wants : ℕ → ℕ → Bool) (needed : List Bool) (stages : List ResolvedStage) (target : ℕ) → TellsWanted needed stages target wants
    → Alike needed stages target (length stages) (stages_from args outer images needed (Ok no_stage) stages) (kept_from args outer images needed wants (Ok no_stage) stages)
stages_alike args outer images wants needed stages target tells =
    subst (λ n. Alike needed stages target n (stages_from args outer images needed (Ok no_stage) stages) (kept_from args outer images needed wants (Ok no_stage) stages))
    (omega arith)
    (all_alike args outer images wants needed stages target 0 (Ok no_stage) (Ok no_stage) stages tells (no_stage_kept needed stages target)
    (λ k. ap (slice_get stages) (omega arith)))

-- the walk that goes on after a refusal

lost_same : (needed : List Bool) (stages : List ResolvedStage) (target from : ℕ) (walk kept : Walk) (stage : ResolvedStage) (base : Origin) → stage.base ≡ base
    → IsKept needed stages target from walk kept → slice_get stages from ≡ Some stage → is_marked needed from ≡ true → is_base_lost needed kept.states base ≡ is_base_lost needed walk.states base
lost_same needed stages target from walk kept stage (SourceOf source) e is there marked = refl
lost_same needed stages target from walk kept stage (StageOf number) e is there marked =
    ap (λ left. is_marked needed number && leaves_nothing left) (is.each number (base_wanted needed stages target from number stage there marked e))

by_loss : (needed : List Bool) (stages : List ResolvedStage) (target from : ℕ) (lost other : Bool) (walk kept : Walk) (one more : Result Walk Rejection) → lost ≡ other → IsKept needed stages target from walk kept
    → Alike needed stages target from one more → Alike needed stages target from (if lost then Ok walk else one) (if other then Ok kept else more)
by_loss needed stages target from true true walk kept one more e is alike = is
by_loss needed stages target from false false walk kept one more e is alike = alike
by_loss needed stages target from true false walk kept one more e is alike = absurd (true≢false e)
by_loss needed stages target from false true walk kept one more e is alike = absurd (true≢false (sym e))

-- where nothing is evaluated it doesn't matter what is lost
left_out : (needed : List Bool) (stages : List ResolvedStage) (target from : ℕ) (lost other : Bool) (walk kept : Walk) (one more : Result Walk Rejection) → IsKept needed stages target from walk kept
    → Alike needed stages target from one more → one ≡ Ok walk → more ≡ Ok kept → Alike needed stages target from (if lost then Ok walk else one) (if other then Ok kept else more)
left_out needed stages target from true true walk kept one more is alike e f = is
left_out needed stages target from false false walk kept one more is alike e f = alike
left_out needed stages target from true false walk kept one more is alike e f = subst (Alike needed stages target from (Ok walk)) (sym f) is
left_out needed stages target from false true walk kept one more is alike e f = subst (λ r. Alike needed stages target from r (Ok kept)) (sym e) is

not_marked : (marked : Bool) (one : Result Walk Rejection) (walk : Walk) → marked ≡ false → (if marked then one else Ok walk) ≡ Ok walk
not_marked true one walk e = absurd (true≢false e)
not_marked false one walk e = refl

judged_by : (args outer : Values) (images : ImagesValue Config) (wants : ℕ → ℕ → Bool) (needed : List Bool) (stages : List ResolvedStage) (target from : ℕ) (walk kept : Walk) (stage : ResolvedStage) (marked : Bool)
    → is_marked needed from ≡ marked → TellsWanted needed stages target wants → IsKept needed stages target from walk kept → slice_get stages from ≡ Some stage
    → Alike needed stages target (suc from) (judged_stage args outer images needed walk stage) (kept_judged args outer images needed wants kept stage)
judged_by args outer images wants needed stages target from walk kept stage true e tells is there =
    by_loss needed stages target (suc from) (is_base_lost needed walk.states stage.base) (is_base_lost needed kept.states stage.base) (with_none walk) (with_none kept)
    (next_stage args outer images needed walk stage) (kept_next args outer images needed wants kept stage)
    (sym (lost_same needed stages target from walk kept stage stage.base refl is there e))
    (none_kept needed stages target from walk kept (as_left needed stages target from walk kept is))
    (next_alike args outer images wants needed stages target from walk kept stage tells is there)
judged_by args outer images wants needed stages target from walk kept stage false e tells is there =
    left_out needed stages target (suc from) (is_base_lost needed walk.states stage.base) (is_base_lost needed kept.states stage.base) (with_none walk) (with_none kept)
    (next_stage args outer images needed walk stage) (kept_next args outer images needed wants kept stage)
    (none_kept needed stages target from walk kept (as_left needed stages target from walk kept is))
    (next_alike args outer images wants needed stages target from walk kept stage tells is there)
    (not_marked (is_marked needed (length walk.rows)) (stage_from args outer images walk stage) (with_none walk) (ap (is_marked needed) is.long ∙ e))
    (not_marked (is_marked needed (length kept.rows)) (kept_stage args outer images wants kept stage) (with_none kept) (ap (is_marked needed) (ap length is.rows ∙ is.long) ∙ e))

judged_alike : (args outer : Values) (images : ImagesValue Config) (wants : ℕ → ℕ → Bool) (needed : List Bool) (stages : List ResolvedStage) (target from : ℕ) (walk kept : Walk) (stage : ResolvedStage)
    → TellsWanted needed stages target wants → IsKept needed stages target from walk kept → slice_get stages from ≡ Some stage
    → Alike needed stages target (suc from) (judged_stage args outer images needed walk stage) (kept_judged args outer images needed wants kept stage)
judged_alike args outer images wants needed stages target from walk kept stage tells is there =
    judged_by args outer images wants needed stages target from walk kept stage (is_marked needed from) refl tells is there

refused_kept : (needed : List Bool) (stages : List ResolvedStage) (target from : ℕ) (walk left : Walk) → IsLeft needed stages target from walk left
    → IsKept needed stages target (suc from) (with_refused walk) (with_refused left)
refused_kept needed stages target from walk left is =
    none_kept needed stages target from (record { rows = walk.rows; states = walk.states; names = [] }) (record { rows = left.rows; states = left.states; names = [] })
    (record { rows = is.rows; names = refl; long = is.long; states_long = is.states_long; left_states_long = is.left_states_long; each = is.each })

after_alike : (needed : List Bool) (stages : List ResolvedStage) (target from : ℕ) (walk left : Walk) (one other : Result Walk Rejection) → IsLeft needed stages target from walk left
    → Alike needed stages target (suc from) one other → IsKept needed stages target (suc from) (after_judged walk one) (after_judged left other)
after_alike needed stages target from walk left (Ok more) (Ok kept) is alike = alike
after_alike needed stages target from walk left (Ok more) (Err refusal) is alike = absurd alike
after_alike needed stages target from walk left (Err refusal) (Ok kept) is alike = absurd alike
after_alike needed stages target from walk left (Err refusal) (Err other) is alike = refused_kept needed stages target from walk left is

refusals_same : (needed : List Bool) (stages : List ResolvedStage) (target from : ℕ) (one other : Result Walk Rejection) → Alike needed stages target from one other → refusals_in other ≡ refusals_in one
refusals_same needed stages target from (Ok walk) (Ok kept) alike = refl
refusals_same needed stages target from (Ok walk) (Err refusal) alike = absurd alike
refusals_same needed stages target from (Err refusal) (Ok kept) alike = absurd alike
refusals_same needed stages target from (Err refusal) (Err other) alike = ap (λ (r : Rejection). r ∷ []) (sym alike)

all_refusals : (args outer : Values) (images : ImagesValue Config) (wants : ℕ → ℕ → Bool) (needed : List Bool) (stages : List ResolvedStage) (target from : ℕ) (walk kept : Walk) (later : List ResolvedStage)
    → TellsWanted needed stages target wants → IsKept needed stages target from walk kept → AreFrom stages from later
    → kept_refusals args outer images needed wants kept later ≡ refusals_after args outer images needed walk later
all_refusals args outer images wants needed stages target from walk kept [] tells is are = refl
all_refusals args outer images wants needed stages target from walk kept (stage ∷ later) tells is are =
    let one = judged_stage args outer images needed walk stage in
    let other = kept_judged args outer images needed wants kept stage in
    let left = left_by wants kept stage.base in
    let alike = judged_alike args outer images wants needed stages target from walk kept stage tells is (first_there stages from stage later are) in
    let after =
    after_alike needed stages target from walk left one other (is_left wants needed stages target from walk kept stage.base tells is) alike in
    ap (λ (first : List Rejection). first ++ kept_refusals args outer images needed wants (after_judged left other) later) (refusals_same needed stages target (suc from) one other alike)
    ∙ ap (λ (more : List Rejection). refusals_in one ++ more)
    (all_refusals args outer images wants needed stages target (suc from) (after_judged walk one) (after_judged left other) later tells after (are_next stages from stage later are))

pub refusals_alike : (args outer : Values) (images : ImagesValue Config) (wants : ℕ → ℕ → Bool) (needed : List Bool) (stages : List ResolvedStage) (target : ℕ) → TellsWanted needed stages target wants
    → kept_refusals args outer images needed wants no_stage stages ≡ refusals_after args outer images needed no_stage stages
refusals_alike args outer images wants needed stages target tells =
    all_refusals args outer images wants needed stages target 0 no_stage no_stage stages tells (no_stage_kept needed stages target) (λ k. ap (slice_get stages) (omega arith))
