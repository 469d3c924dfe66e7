-- What holds after some stages: of the rows, of what the stages leave, and of the images that are named.
use Rattle.std.specs.Prelude.{◌≡◌, ◌≤◌, ◌<◌, ◌+◌, ℕ, zero, suc, Bool, true, false, List, [], ◌∷◌, ◌++◌, map, Option, Some, None, Result, Ok, Err, Contains, length, nat_lt, slice_get, slice_index_or, refl, if◌then◌else◌}
use Rattle.std.specs.List.{All, list_all}
use Rattle.std.specs.FinMap.{get}
use Rattle.std.proofs.Common.{sym, ◌∙◌, ap, subst, arith, append_assoc, append-nil, length-append, inl, inr}
use Rattle.std.proofs.lemmas.Bool.{cases_lt, true≢false}
use Rattle.std.proofs.lemmas.List.Elements.{All-nil, All-cons, All-head, All-tail, All-push, All-weaker, All-contains_itself, Contains-append_left, Contains-append_right}
use Rattle.plain.specs.Limits.{most_images}
use Rattle.plain.specs.Marks.{is_marked}
use Rattle.expand.specs.declared.reason.Rejection.{Rejection}
use Rattle.llb.specs.Places.{IsLine}
use Rattle.llb.specs.declared.op.Source.{Source}
use Rattle.llb.specs.declared.op.Source.TheVariants.{Scratch, Context, Image}
use Rattle.plans.specs.Images.{ImagesValue}
use Rattle.plans.specs.declared.images.Image as image
use Rattle.rows.specs.Rows.{Rows, listed}
use Rattle.rows.specs.WellFormed.{IsNamed, IsRow, IsStep, IsWellFormed, NamesOnly, RowNames, row_steps, count_of_steps}
use Rattle.rows.specs.declared.row.Action.{Action}
use Rattle.rows.specs.declared.row.Action.TheVariants.{Run, Copy, MakeDirs}
use Rattle.rows.specs.declared.row.Origin.{Origin}
use Rattle.rows.specs.declared.row.Origin.TheVariants.{Source as SourceOf, Stage as StageOf}
use Rattle.rows.specs.declared.row.Stage.{Stage}
use Rattle.rows.specs.declared.row.Step.{Step}
use Rattle.scopes.specs.Evaluate.{Values, declaration_of}
use Rattle.plain.specs.VariableName.{is_variable_name}
use Rattle.scopes.specs.Scope.{kept, names_in}
use Rattle.stages.specs.Needed.{origins_in, stage_origins}
use Rattle.stages.specs.Table.{IsBefore, IsResolved, IsStage, stage_lines, lines_of}
use Rattle.instructions.specs.Reason.{reason}
use Rattle.stages.specs.declared.stage.ResolvedInstruction.{ResolvedInstruction}
use Rattle.stages.specs.declared.stage.ResolvedStage.{ResolvedStage}
use Rattle.imageconfig.specs.Environment.{IsEnvironment, variables_of}
use Rattle.imageconfig.specs.Rows.{Row, names_of}
use Rattle.imageconfig.specs.declared.config.Config.{Config}
use Rattle.evaluation.specs.Evaluated.{no_stage}
use Rattle.evaluation.specs.Images.{with_origin, many_codes}
use Rattle.evaluation.specs.PrivateNames.{HasNames, HasFoundNames, IsProperSource, IsProperBase}
use Rattle.evaluation.specs.Stages.{instructions_from, begun, with_stage, with_ended, with_none, stage_from, next_stage, stages_from}
use Rattle.evaluation.specs.State.{image_state, found_state, ended_state, source_state, start}
use Rattle.evaluation.specs.declared.stage.Progress.{Progress}
use Rattle.evaluation.specs.declared.state.State.{State}
use Rattle.evaluation.specs.declared.walk.Walk.{Walk}
use Rattle.evaluation.proofs.FoldFacts.{not_due, went, refused_or_ok}
use Rattle.evaluation.proofs.ReasonFacts.{few_is}
use Rattle.evaluation.proofs.ImageFacts.{few_named}
use Rattle.evaluation.proofs.LawFacts.{Laws, IsHeld}
use Rattle.evaluation.proofs.KeptFacts.{StageKept, stage_kept, base_held, base_still}

-- elements of a list with one more

get-last : {X : Type 0} (xs : List X) (x : X) → slice_get (xs ++ x ∷ []) (length xs) ≡ Some x
get-last [] x = refl
get-last (y ∷ ys) x = get-last ys x

get-before : {X : Type 0} (xs ys : List X) (n : ℕ) (x : X) → slice_get xs n ≡ Some x → slice_get (xs ++ ys) n ≡ Some x
get-before [] ys n x e = absurd cc
get-before (y ∷ xs) ys zero x e = e
get-before (y ∷ xs) ys (suc n) x e = get-before xs ys n x e

-- each element of a list with one more after those before it
each-more : {X : Type 0} (P : List X → X → Type 0) (xs : List X) (x : X) → ((before after : List X) (y : X) → xs ≡ before ++ y ∷ after → P before y) → P xs x
    → (before after : List X) (y : X) → xs ++ x ∷ [] ≡ before ++ y ∷ after → P before y
each-more P [] x each last [] after y e = (let same : x ≡ y = cc in subst (P []) same last)
each-more P [] x each last (b ∷ []) after y e = absurd cc
each-more P [] x each last (b ∷ c ∷ before) after y e = absurd cc
each-more P (w ∷ xs) x each last [] after y e = (let same : w ≡ y = cc in subst (P []) same (each [] xs w refl))
each-more P (w ∷ xs) x each last (b ∷ before) after y e =
    let same : w ≡ b = cc in
    let rest : xs ++ x ∷ [] ≡ before ++ y ∷ after = cc in
    subst (λ z. P (z ∷ before) y) same
    (each-more (λ bs z. P (w ∷ bs) z) xs x (λ bs zs z is. each (w ∷ bs) zs z (ap (λ l. w ∷ l) is)) last before after y rest)

formed-more : (rows : Rows) (row : Option Stage) → IsWellFormed rows → IsRow rows row → IsWellFormed (rows ++ row ∷ [])
formed-more rows row formed is before after r e = each-more IsRow rows row (λ bs zs z same. formed bs zs z same) is before after r e

steps-more : (rows : Rows) (row : Option Stage) → count_of_steps (rows ++ row ∷ []) ≡ count_of_steps rows + row_steps row
steps-more [] row = omega arith
steps-more (first ∷ rows) row = (let rest = steps-more rows row in omega (arith, rest))

lines-more : (stages : List ResolvedStage) (stage : ResolvedStage) → length (lines_of (stages ++ stage ∷ [])) ≡ length (lines_of stages) + suc (length stage.instructions)
lines-more [] stage = (let long = length-append (stage_lines stage) [] in let same = map-long stage.instructions in omega (arith, long, same))
  where
    map-long : (rs : List ResolvedInstruction) → length (map (λ (r : ResolvedInstruction). r.instruction.line) rs) ≡ length rs
    map-long [] = refl
    map-long (r ∷ rs) = ap suc (map-long rs)
lines-more (first ∷ stages) stage =
    let rest = lines-more stages stage in
    let long = length-append (stage_lines first) (lines_of (stages ++ stage ∷ [])) in
    let short = length-append (stage_lines first) (lines_of stages) in
    omega (arith, rest, long, short)

-- all of two sorts
both : {X : Type 0} (P Q : X → Type 0) (xs : List X) → All P xs → All Q xs → All (λ x. P x × Q x) xs
both P Q xs ps qs k d within = (ps k d within, qs k d within)

all_contained : {X : Type 0} (P Q : X → Type 0) (xs : List X) → All P xs → ((x : X) → P x → Contains xs x → Q x) → All Q xs
all_contained P Q xs ps f k d within = f _ (ps k d within) (All-contains_itself xs k d within)

origins_contained : (P Q : Origin → Type 0) (rs : List ResolvedInstruction) → All (λ (r : ResolvedInstruction). All P r.origins) rs → ((o : Origin) → P o → Contains (origins_in rs) o → Q o)
    → All (λ (r : ResolvedInstruction). All Q r.origins) rs
origins_contained P Q [] ps f = All-nil (λ (r : ResolvedInstruction). All Q r.origins)
origins_contained P Q (r ∷ rs) ps f =
    All-cons (λ (r' : ResolvedInstruction). All Q r'.origins) r rs
    (all_contained P Q r.origins (All-head (λ (r' : ResolvedInstruction). All P r'.origins) r rs ps) (λ o p at. f o p (Contains-append_left r.origins (origins_in rs) o at)))
    (origins_contained P Q rs (All-tail (λ (r' : ResolvedInstruction). All P r'.origins) r rs ps) (λ o p at. f o p (Contains-append_right r.origins (origins_in rs) o at)))

-- refusals

abbrev well_of : Walk → Result Walk Rejection
well_of walk = Ok walk

same_ok : (a b : Walk) → well_of a ≡ well_of b → a ≡ b
same_ok a b e = cc

-- what a stage begins with

abbrev pub HasEndNames : Option State → Type 0
HasEndNames None = Unit {0}
HasEndNames (Some state) = HasNames state

declared_names : (rows : List Row) → names_in (map declaration_of (variables_of rows)) ≡ names_of rows
declared_names [] = refl
declared_names (row ∷ rows) = ap (λ ns. row.0 ∷ ns) (declared_names rows)

image_names : Laws → (config : Config) → IsEnvironment config.env → HasNames (image_state config)
image_names laws config is =
    laws.kept_names is_variable_name (map declaration_of (variables_of config.env)) (ap (list_all is_variable_name) (declared_names config.env) ∙ is.fit)

found_names : Laws → (found : Option (image.Image Config)) → HasFoundNames found → HasNames (found_state found)
found_names laws None is = refl
found_names laws (Some found) is = image_names laws found.config is

source_names : Laws → (images : ImagesValue Config) (source : Source) → IsProperSource images source → HasNames (source_state images source)
source_names laws images Scratch is = refl
source_names laws images Context is = refl
source_names laws images (Image name) is = found_names laws (get images name) is

ended_names : (state : Option State) → HasEndNames state → HasNames (ended_state state)
ended_names None is = refl
ended_names (Some state) is = is

none_names : (states : List (Option State)) (number : ℕ) → All HasEndNames states → HasEndNames (slice_index_or states number None)
none_names [] number are = tt
none_names (state ∷ states) zero are = All-head HasEndNames state states are
none_names (state ∷ states) (suc number) are = none_names states number (All-tail HasEndNames state states are)

start_names : Laws → (images : ImagesValue Config) (states : List (Option State)) (base : Origin) → IsProperBase images base → All HasEndNames states → HasNames (start images states base)
start_names laws images states (SourceOf source) is are = source_names laws images source is
start_names laws images states (StageOf number) is are = ended_names (slice_index_or states number None) (none_names states number are)

-- what holds after some stages, of which those with these marks are needed; K is what is known of all that they name

pub record StageFits (K : Origin → Type 0) (images : ImagesValue Config) (needed : List Bool) (number : ℕ) (stage : ResolvedStage) : Type 0 where
  pub is : IsStage number stage
  pub proper : IsProperBase images stage.base
  pub known_base : K stage.base
  pub known_origins : All (λ (r : ResolvedInstruction). All K r.origins) stage.instructions
  pub line : IsLine stage.line
  pub lines : All (λ (r : ResolvedInstruction). IsLine r.instruction.line) stage.instructions
  pub leads : is_marked needed number ≡ true → (to : ℕ) → Contains (stage_origins stage) (StageOf to) → is_marked needed to ≡ true

pub record WalkKept (K : Origin → Type 0) (needed : List Bool) (stages : List ResolvedStage) (walk : Walk) : Type 0 where
  pub long : length walk.rows ≡ length stages
  pub marked : (number : ℕ) → number < length stages → is_marked needed number ≡ true → (stage : Stage) × (slice_get walk.rows number ≡ Some (Some stage))
  pub formed : IsWellFormed walk.rows
  pub names : All HasEndNames walk.states
  pub count : count_of_steps walk.rows + length stages ≤ length (lines_of stages)
  pub few : length walk.names ≤ most_images
  pub held : All (RowNames (λ o. K o × IsHeld walk.names o)) walk.rows

pub kept_none : (K : Origin → Type 0) (needed : List Bool) → WalkKept K needed [] no_stage
kept_none K needed = record {
  long = refl;
  marked = λ number below is. absurd (omega (arith, below));
  formed = λ before after row e. none_formed before after row e;
  names = All-nil HasEndNames;
  count = omega arith;
  few = omega arith;
  held = All-nil (RowNames (λ o. K o × IsHeld [] o));
}
  where
    none_formed : (before after : Rows) (row : Option Stage) → [] ≡ before ++ row ∷ after → IsRow before row
    none_formed [] after row e = absurd cc
    none_formed (b ∷ before) after row e = absurd cc

-- a stage more

marked_more : (K : Origin → Type 0) (needed : List Bool) (stages : List ResolvedStage) (walk : Walk) (stage : ResolvedStage) (row : Option Stage) → WalkKept K needed stages walk
    → (is_marked needed (length stages) ≡ true → (s : Stage) × (row ≡ Some s))
    → (number : ℕ) → number < length (stages ++ stage ∷ []) → is_marked needed number ≡ true → (s : Stage) × (slice_get (walk.rows ++ row ∷ []) number ≡ Some (Some s))
marked_more K needed stages walk stage row kept last number below is = elim (cases_lt number (length stages)) [
  | inl before ↦
      let found = kept.marked number before is in
      (found.0, get-before walk.rows (row ∷ []) number (Some found.0) found.1)
  | inr past ↦
      let long = length-append stages (stage ∷ []) in
      let here : number ≡ length stages = omega (arith, long, below, past) in
      let found = last (subst (λ n. is_marked needed n ≡ true) here is) in
      (found.0, subst (λ n. slice_get (walk.rows ++ row ∷ []) n ≡ Some (Some found.0)) (kept.long ∙ sym here) (get-last walk.rows row ∙ ap Some found.1))
]

long_more : {X Y : Type 0} (xs : List X) (ys : List Y) (x : X) (y : Y) → length xs ≡ length ys → length (xs ++ x ∷ []) ≡ length (ys ++ y ∷ [])
long_more xs ys x y same = (let a = length-append xs (x ∷ []) in let b = length-append ys (y ∷ []) in omega (arith, a, b, same))

count_more : (K : Origin → Type 0) (needed : List Bool) (stages : List ResolvedStage) (walk : Walk) (stage : ResolvedStage) (row : Option Stage) → WalkKept K needed stages walk
    → row_steps row ≤ length stage.instructions → count_of_steps (walk.rows ++ row ∷ []) + length (stages ++ stage ∷ []) ≤ length (lines_of (stages ++ stage ∷ []))
count_more K needed stages walk stage row kept few =
    let steps = steps-more walk.rows row in
    let lines = lines-more stages stage in
    let long = length-append stages (stage ∷ []) in
    let before = kept.count in
    omega (arith, steps, lines, long, before, few)

left_out : (K : Origin → Type 0) (needed : List Bool) (stages : List ResolvedStage) (walk : Walk) (stage : ResolvedStage) → WalkKept K needed stages walk → is_marked needed (length stages) ≡ false
    → WalkKept K needed (stages ++ stage ∷ []) (with_none walk)
left_out K needed stages walk stage kept unmarked = record {
  long = long_more walk.rows stages None stage kept.long;
  marked = marked_more K needed stages walk stage None kept (λ is. absurd (true≢false (sym is ∙ unmarked)));
  formed = formed-more walk.rows None kept.formed tt;
  names = All-push HasEndNames walk.states None kept.names tt;
  count = count_more K needed stages walk stage None kept (omega arith);
  few = kept.few;
  held = All-push (RowNames (λ o. K o × IsHeld walk.names o)) walk.rows None kept.held tt;
}

-- a needed stage

names_weaker : (P Q : Origin → Type 0) → ((o : Origin) → P o → Q o) → (s : Step) → NamesOnly P s.action → NamesOnly Q s.action
names_weaker P Q f s are = by s.action are
  where
    by : (a : Action) → NamesOnly P a → NamesOnly Q a
    by (Run exec from) are' = All-weaker P Q f from are'
    by (Copy files from linked) are' = All-weaker P Q f (listed from) are'
    by (MakeDirs path) are' = tt

pub row_weaker : (P Q : Origin → Type 0) → ((o : Origin) → P o → Q o) → (row : Option Stage) → RowNames P row → RowNames Q row
row_weaker P Q f None are = tt
row_weaker P Q f (Some stage) are = record {
  base = f stage.base are.base;
  steps = All-weaker (λ (s : Step). NamesOnly P s.action) (λ (s : Step). NamesOnly Q s.action) (names_weaker P Q f) stage.steps are.steps;
}

named_one : (K : Origin → Type 0) (needed : List Bool) (stages : List ResolvedStage) (walk : Walk) (stage : ResolvedStage) → WalkKept K needed stages walk
    → ((to : ℕ) → Contains (stage_origins stage) (StageOf to) → is_marked needed to ≡ true)
    → (o : Origin) → IsBefore (length stages) o → Contains (stage_origins stage) o → IsNamed walk.rows o
named_one K needed stages walk stage kept leads (SourceOf source) before at = before
named_one K needed stages walk stage kept leads (StageOf number) before at = kept.marked number before (leads number at)

abbrev stage_row : (stage : ResolvedStage) (p : Progress) → Stage
stage_row stage p = record { line = stage.line; base = stage.base; steps = p.steps }

steps_named : (n : ℕ) (rs : List ResolvedInstruction) (p q : Progress) (P : Origin → Type 0) → StageKept n rs p q → p.steps ≡ [] → All (λ (r : ResolvedInstruction). All P r.origins) rs
    → All (λ (s : Step). NamesOnly P s.action) q.steps
steps_named n rs p q P kept none are = kept.origins P are (subst (All (λ (s : Step). NamesOnly P s.action)) (sym none) (All-nil (λ (s : Step). NamesOnly P s.action)))

with_kept : (K : Origin → Type 0) (images : ImagesValue Config) (needed : List Bool) (stages : List ResolvedStage) (walk : Walk) (stage : ResolvedStage) (p : Progress)
    → WalkKept K needed stages walk → StageFits K images needed (length stages) stage → is_marked needed (length stages) ≡ true → nat_lt most_images (length (with_origin walk.names stage.base)) ≡ false
    → StageKept (length stages) stage.instructions (begun images walk stage) p → WalkKept K needed (stages ++ stage ∷ []) (with_stage walk stage p)
with_kept K images needed stages walk stage p kept fits marked none k =
    let row = stage_row stage p in
    let leads = fits.leads marked in
    let named = named_one K needed stages walk stage kept leads in
    let base_at : Contains (stage_origins stage) stage.base = (0, omega arith, refl) in
    let origins_named : All (λ (r : ResolvedInstruction). All (IsNamed walk.rows) r.origins) stage.instructions =
    origins_contained (IsBefore (length stages)) (IsNamed walk.rows) stage.instructions
    (All-weaker (IsResolved (length stages)) (λ (r : ResolvedInstruction). All (IsBefore (length stages)) r.origins) (λ r is. is.before) stage.instructions fits.is.instructions)
    (λ o before at. named o before (Contains-append_right (stage.base ∷ []) (origins_in stage.instructions) o at)) in
    let still : (o : Origin) → IsHeld walk.names o → IsHeld p.names o = λ o held. k.still o (base_still walk.names stage.base o held) in
    let origins_held : All (λ (r : ResolvedInstruction). All (λ o. K o × IsHeld p.names o) r.origins) stage.instructions =
    λ j d within. both K (IsHeld p.names) _ (fits.known_origins j d within) (k.held j d within) in
    record {
      long = long_more walk.rows stages (Some row) stage kept.long;
      marked = marked_more K needed stages walk stage (Some row) kept (λ is. (row, refl));
      formed = formed-more walk.rows (Some row) kept.formed (
        record { line = fits.line; steps = k.steps },
        record {
          base = named stage.base fits.is.base base_at;
          steps = steps_named (length stages) stage.instructions (begun images walk stage) p (IsNamed walk.rows) k refl origins_named;
        },
      );
      names = All-push HasEndNames walk.states (Some p.state) kept.names k.names;
      count = count_more K needed stages walk stage (Some row) kept (let few = k.count in omega (arith, few));
      few = k.few (few_named (with_origin walk.names stage.base) none);
      held = All-push (RowNames (λ o. K o × IsHeld p.names o)) walk.rows (Some row)
          (All-weaker (RowNames (λ o. K o × IsHeld walk.names o)) (RowNames (λ o. K o × IsHeld p.names o)) (row_weaker (λ o. K o × IsHeld walk.names o) (λ o. K o × IsHeld p.names o) (λ o is. (is.0, still o is.1))) walk.rows kept.held)
          (record {
            base = (fits.known_base, k.still stage.base (base_held walk.names stage.base));
            steps = steps_named (length stages) stage.instructions (begun images walk stage) p (λ o. K o × IsHeld p.names o) k refl origins_held;
          });
    }

record EndedWell (walk : Walk) (stage : ResolvedStage) (ended : Result Progress Rejection) (next : Walk) : Type 0 where
  pub last : Progress
  pub ended_is : ended ≡ Ok last
  pub next_is : with_stage walk stage last ≡ next

ended_well : (walk : Walk) (stage : ResolvedStage) (ended : Result Progress Rejection) (next : Walk) → with_ended walk stage ended ≡ Ok next → EndedWell walk stage ended next
ended_well walk stage (Ok p) next e = record { last = p; ended_is = refl; next_is = same_ok (with_stage walk stage p) next e }
ended_well walk stage (Err refusal) next e = absurd (refused_or_ok refusal next e)

stage_more : Laws → (K : Origin → Type 0) (args outer : Values) (images : ImagesValue Config) (needed : List Bool) (stages : List ResolvedStage) (walk : Walk) (stage : ResolvedStage) (next : Walk)
    → WalkKept K needed stages walk → StageFits K images needed (length stages) stage → is_marked needed (length stages) ≡ true → stage_from args outer images walk stage ≡ Ok next
    → WalkKept K needed (stages ++ stage ∷ []) next
stage_more laws K args outer images needed stages walk stage next kept fits marked e =
    let first = begun images walk stage in
    let ended = instructions_from args outer (Ok first) stage.instructions in
    let well = not_due (reason (many_codes (with_origin walk.names stage.base)) None) stage.line (with_ended walk stage ended) next e in
    let last = ended_well walk stage ended next well.after in
    let k = stage_kept laws args outer (length stages) stage.instructions first last.last fits.is.instructions fits.lines
    (start_names laws images walk.states stage.base fits.proper kept.names) (All-nil IsStep) last.ended_is in
    subst (WalkKept K needed (stages ++ stage ∷ [])) last.next_is (with_kept K images needed stages walk stage last.last kept fits marked (few_is (with_origin walk.names stage.base) well.none) k)

next_by : Laws → (K : Origin → Type 0) (args outer : Values) (images : ImagesValue Config) (needed : List Bool) (stages : List ResolvedStage) (walk : Walk) (stage : ResolvedStage) (next : Walk) (marked : Bool)
    → WalkKept K needed stages walk → StageFits K images needed (length stages) stage → is_marked needed (length stages) ≡ marked
    → (if marked then stage_from args outer images walk stage else Ok (with_none walk)) ≡ Ok next → WalkKept K needed (stages ++ stage ∷ []) next
next_by laws K args outer images needed stages walk stage next true kept fits is e = stage_more laws K args outer images needed stages walk stage next kept fits is e
next_by laws K args outer images needed stages walk stage next false kept fits is e =
    subst (WalkKept K needed (stages ++ stage ∷ [])) (same_ok (with_none walk) next e) (left_out K needed stages walk stage kept is)

next_kept : Laws → (K : Origin → Type 0) (args outer : Values) (images : ImagesValue Config) (needed : List Bool) (stages : List ResolvedStage) (walk : Walk) (stage : ResolvedStage) (next : Walk)
    → WalkKept K needed stages walk → StageFits K images needed (length stages) stage → next_stage args outer images needed walk stage ≡ Ok next → WalkKept K needed (stages ++ stage ∷ []) next
next_kept laws K args outer images needed stages walk stage next kept fits e =
    next_by laws K args outer images needed stages walk stage next (is_marked needed (length walk.rows)) kept fits (ap (is_marked needed) (sym kept.long)) e

get-at : {X : Type 0} (xs ys : List X) (x : X) → slice_get (xs ++ x ∷ ys) (length xs) ≡ Some x
get-at [] ys x = refl
get-at (y ∷ xs) ys x = get-at xs ys x

abbrev pub AllFit : (Origin → Type 0) → ImagesValue Config → List Bool → List ResolvedStage → Type 0
AllFit K images needed stages = (number : ℕ) (stage : ResolvedStage) → slice_get stages number ≡ Some stage → StageFits K images needed number stage

rest_kept : Laws → (K : Origin → Type 0) (args outer : Values) (images : ImagesValue Config) (needed : List Bool) (all before rest : List ResolvedStage) (now last : Walk)
    → AllFit K images needed all → all ≡ before ++ rest → WalkKept K needed before now → stages_from args outer images needed (Ok now) rest ≡ Ok last → WalkKept K needed all last
rest_kept laws K args outer images needed all before [] now last fit split kept e =
    subst (λ ss. WalkKept K needed ss last) (sym (split ∙ append-nil before)) (subst (WalkKept K needed before) (same_ok now last e) kept)
rest_kept laws K args outer images needed all before (stage ∷ rest) now last fit split kept e =
    let w = went (next_stage args outer images needed) (next_stage args outer images needed now stage) rest last e in
    let fits = fit (length before) stage (ap (λ ss. slice_get ss (length before)) split ∙ get-at before rest stage) in
    rest_kept laws K args outer images needed all (before ++ stage ∷ []) rest w.next last fit (split ∙ sym (append_assoc before (stage ∷ []) rest))
    (next_kept laws K args outer images needed before now stage w.next kept fits w.is) w.on

pub walk_kept : Laws → (K : Origin → Type 0) (args outer : Values) (images : ImagesValue Config) (needed : List Bool) (stages : List ResolvedStage) (last : Walk)
    → AllFit K images needed stages → stages_from args outer images needed (Ok no_stage) stages ≡ Ok last → WalkKept K needed stages last
walk_kept laws K args outer images needed stages last fit e = rest_kept laws K args outer images needed stages [] stages no_stage last fit refl (kept_none K needed) e
