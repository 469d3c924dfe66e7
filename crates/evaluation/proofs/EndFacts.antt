-- Each needed stage that was evaluated ends in a state that evaluation comes to.
use Rattle.std.specs.Prelude.{◌≡◌, ◌<◌, ◌≤◌, ◌+◌, ℕ, zero, suc, Bool, true, false, List, [], ◌∷◌, ◌++◌, Option, Some, None, Ok, length, slice_get, slice_index_or, refl, if◌then◌else◌}
use Rattle.std.proofs.Common.{sym, ◌∙◌, ap, subst, arith, append_assoc, length-append, inl, inr}
use Rattle.std.proofs.lemmas.Bool.{cases_lt, true≢false}
use Rattle.std.proofs.lemmas.List.{append-nil}
use Rattle.std.proofs.lemmas.Option.{slice_get_within, slice_get-get_or, get_or_from_slice_get}
use Rattle.plain.specs.Marks.{is_marked}
use Rattle.plans.specs.Images.{ImagesValue}
use Rattle.scopes.specs.Evaluate.{Values}
use Rattle.scopes.specs.Scope.{value_in}
use Rattle.stages.specs.Table.{TableValue}
use Rattle.stages.specs.declared.stage.ResolvedInstruction.{ResolvedInstruction}
use Rattle.stages.specs.declared.stage.ResolvedStage.{ResolvedStage}
use Rattle.imageconfig.specs.declared.config.Config.{Config}
use Rattle.evaluation.specs.Evaluated.{no_stage, evaluated}
use Rattle.evaluation.specs.Reached.{ComesTo}
use Rattle.evaluation.specs.Stages.{instructions_from, begun, with_none, stage_from, next_stage, stages_from}
use Rattle.evaluation.specs.declared.stage.Progress.{Progress}
use Rattle.evaluation.specs.declared.state.State.{State}
use Rattle.evaluation.specs.declared.walk.Walk.{Walk}
use Rattle.evaluation.proofs.FoldFacts.{went, reached_more}
use Rattle.evaluation.proofs.ReachedFacts.{same_ok, stage_made}

-- elements of lists

pub get-at : {X : Type 0} (xs ys : List X) (x : X) → slice_get (xs ++ x ∷ ys) (length xs) ≡ Some x
get-at [] ys x = refl
get-at (y ∷ xs) ys x = get-at xs ys x

get-before : {X : Type 0} (xs ys : List X) (n : ℕ) (x : X) → slice_get xs n ≡ Some x → slice_get (xs ++ ys) n ≡ Some x
get-before [] ys n x e = absurd cc
get-before (y ∷ xs) ys zero x e = e
get-before (y ∷ xs) ys (suc n) x e = get-before xs ys n x e

pub some_same : {X : Type 0} (x y : X) → Some x ≡ Some y → x ≡ y
some_same x y e = cc

-- a stage more

record NextMade (args outer : Values) (images : ImagesValue Config) (needed : List Bool) (walk : Walk) (stage : ResolvedStage) (next : Walk) : Type 0 where
  pub one : Option State
  pub states : next.states ≡ walk.states ++ one ∷ []
  pub rows : length next.rows ≡ length walk.rows + 1
  pub ends : is_marked needed (length walk.rows) ≡ true
      → (last : Progress) × (one ≡ Some last.state) × (instructions_from args outer (Ok (begun images walk stage)) stage.instructions ≡ Ok last)

pushed : {X : Type 0} (xs : List X) (x : X) → length (xs ++ x ∷ []) ≡ length xs + 1
pushed xs x = length-append xs (x ∷ [])

next_by : (args outer : Values) (images : ImagesValue Config) (needed : List Bool) (walk next : Walk) (stage : ResolvedStage) (marked : Bool) → is_marked needed (length walk.rows) ≡ marked
    → (if marked then stage_from args outer images walk stage else Ok (with_none walk)) ≡ Ok next → NextMade args outer images needed walk stage next
next_by args outer images needed walk next stage true is e =
    let made = stage_made args outer images walk stage next e in
    record {
      one = Some made.last.state;
      states = ap (λ (w : Walk). w.states) (sym made.is);
      rows = ap (λ (w : Walk). length w.rows) (sym made.is) ∙ pushed walk.rows (Some (record { line = stage.line; base = stage.base; steps = made.last.steps }));
      ends = λ marked. (made.last, refl, made.went);
    }
next_by args outer images needed walk next stage false is e =
    let same = same_ok (with_none walk) next e in
    record {
      one = None;
      states = ap (λ (w : Walk). w.states) (sym same);
      rows = ap (λ (w : Walk). length w.rows) (sym same) ∙ pushed walk.rows None;
      ends = λ marked. absurd (true≢false (sym marked ∙ is));
    }

next_made_of : (args outer : Values) (images : ImagesValue Config) (needed : List Bool) (walk next : Walk) (stage : ResolvedStage) → next_stage args outer images needed walk stage ≡ Ok next
    → NextMade args outer images needed walk stage next
next_made_of args outer images needed walk next stage e = next_by args outer images needed walk next stage (is_marked needed (length walk.rows)) refl e

-- what earlier stages left stays

stays : (args outer : Values) (images : ImagesValue Config) (needed : List Bool) (stages : List ResolvedStage) (now last : Walk) → stages_from args outer images needed (Ok now) stages ≡ Ok last
    → (number : ℕ) (state : Option State) → slice_get now.states number ≡ Some state → slice_get last.states number ≡ Some state
stays args outer images needed [] now last h number state e = ap (λ (w : Walk). slice_get w.states number) (sym (same_ok now last h)) ∙ e
stays args outer images needed (stage ∷ stages) now last h number state e =
    let step = went (next_stage args outer images needed) (next_stage args outer images needed now stage) stages last h in
    let made = next_made_of args outer images needed now step.next stage step.is in
    stays args outer images needed stages step.next last step.on number state
    (ap (λ (states : List (Option State)). slice_get states number) made.states ∙ get-before now.states (made.one ∷ []) number state e)

-- where a stage ends

pub record Ended (args : Values) (images : ImagesValue Config) (needed : List Bool) (table : TableValue) (number : ℕ) (states : List (Option State)) : Type 0 where
  pub stage : ResolvedStage
  pub stage_there : slice_get table.stages number ≡ Some stage
  pub state : State
  pub there : slice_get states number ≡ Some (Some state)
  pub comes : ComesTo args images needed table number stage.instructions state
  pub stage_is : comes.stage ≡ stage
  pub earlier : (other : ℕ) → other < number → slice_index_or comes.walk.states other None ≡ slice_index_or states other None

record At (args : Values) (images : ImagesValue Config) (needed : List Bool) (table : TableValue) (done : List ResolvedStage) (now : Walk) : Type 0 where
  pub reached : stages_from args (value_in table.outer) images needed (Ok no_stage) done ≡ Ok now
  pub rows : length now.rows ≡ length done
  pub states : length now.states ≡ length done

at_more : (args : Values) (images : ImagesValue Config) (needed : List Bool) (table : TableValue) (done : List ResolvedStage) (now next : Walk) (stage : ResolvedStage) → At args images needed table done now
    → next_stage args (value_in table.outer) images needed now stage ≡ Ok next → At args images needed table (done ++ stage ∷ []) next
at_more args images needed table done now next stage at is =
    let outer = value_in table.outer in
    let made = next_made_of args outer images needed now next stage is in
    let more = pushed done stage in
    let rows_more = made.rows in
    let rows = at.rows in
    let states = at.states in
    let states_more = pushed now.states made.one in
    record {
      reached = reached_more (next_stage args outer images needed) (Ok no_stage) done stage now at.reached ∙ is;
      rows = omega (arith, more, rows_more, rows);
      states = ap (λ (ss : List (Option State)). length ss) made.states ∙ omega (arith, more, states_more, states);
    }

end_here : (args : Values) (images : ImagesValue Config) (needed : List Bool) (table : TableValue) (done left later : List ResolvedStage) (stage : ResolvedStage) (now next last : Walk)
    → table.stages ≡ done ++ stage ∷ (left ++ later) → At args images needed table done now → next_stage args (value_in table.outer) images needed now stage ≡ Ok next
    → stages_from args (value_in table.outer) images needed (Ok next) left ≡ Ok last → is_marked needed (length done) ≡ true → Ended args images needed table (length done) last.states
end_here args images needed table done left later stage now next last split at is on marked =
    let outer = value_in table.outer in
    let made = next_made_of args outer images needed now next stage is in
    let ends = made.ends (ap (is_marked needed) at.rows ∙ marked) in
    let pushed_at : slice_get (now.states ++ made.one ∷ []) (length done) ≡ Some made.one =
    subst (λ (n : ℕ). slice_get (now.states ++ made.one ∷ []) n ≡ Some made.one) at.states (get-at now.states [] made.one) in
    let next_at : slice_get next.states (length done) ≡ Some (Some ends.0.state) =
    ap (λ (ss : List (Option State)). slice_get ss (length done)) made.states ∙ (pushed_at ∙ ap Some ends.1) in
    record {
      stage = stage;
      stage_there = ap (λ (ss : List ResolvedStage). slice_get ss (length done)) split ∙ get-at done (left ++ later) stage;
      state = ends.0.state;
      there = stays args outer images needed left next last on (length done) (Some ends.0.state) next_at;
      comes = record {
        earlier = done;
        stage = stage;
        later = left ++ later;
        stages = split;
        at = refl;
        marked = marked;
        walk = now;
        walked = at.reached;
        rest = [];
        instructions = sym (append-nil stage.instructions);
        progress = ends.0;
        went = ends.2;
        is = refl;
      };
      stage_is = refl;
      earlier = λ other lower.
          let long = at.states in
          let within : other < length now.states = omega (arith, lower, long) in
          let state = slice_index_or now.states other None in
          let before : slice_get now.states other ≡ Some state = slice_get-get_or now.states other None within in
          let after : slice_get next.states other ≡ Some state =
          ap (λ (ss : List (Option State)). slice_get ss other) made.states ∙ get-before now.states (made.one ∷ []) other state before in
          sym (get_or_from_slice_get last.states other state None (stays args outer images needed left next last on other state after));
    }

end_from : (args : Values) (images : ImagesValue Config) (needed : List Bool) (table : TableValue) (done left later : List ResolvedStage) (now last : Walk) (number : ℕ)
    → table.stages ≡ done ++ (left ++ later) → At args images needed table done now → stages_from args (value_in table.outer) images needed (Ok now) left ≡ Ok last
    → length done ≤ number → number < length done + length left → is_marked needed number ≡ true → Ended args images needed table number last.states
end_from args images needed table done [] later now last number split at h from below marked = absurd (omega (arith, from, below))
end_from args images needed table done (stage ∷ left) later now last number split at h from below marked =
    let outer = value_in table.outer in
    let step = went (next_stage args outer images needed) (next_stage args outer images needed now stage) left last h in
    elim (cases_lt (length done) number) [
      | inl on ↦
          let more = pushed done stage in
          end_from args images needed table (done ++ stage ∷ []) left later step.next last number (split ∙ sym (append_assoc done (stage ∷ []) (left ++ later)))
          (at_more args images needed table done now step.next stage at step.is) step.on (omega (arith, more, on)) (omega (arith, more, below)) marked
      | inr past ↦
          let here : length done ≡ number = omega (arith, from, past) in
          subst (λ (n : ℕ). Ended args images needed table n last.states) here
          (end_here args images needed table done left later stage now step.next last split at step.is step.on (subst (λ (n : ℕ). is_marked needed n ≡ true) (sym here) marked))
    ]

pub end_there : (args : Values) (images : ImagesValue Config) (needed : List Bool) (table : TableValue) (done later : List ResolvedStage) (walk : Walk) (number : ℕ)
    → table.stages ≡ done ++ later → stages_from args (value_in table.outer) images needed (Ok no_stage) done ≡ Ok walk → number < length done → is_marked needed number ≡ true
    → Ended args images needed table number walk.states
end_there args images needed table done later walk number split walked within marked =
    let near : number < 0 + length done = omega (arith, within) in
    end_from args images needed table [] done later no_stage walk number split (record { reached = refl; rows = refl; states = refl }) walked (omega arith) near marked

pub ends : (args : Values) (images : ImagesValue Config) (needed : List Bool) (table : TableValue) (walk : Walk) (number : ℕ)
    → evaluated args images needed table ≡ Ok walk → number < length table.stages → is_marked needed number ≡ true → Ended args images needed table number walk.states
ends args images needed table walk number e within marked = end_there args images needed table table.stages [] walk number (sym (append-nil table.stages)) e within marked

-- the stage that evaluation is in

pub comes_stage : (args : Values) (images : ImagesValue Config) (needed : List Bool) (table : TableValue) (number : ℕ) (before : List ResolvedInstruction) (state : State) (stage : ResolvedStage)
    → (comes : ComesTo args images needed table number before state) → slice_get table.stages number ≡ Some stage → comes.stage ≡ stage
comes_stage args images needed table number before state stage comes there =
    let all = comes.earlier ++ comes.stage ∷ comes.later in
    let here : slice_get table.stages number ≡ Some comes.stage =
    ap (λ (ss : List ResolvedStage). slice_get ss number) comes.stages
    ∙ (ap (slice_get all) (sym comes.at) ∙ get-at comes.earlier comes.later comes.stage) in
    some_same comes.stage stage (sym here ∙ there)

pub stage_ends : (args : Values) (images : ImagesValue Config) (needed : List Bool) (table : TableValue) (walk : Walk) (number : ℕ) (stage : ResolvedStage)
    → evaluated args images needed table ≡ Ok walk → is_marked needed number ≡ true → slice_get table.stages number ≡ Some stage
    → (state : State) × (slice_get walk.states number ≡ Some (Some state)) × ComesTo args images needed table number stage.instructions state
stage_ends args images needed table walk number stage e marked there =
    let ended = ends args images needed table walk number e (slice_get_within table.stages number stage there) marked in
    let same : ended.stage ≡ stage = some_same ended.stage stage (sym ended.stage_there ∙ there) in
    (ended.state, ended.there, subst (λ (s : ResolvedStage). ComesTo args images needed table number s.instructions ended.state) same ended.comes)
