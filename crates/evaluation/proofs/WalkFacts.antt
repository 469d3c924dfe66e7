-- A stage after those before it, and all stages one after another.
use Rattle.std.specs.Prelude.{◌≡◌, ℕ, Bool, true, false, List, [], ◌∷◌, ◌++◌, Option, Some, None, Result, Ok, Err, length, nat_lt, refl, if◌then◌else◌}
use Rattle.std.proofs.Common.{sym, ◌∙◌, ap, subst}
use Rattle.plain.specs.Limits.{most_images}
use Rattle.plain.specs.Marks.{is_marked}
use Rattle.plain.specs.declared.fault.Fault.{Fault}
use Rattle.plain.specs.declared.fault.Fault.TheVariants.{Because, Memory}
use Rattle.expand.specs.declared.reason.Reason.{Reason}
use Rattle.expand.specs.declared.reason.Rejection.{Rejection}
use Rattle.plans.specs.Images.{ImagesValue}
use Rattle.rows.specs.declared.row.Origin.{Origin}
use Rattle.rows.specs.declared.row.Stage.{Stage}
use Rattle.scopes.specs.Evaluate.{Values}
use Rattle.stages.specs.declared.stage.ResolvedInstruction.{ResolvedInstruction}
use Rattle.stages.specs.declared.stage.ResolvedStage.{ResolvedStage}
use Rattle.imageconfig.specs.declared.config.Config.{Config}
use Rattle.evaluation.specs.Evaluated.{no_stage}
use Rattle.evaluation.specs.Images.{ImageNames, with_origin, many_codes}
use Rattle.evaluation.specs.PrivateStage.{begun_with, AreNext}
use Rattle.evaluation.specs.PrivateKept.{TellsWanted, opened, state_if, with_kept, kept_ended, opened_from, kept_stage, kept_next, kept_from, IsKept, AreKept}
use Rattle.evaluation.specs.PrivateWalk.{AreFew, AreNamed, IsEnded, IsWalk, IsOpenedAdded, IsStageAdded, IsNextStage, AreStages}
use Rattle.instructions.specs.Reason.{reason}
use Rattle.imageconfig.specs.Stage.{unless_due}
use Rattle.stages.specs.Resolved.{Returns}
use Rattle.evaluation.specs.PrivateRefusals.{many_refused}
use Rattle.evaluation.specs.Stages.{instructions_from, with_none, stages_from}
use Rattle.evaluation.specs.declared.opening.Opened.{Opened}
use Rattle.evaluation.specs.declared.stage.Progress.{Progress}
use Rattle.evaluation.specs.declared.state.State.{State}
use Rattle.evaluation.specs.declared.walk.Walk.{Walk}
use Rattle.evaluation.proofs.FoldFacts.{SoFar, so_far_first, so_far_more, so_far_reported, so_far_all, not_due, refused_or_ok}
use Rattle.evaluation.proofs.StepFacts.{many_reported, few_go_on}
use Rattle.evaluation.proofs.WantedFacts.{Alike, stages_alike}

-- the names with a FROM's

pub few_refused : (names : ImageNames) (line : ℕ) (fault : Fault Rejection) → fault ≡ many_refused line → nat_lt most_images (length names) ≡ true → AreFew names line (Err fault)
unfolding AreFew
few_refused names line fault is many =
    let reported = many_reported names line (Ok names) many in
    subst (λ (f : Fault Rejection). Returns (unless_due (reason (many_codes names) None) line (Ok names)) (Err f)) (sym is) reported

pub few_all : (names : ImageNames) (line : ℕ) → nat_lt most_images (length names) ≡ false → AreFew names line (Ok names)
unfolding AreFew
few_all names line few = few_go_on names line (Ok names) few

pub named_few : (names more : ImageNames) (base : Origin) (line : ℕ) (result : Result ImageNames (Fault Rejection)) → more ≡ with_origin names base → AreFew more line result → AreNamed names base line result
unfolding AreNamed AreFew
named_few names more base line result is h = subst (λ (ns : ImageNames). Returns (unless_due (reason (many_codes ns) None) line (Ok ns)) result) is h

pub named_none : (names : ImageNames) (base : Origin) (line : ℕ) → AreNamed names base line (Err Memory)
unfolding AreNamed
named_none names base line = tt

-- what a stage's instructions answer

abbrev well_of : {X : Type 0} → X → Result X Rejection
well_of x = Ok x

same_ok : {X : Type 0} (x y : X) → well_of x ≡ well_of y → x ≡ y
same_ok x y e = cc

reported_before : {X Y : Type 0} (code : Option Reason) (line : ℕ) (x : X) (rest : Result Y Rejection) (refusal : Rejection) → unless_due code line (Ok x) ≡ Err refusal → unless_due code line rest ≡ Err refusal
reported_before None line x rest refusal h = cc
reported_before (Some code) line x rest refusal h = cc

pub ended_reported : (args outer : Values) (state : State) (names : ImageNames) (line : ℕ) (base : Origin) (rs : List ResolvedInstruction) (fault : Fault Rejection)
    → AreNamed names base line (Err fault) → IsEnded args outer state names line base rs (Err fault)
unfolding AreNamed IsEnded
ended_reported args outer state names line base rs (Because refusal) h = reported_before (reason (many_codes (with_origin names base)) None) line (with_origin names base) _ refusal h
ended_reported args outer state names line base rs Memory h = tt

pub ended_next : (args outer : Values) (state : State) (names more : ImageNames) (line : ℕ) (base : Origin) (rs : List ResolvedInstruction) (p : Progress) (result : Result Progress (Fault Rejection))
    → p ≡ begun_with state more → AreNamed names base line (Ok more) → AreNext args outer p rs result → IsEnded args outer state names line base rs result
unfolding AreNamed IsEnded AreNext
ended_next args outer state names more line base rs p result is named next =
    let few = not_due (reason (many_codes (with_origin names base)) None) line (Ok (with_origin names base)) more named in
    let whole : more ≡ with_origin names base = sym (same_ok (with_origin names base) more few.after) in
    subst (λ (c : Option Reason). Returns (unless_due c line (instructions_from args outer (Ok (begun_with state (with_origin names base))) rs)) result) (sym few.none)
    (subst (λ (ns : ImageNames). Returns (instructions_from args outer (Ok (begun_with state ns)) rs) result) whole
    (subst (λ (x : Progress). Returns (instructions_from args outer (Ok x) rs) result) is next))

-- a needed stage after those before it

reported_after : (code : Option Reason) (line : ℕ) (wants : ℕ → ℕ → Bool) (walk : Walk) (stage : ResolvedStage) (rest : Result Progress Rejection) (refusal : Rejection)
    → unless_due code line rest ≡ Err refusal → unless_due code line (kept_ended wants walk stage rest) ≡ Err refusal
reported_after None line wants walk stage (Ok p) refusal h = cc
reported_after None line wants walk stage (Err r) refusal h = cc
reported_after (Some code) line wants walk stage rest refusal h = cc

pub added_reported : (args outer : Values) (wants : ℕ → ℕ → Bool) (begun : Opened) (stage : ResolvedStage) (rs : List ResolvedInstruction) (fault : Fault Rejection)
    → rs ≡ stage.instructions → IsEnded args outer begun.state begun.walk.names stage.line stage.base rs (Err fault) → IsOpenedAdded args outer wants begun stage (Err fault)
unfolding IsEnded IsOpenedAdded
added_reported args outer wants begun stage rs (Because refusal) same h =
    reported_after (reason (many_codes (with_origin begun.walk.names stage.base)) None) stage.line wants begun.walk stage
    (instructions_from args outer (Ok (begun_with begun.state (with_origin begun.walk.names stage.base))) stage.instructions) refusal
    (subst (λ (is : List ResolvedInstruction).
    unless_due (reason (many_codes (with_origin begun.walk.names stage.base)) None) stage.line (instructions_from args outer (Ok (begun_with begun.state (with_origin begun.walk.names stage.base))) is) ≡ Err refusal) same h)
added_reported args outer wants begun stage rs Memory same h = tt

added_well : (args outer : Values) (wants : ℕ → ℕ → Bool) (begun : Opened) (stage : ResolvedStage) (p : Progress) (result : Result Walk (Fault Rejection))
    → IsEnded args outer begun.state begun.walk.names stage.line stage.base stage.instructions (Ok p)
    → Returns (Ok (with_kept wants begun.walk stage p)) result → IsOpenedAdded args outer wants begun stage result
unfolding IsEnded IsOpenedAdded
added_well args outer wants begun stage p result ended is =
    let last : Result Progress Rejection = instructions_from args outer (Ok (begun_with begun.state (with_origin begun.walk.names stage.base))) stage.instructions in
    let well = not_due (reason (many_codes (with_origin begun.walk.names stage.base)) None) stage.line last p ended in
    subst (λ (c : Option Reason). Returns (unless_due c stage.line (kept_ended wants begun.walk stage last)) result) (sym well.none)
    (subst (λ (r : Result Progress Rejection). Returns (kept_ended wants begun.walk stage r) result) (sym well.after) is)

-- what is left of the stages where one more ends
abbrev ended_with : Bool → Walk → ResolvedStage → Progress → Walk
ended_with is_kept walk stage p = record {
  rows = walk.rows ++ Some (record { line = stage.line; base = stage.base; steps = p.steps }) ∷ [];
  states = walk.states ++ state_if is_kept p.state ∷ [];
  names = p.names;
}

pub added_put : (args outer : Values) (wants : ℕ → ℕ → Bool) (begun : Opened) (stage : ResolvedStage) (rs : List ResolvedInstruction) (p : Progress) (number : ℕ) (is_kept : Bool) (result : Result Walk (Fault Rejection))
    → rs ≡ stage.instructions → number ≡ length begun.walk.rows → is_kept ≡ wants number number → IsEnded args outer begun.state begun.walk.names stage.line stage.base rs (Ok p)
    → IsWalk (begun.walk.rows ++ Some (record { line = stage.line; base = stage.base; steps = p.steps }) ∷ []) (begun.walk.states ++ state_if is_kept p.state ∷ []) p.names result
    → IsOpenedAdded args outer wants begun stage result
unfolding IsWalk
added_put args outer wants begun stage rs p number is_kept result same at kept ended is =
    added_well args outer wants begun stage p result
    (subst (λ (xs : List ResolvedInstruction). IsEnded args outer begun.state begun.walk.names stage.line stage.base xs (Ok p)) same ended)
    (subst (λ (b : Bool). Returns (Ok (ended_with b begun.walk stage p)) result) (kept ∙ ap (λ n. wants n n) at) is)

pub added_opened : (args outer : Values) (images : ImagesValue Config) (wants : ℕ → ℕ → Bool) (walk : Walk) (begun : Opened) (stage : ResolvedStage) (result : Result Walk (Fault Rejection))
    → begun ≡ opened images wants walk stage.base → IsOpenedAdded args outer wants begun stage result → IsStageAdded args outer images wants walk stage result
unfolding IsOpenedAdded IsStageAdded
added_opened args outer images wants walk begun stage result is h = subst (λ (x : Opened). Returns (opened_from args outer wants x stage) result) is h

pub added_none : (args outer : Values) (images : ImagesValue Config) (wants : ℕ → ℕ → Bool) (walk : Walk) (stage : ResolvedStage) → IsStageAdded args outer images wants walk stage (Err Memory)
unfolding IsStageAdded
added_none args outer images wants walk stage = tt

abbrev walk_of : List (Option Stage) → List (Option State) → ImageNames → Walk
walk_of rows states names = record { rows = rows; states = states; names = names }

pub walk_put : (rows : List (Option Stage)) (states more : List (Option State)) (names : ImageNames) → more ≡ states → IsWalk rows states names (Ok (record { rows = rows; states = more; names = names }))
unfolding IsWalk
walk_put rows states more names is = ap (λ (ss : List (Option State)). Ok (walk_of rows ss names)) (sym is)

pub walk_none : (rows : List (Option Stage)) (states : List (Option State)) (names : ImageNames) → IsWalk rows states names (Err Memory)
unfolding IsWalk
walk_none rows states names = tt

pub walk_rows : (rows more : List (Option Stage)) (states : List (Option State)) (state kept : Option State) (names : ImageNames) (result : Result Walk (Fault Rejection)) → more ≡ rows → kept ≡ state
    → IsWalk more (states ++ kept ∷ []) names result → IsWalk rows (states ++ state ∷ []) names result
walk_rows rows more states state kept names result is same h =
    subst (λ (rs : List (Option Stage)). IsWalk rs (states ++ state ∷ []) names result) is
    (subst (λ (s : Option State). IsWalk more (states ++ s ∷ []) names result) same h)

-- a stage after those before it

next_by : (marked : Bool) (then_is else_is : Result Walk Rejection) (result : Result Walk (Fault Rejection)) → marked ≡ true → Returns then_is result → Returns (if marked then then_is else else_is) result
next_by marked then_is else_is result h k = subst (λ (b : Bool). Returns (if b then then_is else else_is) result) (sym h) k

next_not : (marked : Bool) (then_is else_is : Result Walk Rejection) (result : Result Walk (Fault Rejection)) → marked ≡ false → Returns else_is result → Returns (if marked then then_is else else_is) result
next_not marked then_is else_is result h k = subst (λ (b : Bool). Returns (if b then then_is else else_is) result) (sym h) k

pub marked_at : (needed : List Bool) (n long : ℕ) (marked b : Bool) → n ≡ long → marked ≡ is_marked needed n → marked ≡ b → is_marked needed long ≡ b
marked_at needed n long marked b same is h = ap (is_marked needed) (sym same) ∙ (sym is ∙ h)

pub next_needed : (args outer : Values) (images : ImagesValue Config) (needed : List Bool) (wants : ℕ → ℕ → Bool) (walk : Walk) (stage : ResolvedStage) (result : Result Walk (Fault Rejection))
    → is_marked needed (length walk.rows) ≡ true → IsStageAdded args outer images wants walk stage result → IsNextStage args outer images needed wants walk stage result
unfolding IsStageAdded IsNextStage
next_needed args outer images needed wants walk stage result marked h =
    next_by (is_marked needed (length walk.rows)) (kept_stage args outer images wants walk stage) (Ok (with_none walk)) result marked h

pub next_left_out : (args outer : Values) (images : ImagesValue Config) (needed : List Bool) (wants : ℕ → ℕ → Bool) (walk : Walk) (stage : ResolvedStage) (more : Walk)
    → is_marked needed (length walk.rows) ≡ false → more ≡ with_none walk → IsNextStage args outer images needed wants walk stage (Ok more)
unfolding IsNextStage
next_left_out args outer images needed wants walk stage more marked is =
    next_not (is_marked needed (length walk.rows)) (kept_stage args outer images wants walk stage) (Ok (with_none walk)) (Ok more) marked (ap Ok (sym is))

pub next_stage_none : (args outer : Values) (images : ImagesValue Config) (needed : List Bool) (wants : ℕ → ℕ → Bool) (walk : Walk) (stage : ResolvedStage) → IsNextStage args outer images needed wants walk stage (Err Memory)
unfolding IsNextStage
next_stage_none args outer images needed wants walk stage = tt

-- all stages

unfoldable pub StagesSoFar : Values → Values → ImagesValue Config → List Bool → (ℕ → ℕ → Bool) → List ResolvedStage → List ResolvedStage → Walk → Type 0
StagesSoFar args outer images needed wants all rest now = SoFar (kept_next args outer images needed wants) no_stage all rest now

pub stages_first : (args outer : Values) (images : ImagesValue Config) (needed : List Bool) (wants : ℕ → ℕ → Bool) (all : List ResolvedStage) (first : Walk) → first ≡ no_stage → StagesSoFar args outer images needed wants all all first
unfolding StagesSoFar
stages_first args outer images needed wants all first is =
    subst (λ (w : Walk). SoFar (kept_next args outer images needed wants) no_stage all all w) (sym is) (so_far_first (kept_next args outer images needed wants) no_stage all)

pub stages_more : (args outer : Values) (images : ImagesValue Config) (needed : List Bool) (wants : ℕ → ℕ → Bool) (all rest left : List ResolvedStage) (stage : ResolvedStage) (now more : Walk)
    → StagesSoFar args outer images needed wants all rest now → rest ≡ stage ∷ left → IsNextStage args outer images needed wants now stage (Ok more) → StagesSoFar args outer images needed wants all left more
unfolding StagesSoFar IsNextStage
stages_more args outer images needed wants all rest left stage now more far is made =
    so_far_more (kept_next args outer images needed wants) no_stage all rest left stage now more far is made

pub stages_refused : (args outer : Values) (images : ImagesValue Config) (needed : List Bool) (wants : ℕ → ℕ → Bool) (all rest left whole : List ResolvedStage) (stage : ResolvedStage) (now : Walk) (fault : Fault Rejection)
    → StagesSoFar args outer images needed wants all rest now → rest ≡ stage ∷ left → all ≡ whole → IsNextStage args outer images needed wants now stage (Err fault)
    → AreStages args outer images needed wants whole (Err fault)
unfolding StagesSoFar IsNextStage AreStages
stages_refused args outer images needed wants all rest left whole stage now fault far is same reported =
    subst (λ (ss : List ResolvedStage). Returns (kept_from args outer images needed wants (Ok no_stage) ss) (Err fault)) same
    (so_far_reported (kept_next args outer images needed wants) no_stage all rest left stage now fault far is reported)

pub stages_all : (args outer : Values) (images : ImagesValue Config) (needed : List Bool) (wants : ℕ → ℕ → Bool) (all rest whole : List ResolvedStage) (now : Walk)
    → StagesSoFar args outer images needed wants all rest now → length rest ≡ 0 → all ≡ whole → AreStages args outer images needed wants whole (Ok now)
unfolding StagesSoFar AreStages
stages_all args outer images needed wants all rest whole now far over same =
    subst (λ (ss : List ResolvedStage). kept_from args outer images needed wants (Ok no_stage) ss ≡ Ok now) same
    (so_far_all (kept_next args outer images needed wants) no_stage all rest now far over)

-- what is kept of all stages

kept_by : (needed : List Bool) (stages : List ResolvedStage) (target from : ℕ) (one other : Result Walk Rejection) (kept : Walk) → Alike needed stages target from one other → other ≡ Ok kept
    → (walk : Walk) × (one ≡ Ok walk) × IsKept needed stages target from walk kept
kept_by needed stages target from (Ok walk) (Ok found) kept alike is = (walk, refl, subst (IsKept needed stages target from walk) (same_ok found kept is) alike)
kept_by needed stages target from (Ok walk) (Err refusal) kept alike is = absurd alike
kept_by needed stages target from (Err refusal) (Ok found) kept alike is = absurd alike
kept_by needed stages target from (Err refusal) (Err other) kept alike is = absurd (refused_or_ok other kept is)

refused_by : (needed : List Bool) (stages : List ResolvedStage) (target from : ℕ) (one other : Result Walk Rejection) (refusal : Rejection) → Alike needed stages target from one other → other ≡ Err refusal → one ≡ Err refusal
refused_by needed stages target from (Ok walk) (Ok found) refusal alike is = absurd (refused_or_ok refusal found (sym is))
refused_by needed stages target from (Ok walk) (Err found) refusal alike is = absurd alike
refused_by needed stages target from (Err found) (Ok kept) refusal alike is = absurd alike
refused_by needed stages target from (Err found) (Err other) refusal alike is = ap Err alike ∙ is

pub all_kept : (args outer : Values) (images : ImagesValue Config) (needed : List Bool) (wants : ℕ → ℕ → Bool) (target : ℕ) (shown stages : List ResolvedStage) (result : Result Walk (Fault Rejection)) → shown ≡ stages
    → TellsWanted needed shown target wants → AreStages args outer images needed wants stages result → AreKept args outer images needed target stages result
unfolding AreStages AreKept
all_kept args outer images needed wants target shown stages (Ok kept) same tells h =
    kept_by needed stages target (length stages) (stages_from args outer images needed (Ok no_stage) stages) (kept_from args outer images needed wants (Ok no_stage) stages) kept
    (stages_alike args outer images wants needed stages target (subst (λ (ss : List ResolvedStage). TellsWanted needed ss target wants) same tells)) h
all_kept args outer images needed wants target shown stages (Err (Because refusal)) same tells h =
    refused_by needed stages target (length stages) (stages_from args outer images needed (Ok no_stage) stages) (kept_from args outer images needed wants (Ok no_stage) stages) refusal
    (stages_alike args outer images wants needed stages target (subst (λ (ss : List ResolvedStage). TellsWanted needed ss target wants) same tells)) h
all_kept args outer images needed wants target shown stages (Err Memory) same tells h = tt

pub kept_none : (args outer : Values) (images : ImagesValue Config) (needed : List Bool) (target : ℕ) (stages : List ResolvedStage) → AreKept args outer images needed target stages (Err Memory)
unfolding AreKept
kept_none args outer images needed target stages = tt
