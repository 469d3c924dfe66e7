-- What a worker was lent with its last claim after one event more, and that a board's history gives back what was left.
use Rattle.std.proofs.Common.{◌≡◌, ◌≢◌, ℕ, List, [], ◌∷◌, ◌++◌, map, Option, Some, None, refl, sym, ap, ◌∙◌, subst, append_assoc, append-nil}
use Rattle.std.specs.Prelude.{Result, Ok, Err}
use Rattle.std.proofs.lemmas.Bool.{eq-eqb, ne_eqb}
use Rattle.trees.specs.declared.cause.Cause.{Cause}
use Rattle.runs.specs.declared.run.RunRequest.{RunRequest}
use Rattle.llb.specs.declared.op.Op.{Op}
use Rattle.llb.specs.declared.op.Op.TheVariants.{Source as SourceOp, Exec as ExecOp, Copy as CopyOp, MakeDirs as MakeDirsOp, Merge as MergeOp}
use Rattle.plans.specs.Plan.{IsLeftByRun}
use Rattle.plans.specs.Request.{request_of}
use Rattle.trees.specs.TreeMap.{TreeMap}
use Rattle.plans.specs.Plan.{Problem, uses_at, IsLeftBy}
use Rattle.cachemounts.specs.declared.content.Content.{Content}
use Rattle.cachemounts.specs.declared.holds.Hold.{Hold}
use Rattle.cachemounts.specs.Holds.{new_holds}
use Rattle.cachemounts.specs.Content.{tree_in, tree_held, slot_of}
use Rattle.cachemounts.specs.Changes.{content_after}
use Rattle.board.specs.Problem.{IsProblem}
use Rattle.board.specs.Play.{Run, Step, Claim, Settle, Abandon, Move, worker_of, step_of, claim_of, claimable, next, moved, go, IsReplay}
use Rattle.board.specs.Legal.{change_of, IsReady}
use Rattle.board.specs.Claim.{ClaimValue, IsClaim}
use Rattle.board.specs.Board.{AreContents}
use Rattle.board.specs.Leaving.{Leaving, LeaveTheSame, AreLeftByRuns, AreLeftAtEnd, lent_after, lent_then, lent_on, lent_to, IsLeftFor, IsLeftAt, GivesBack, GiveBackOn, GivesBackWhatIsLeft}
use Rattle.board.proofs.ListLemmas.{claim_of-worker}
use Rattle.board.proofs.StepLemmas.{moved_claim, moved_settle, moved_abandon}
use Rattle.board.proofs.PlayLemmas.{IsRight, replay-right, idle_all}
use Rattle.board.proofs.SoundLemmas.{sound}
use Rattle.board.specs.declared.event.Happened.{Happened}
use Rattle.board.specs.declared.event.Happened.TheVariants.{Claimed, Settled, Abandoned}

lent_on-push : (problem : Problem) (first : List Content) (worker : ℕ) (lent : List TreeMap) (before events : List Happened) (happened : Happened)
    → lent_on problem first worker lent before (events ++ happened ∷ []) ≡ lent_then problem first (before ++ events) worker (lent_on problem first worker lent before events) happened
lent_on-push problem first worker lent before [] happened = ap (λ b. lent_then problem first b worker lent happened) (sym (append-nil before))
lent_on-push problem first worker lent before (event ∷ events) happened =
    let now = lent_then problem first before worker lent event in
    lent_on-push problem first worker now (before ++ event ∷ []) events happened
    ∙ ap (λ b. lent_then problem first b worker (lent_on problem first worker now (before ++ event ∷ []) events) happened) (append_assoc before (event ∷ []) events)

-- what a worker was lent after one event more
pub lent_to-push : (problem : Problem) (first : List Content) (history : List Happened) (happened : Happened) (worker : ℕ)
    → lent_to problem first (history ++ happened ∷ []) worker ≡ lent_then problem first history worker (lent_to problem first history worker) happened
lent_to-push problem first history happened worker = lent_on-push problem first worker [] [] history happened

-- a worker's claim lends it what the contents hold then
pub lent-claimed : (problem : Problem) (first : List Content) (history : List Happened) (worker vertex : ℕ)
    → lent_to problem first (history ++ Claimed worker vertex ∷ []) worker ≡ lent_after problem first history worker vertex
lent-claimed problem first history worker vertex = lent_to-push problem first history (Claimed worker vertex) worker ∙ rw (eq-eqb worker worker refl) refl

-- an event of another worker lends a worker nothing
pub lent-aside : (problem : Problem) (first : List Content) (history : List Happened) (happened : Happened) (worker : ℕ) → worker_of (step_of happened) ≢ worker
    → lent_to problem first (history ++ happened ∷ []) worker ≡ lent_to problem first history worker
lent-aside problem first history (Claimed by vertex) worker apart = lent_to-push problem first history (Claimed by vertex) worker ∙ rw (ne_eqb by worker apart) refl
lent-aside problem first history (Settled by vertex given) worker apart = lent_to-push problem first history (Settled by vertex given) worker
lent-aside problem first history (Abandoned by vertex) worker apart = lent_to-push problem first history (Abandoned by vertex) worker

-- what a step adds to the history is an event of its worker
pub step-worker : (problem : Problem) (run : Run) (step : Step) (move : Move) → next problem run step ≡ Some move → worker_of (step_of move.happened) ≡ worker_of step
step-worker problem run (Claim worker) move e = (let m = moved_claim problem run worker (claimable problem run.state worker) move e in rw (← m.2) refl)
step-worker problem run (Settle worker given) move e =
    let m = moved_settle problem run.state given (claim_of worker run.state.claims) move e in
    rw (← m.3) (claim_of-worker worker run.state.claims m.0 m.1)
step-worker problem run (Abandon worker) move e =
    let m = moved_abandon run.state (claim_of worker run.state.claims) move e in
    rw (← m.2) (claim_of-worker worker run.state.claims m.0 m.1)

-- a step of another worker lends a worker nothing
pub lent-other : (problem : Problem) (first : List Content) (run : Run) (step : Step) (worker : ℕ) → worker_of step ≢ worker
    → lent_to problem first (go problem run step).history worker ≡ lent_to problem first run.history worker
lent-other problem first run step worker apart = by_move (next problem run step) refl
  where
    by_move : (o : Option Move) → next problem run step ≡ o → lent_to problem first (moved run o).history worker ≡ lent_to problem first run.history worker
    by_move None e = refl
    by_move (Some move) e = lent-aside problem first run.history move.happened worker (λ same. apart (sym (step-worker problem run step move e) ∙ same))

map-same : {A B : Type 0} (f g : A → B) (xs : List A) → ((x : A) → f x ≡ g x) → map f xs ≡ map g xs
map-same f g [] same = refl
map-same f g (x ∷ xs) same = rw (same x, map-same f g xs same) refl

-- copies of what a board's contents hold are what the history lends
pub lent-held : (problem : Problem) (first contents : List Content) (run : Run) (worker vertex : ℕ) → IsProblem problem → IsReplay problem run → AreContents problem run.history first contents
    → map (tree_held contents) (new_holds worker run.state.holds (uses_at problem vertex)) ≡ lent_after problem first run.history worker vertex
lent-held problem first contents run worker vertex plan replay are =
    let held = λ (hold : Hold). content_after (tree_in first) (map (change_of problem) run.history) hold.id (slot_of hold.access) in
    map-same (tree_held contents) held (new_holds worker run.state.holds (uses_at problem vertex)) (λ hold. are hold.id (slot_of hold.access))
    ∙ ap (λ holds. map held (new_holds worker holds (uses_at problem vertex))) (replay-right problem run (sound problem plan) replay).agrees.holds

-- what a claim's run left, of what its worker was lent
pub left-at : (leaves : Leaving) (problem : Problem) (claim : ClaimValue) (before given : List TreeMap) → IsClaim problem claim → IsLeftFor leaves problem claim given → claim.caches ≡ before
    → IsLeftAt leaves problem claim.vertex before given
left-at leaves problem claim before given of left e = record {
  operation = of.vertex;
  there = of.there;
  inputs = claim.inputs;
  values = of.inputs;
  left = subst (λ b. IsLeftBy leaves of.vertex.op claim.inputs b given) e (left of.vertex of.there);
}

give-push : (leaves : Leaving) (problem : Problem) (first : List Content) (before history : List Happened) (happened : Happened) → GiveBackOn leaves problem first before history
    → GivesBack leaves problem first (before ++ history) happened → GiveBackOn leaves problem first before (history ++ happened ∷ [])
give-push leaves problem first before [] happened on gives = (subst (λ b. GivesBack leaves problem first b happened) (append-nil before) gives, tt)
give-push leaves problem first before (event ∷ history) happened on gives =
    (on.0, give-push leaves problem first (before ++ event ∷ []) history happened on.1 (subst (λ b. GivesBack leaves problem first b happened) (sym (append_assoc before (event ∷ []) history)) gives))

-- a history that gives back what was left, and one event more that does
pub given-push : (leaves : Leaving) (problem : Problem) (first : List Content) (history after : List Happened) (happened : Happened) → after ≡ history ++ happened ∷ []
    → GivesBackWhatIsLeft leaves problem first history → GivesBack leaves problem first history happened → GivesBackWhatIsLeft leaves problem first after
given-push leaves problem first history after happened e is gives =
    subst (GivesBackWhatIsLeft leaves problem first) (sym e) (give-push leaves problem first [] history happened is gives)

-- what one executor may leave another may leave, where each may leave what the other may
allows-run : (leaves other : Leaving) → ((request : RunRequest) (before after : List TreeMap) → leaves request before after → other request before after)
    → (request : Result RunRequest Cause) (before after : List TreeMap) → IsLeftByRun leaves request before after → IsLeftByRun other request before after
allows-run leaves other may (Err cause) before after is = is
allows-run leaves other may (Ok request) before after is = may request before after is

allows-by : (leaves other : Leaving) → ((request : RunRequest) (before after : List TreeMap) → leaves request before after → other request before after)
    → (op : Op) (trees before after : List TreeMap) → IsLeftBy leaves op trees before after → IsLeftBy other op trees before after
allows-by leaves other may (SourceOp source) trees before after is = is
allows-by leaves other may (ExecOp exec) [] before after is = is
allows-by leaves other may (ExecOp exec) (root ∷ trees) before after is = allows-run leaves other may (request_of exec root trees) before after is
allows-by leaves other may (CopyOp files) trees before after is = is
allows-by leaves other may (MakeDirsOp path) trees before after is = is
allows-by leaves other may MergeOp trees before after is = is

-- one executor leaves the same as itself
pub leave-same : {E : Type 0} (leaves : E → Leaving) (one other : E) → one ≡ other → LeaveTheSame (leaves one) (leaves other)
leave-same leaves one other e = subst (λ x. LeaveTheSame (leaves one) (leaves x)) e (λ request before after. ((λ is. is), (λ is. is)))

-- what a claim's run left by one executor it left by another one that allows more
pub left-more : (leaves other : Leaving) (problem : Problem) (claim : ClaimValue) (given : List TreeMap) → ((request : RunRequest) (before after : List TreeMap) → leaves request before after → other request before after)
    → IsLeftFor leaves problem claim given → IsLeftFor other problem claim given
left-more leaves other problem claim given may is = λ vertex there. allows-by leaves other may vertex.op claim.inputs claim.caches given (is vertex there)

pub left-same : (leaves other : Leaving) (problem : Problem) (claim : ClaimValue) (given : List TreeMap) → LeaveTheSame leaves other → IsLeftFor leaves problem claim given → IsLeftFor other problem claim given
left-same leaves other problem claim given same is = λ vertex there. allows-by leaves other (λ request before after. (same request before after).0) vertex.op claim.inputs claim.caches given (is vertex there)

pub left-back : (leaves other : Leaving) (problem : Problem) (claim : ClaimValue) (given : List TreeMap) → LeaveTheSame leaves other → IsLeftFor other problem claim given → IsLeftFor leaves problem claim given
left-back leaves other problem claim given same is = λ vertex there. allows-by other leaves (λ request before after. (same request before after).1) vertex.op claim.inputs claim.caches given (is vertex there)

gives-same : (leaves other : Leaving) (problem : Problem) (first : List Content) (before : List Happened) (happened : Happened) → LeaveTheSame leaves other → GivesBack leaves problem first before happened → GivesBack other problem first before happened
gives-same leaves other problem first before (Claimed worker vertex) same is = tt
gives-same leaves other problem first before (Settled worker vertex given) same is = record {
  operation = is.operation;
  there = is.there;
  inputs = is.inputs;
  values = is.values;
  left = allows-by leaves other (λ request earlier after. (same request earlier after).0) is.operation.op is.inputs (lent_to problem first before worker) given is.left;
}
gives-same leaves other problem first before (Abandoned worker vertex) same is = tt

give_on-same : (leaves other : Leaving) (problem : Problem) (first : List Content) (before events : List Happened) → LeaveTheSame leaves other → GiveBackOn leaves problem first before events → GiveBackOn other problem first before events
give_on-same leaves other problem first before [] same is = tt
give_on-same leaves other problem first before (event ∷ events) same is =
    (gives-same leaves other problem first before event same is.0, give_on-same leaves other problem first (before ++ event ∷ []) events same is.1)

pub given-same : (leaves other : Leaving) (problem : Problem) (first : List Content) (history : List Happened) → LeaveTheSame leaves other → GivesBackWhatIsLeft leaves problem first history → GivesBackWhatIsLeft other problem first history
given-same leaves other problem first history same is = give_on-same leaves other problem first [] history same is

pub left_by_runs-same : (leaves other : Leaving) (problem : Problem) (first contents : List Content) → LeaveTheSame leaves other → AreLeftByRuns leaves problem first contents → AreLeftByRuns other problem first contents
unfolding AreLeftByRuns
left_by_runs-same leaves other problem first contents same is = (is.0, is.1, is.2, given-same leaves other problem first is.0 same is.3)

pub left-at-end-same : (leaves other : Leaving) (problem : Problem) (first contents : List Content) → LeaveTheSame leaves other → AreLeftAtEnd leaves problem first contents → AreLeftAtEnd other problem first contents
left-at-end-same leaves other problem first contents same is = record {
  history = is.history;
  legal = is.legal;
  left = is.left;
  given = given-same leaves other problem first is.history same is.given;
  idle = is.idle;
  none_ready = is.none_ready;
}

-- what a board without claims, on which no vertex is ready, says of its contents
pub left-at-end : (leaves : Leaving) (problem : Problem) (run : Run) (first contents : List Content) → IsProblem problem → IsReplay problem run → run.state.claims ≡ []
    → AreContents problem run.history first contents → GivesBackWhatIsLeft leaves problem first run.history → ((vertex : ℕ) → ¬ IsReady problem run.history vertex) → AreLeftAtEnd leaves problem first contents
left-at-end leaves problem run first contents plan replay none are gives ready = record {
  history = run.history;
  legal = right.legal;
  left = are;
  given = gives;
  idle = idle_all problem run right none;
  none_ready = ready;
}
  where
    right : IsRight problem run
    right = replay-right problem run (sound problem plan) replay
