-- What the methods of a board leave in its fields is what the machine leaves.
use Rattle.std.proofs.Common.{◌≡◌, ℕ, zero, suc, ◌<◌, List, [], ◌∷◌, ◌++◌, length, map, Option, Some, refl, sym, ap, ◌∙◌, subst, arith, slice_set}
use Rattle.std.specs.Prelude.{slice_get}
use Rattle.std.proofs.lemmas.Bool.{eq-eqb}
use Rattle.trees.specs.TreeMap.{TreeMap}
use Rattle.board.specs.Job.{JobValue, job_problem}
use Rattle.plans.specs.Value.{Out}
use Rattle.cachemounts.specs.declared.content.Content.{Content}
use Rattle.cachemounts.specs.Content.{tree_in, tree_held}
use Rattle.cachemounts.specs.Changes.{Change, Takes, Gives, Leaves, content_then, content_after, holders}
use Rattle.cachemounts.proofs.ContentLemmas.{content-push}
use Rattle.cachemounts.specs.StoreValue.{StoreValue, LeaseValue}
use Rattle.cachemounts.specs.Holds.{new_holds}
use Rattle.cachemounts.proofs.HoldLemmas.{length-new_holds}
use Rattle.cachemounts.specs.Store.{IsAfter}
use Rattle.trees.specs.Cause.{TreeOrCause}
use Rattle.plans.specs.Plan.{Problem, vertex_value, uses_at}
use Rattle.board.specs.Problem.{IsProblem}
use Rattle.cachemounts.specs.declared.holds.Hold.{Hold}
use Rattle.runs.specs.declared.run.CacheUse.{CacheUse}
use Rattle.board.specs.Play.{State, Run, Step, Claim, Settle, Abandon, claim_of, without, claimable, go, IsReplay}
use Rattle.board.proofs.PlayLemmas.{go-replay, replay-right}
use Rattle.board.proofs.SoundLemmas.{sound}
use Rattle.board.proofs.StepLemmas.{claim-free}
use Rattle.board.proofs.CacheLemmas.{map_push}
use Rattle.board.specs.Legal.{change_of}
use Rattle.board.proofs.ListLemmas.{claim_of-push, placed-is, without-shorter}
use Rattle.board.specs.Clearing.{IsLeastWorker, IsCleared, least_first}
use Rattle.board.specs.Board.{BoardValue, IsBoard, IsStep, AreContents}
use Rattle.board.specs.declared.event.Happened.{Happened}
use Rattle.board.specs.declared.event.Happened.TheVariants.{Claimed, Settled, Abandoned}
use Rattle.board.specs.declared.claim.ClaimOut.{ClaimOut}

-- what contracts see of a board of these fields
abbrev pub board_of : {E : Type 0} → JobValue E → List Content → StoreValue → List Happened → List (Option TreeOrCause) → List ClaimOut → BoardValue E
board_of job first caches history settled claims =
    record { job = job; first = first; contents = caches.contents; run = record { history = history; state = record { settled = settled; claims = claims; holds = caches.holds } } }

-- what contents hold after one event more
contents-step : (problem : Problem) (run : Run) (happened : Happened) (first : List Content) (old new : StoreValue) → IsProblem problem → IsReplay problem run → old.holds ≡ run.state.holds → AreContents problem run.history first old.contents → IsAfter (change_of problem happened) old new → AreContents problem (run.history ++ happened ∷ []) first new.contents
contents-step problem run happened first old new plan replay same before after = λ id place.
    let changes : List Change = map (change_of problem) run.history in
    let holds : old.holds ≡ holders changes = same ∙ (replay-right problem run (sound problem plan) replay).agrees.holds in
    let here : content_then old.holds (change_of problem happened) id place (tree_in old.contents id place) ≡ content_then (holders changes) (change_of problem happened) id place (content_after (tree_in first) changes id place) = ap (λ b. content_then b (change_of problem happened) id place (tree_in old.contents id place)) holds ∙ ap (content_then (holders changes) (change_of problem happened) id place) (before id place) in
    after.contents id place ∙ (here ∙ (sym (content-push (tree_in first) changes (change_of problem happened) id place) ∙ ap (λ cs. content_after (tree_in first) cs id place) (sym (map_push (change_of problem) run.history happened))))

replay-along : (problem : Problem) (run after : Run) (step : Step) → go problem run step ≡ after → IsReplay problem run → IsReplay problem after
replay-along problem run after step e replay = subst (IsReplay problem) e (go-replay problem run step replay)

-- a board that is in order, and another one after a step, in order too
pub record IsGone {E : Type 0} (out : E → Out) (step : Step) (old new : BoardValue E) : Type 0 where
  pub board : IsBoard out new
  pub goes : IsStep out step old new

pub abandon-gone : {E : Type 0} (out : E → Out) (job : JobValue E) (first : List Content) (caches now : StoreValue) (history after : List Happened) (settled : List (Option TreeOrCause)) (claims fewer : List ClaimOut) (claim : ClaimOut) → IsBoard out (board_of job first caches history settled claims) → claim_of claim.worker claims ≡ Some claim → after ≡ history ++ Abandoned claim.worker claim.vertex ∷ [] → fewer ≡ without claim.worker claims → IsAfter (Leaves claim.worker) caches now → IsGone out (Abandon claim.worker) (board_of job first caches history settled claims) (board_of job first now after settled fewer)
abandon-gone {E} out job first caches now history after settled claims fewer claim is vertex_out e f changed =
    let problem = job_problem out job in
    let old : BoardValue E = board_of job first caches history settled claims in
    let new : BoardValue E = board_of job first now after settled fewer in
    let goes : go problem old.run (Abandon claim.worker) ≡ new.run = rw (vertex_out, e, f, changed.holds) refl in
    let contents = contents-step problem old.run (Abandoned claim.worker claim.vertex) first caches now is.problem is.replay refl is.contents changed in
    record {
      board = record { replay = replay-along problem old.run new.run (Abandon claim.worker) goes is.replay; problem = is.problem; contents = subst (λ h. AreContents problem h first now.contents) (sym e) contents };
      goes = record { job = refl; first = refl; run = sym goes };
    }

pub settle-gone : {E : Type 0} (out : E → Out) (job : JobValue E) (first : List Content) (caches now : StoreValue) (history after : List Happened) (settled later : List (Option TreeOrCause)) (claims fewer : List ClaimOut) (claim : ClaimOut) (given : List TreeMap) (value : TreeOrCause) → IsBoard out (board_of job first caches history settled claims) → claim_of claim.worker claims ≡ Some claim → length given ≡ length (uses_at (job_problem out job) claim.vertex) → vertex_value (job_problem out job) claim.vertex ≡ Some value → after ≡ history ++ Settled claim.worker claim.vertex given ∷ [] → later ≡ slice_set settled claim.vertex (Some value) → fewer ≡ without claim.worker claims → IsAfter (Gives claim.worker given) caches now → IsGone out (Settle claim.worker given) (board_of job first caches history settled claims) (board_of job first now after later fewer)
settle-gone {E} out job first caches now history after settled later claims fewer claim given value is vertex_out count worth e l f changed =
    let problem = job_problem out job in
    let old : BoardValue E = board_of job first caches history settled claims in
    let new : BoardValue E = board_of job first now after later fewer in
    let goes : go problem old.run (Settle claim.worker given) ≡ new.run = rw (vertex_out, eq-eqb _ _ count, worth, e, l, f, changed.holds) refl in
    let contents = contents-step problem old.run (Settled claim.worker claim.vertex given) first caches now is.problem is.replay refl is.contents changed in
    record {
      board = record { replay = replay-along problem old.run new.run (Settle claim.worker given) goes is.replay; problem = is.problem; contents = subst (λ h. AreContents problem h first now.contents) (sym e) contents };
      goes = record { job = refl; first = refl; run = sym goes };
    }

pub claim-gone : {E : Type 0} (out : E → Out) (job : JobValue E) (first : List Content) (caches now : StoreValue) (history after : List Happened) (settled : List (Option TreeOrCause)) (claims more : List ClaimOut) (worker vertex at : ℕ) → IsBoard out (board_of job first caches history settled claims) → claimable (job_problem out job) (record { settled = settled; claims = claims; holds = caches.holds }) worker ≡ Some vertex → at ≡ length history → after ≡ history ++ Claimed worker vertex ∷ [] → more ≡ claims ++ record { worker = worker; vertex = vertex; at = at } ∷ [] → IsAfter (Takes worker (uses_at (job_problem out job) vertex)) caches now → IsGone out (Claim worker) (board_of job first caches history settled claims) (board_of job first now after settled more)
claim-gone {E} out job first caches now history after settled claims more worker vertex at is can a e m changed =
    let problem = job_problem out job in
    let old : BoardValue E = board_of job first caches history settled claims in
    let new : BoardValue E = board_of job first now after settled more in
    let goes : go problem old.run (Claim worker) ≡ new.run = rw (can, e, m, a, changed.holds) refl in
    let contents = contents-step problem old.run (Claimed worker vertex) first caches now is.problem is.replay refl is.contents changed in
    record {
      board = record { replay = replay-along problem old.run new.run (Claim worker) goes is.replay; problem = is.problem; contents = subst (λ h. AreContents problem h first now.contents) (sym e) contents };
      goes = record { job = refl; first = refl; run = sym goes };
    }

-- a worker that may claim a vertex has no claim out, and has this one out afterwards
pub claim-out : (problem : Problem) (state : State) (worker vertex at : ℕ) (more : List ClaimOut) → claimable problem state worker ≡ Some vertex → more ≡ state.claims ++ record { worker = worker; vertex = vertex; at = at } ∷ [] → claim_of worker more ≡ Some (record { worker = worker; vertex = vertex; at = at })
claim-out problem state worker vertex at more e f =
    let free = claim-free problem state worker vertex e in
    ap (claim_of worker) f ∙ (claim_of-push worker state.claims (record { worker = worker; vertex = vertex; at = at }) free ∙ rw (eq-eqb worker worker refl) refl)

-- what was written is there
pub slice_get-set : {X : Type 0} (xs : List X) (i : ℕ) (x : X) → i < length xs → slice_get (slice_set xs i x) i ≡ Some x
slice_get-set [] i x l = absurd (omega (arith, l))
slice_get-set (y ∷ xs) zero x l = refl
slice_get-set (y ∷ xs) (suc i) x l = slice_get-set xs i x (omega (arith, l))

-- the run of a board's fields
abbrev pub run_of : List Happened → List (Option TreeOrCause) → List ClaimOut → List Hold → Run
run_of history settled claims holds = record { history = history; state = record { settled = settled; claims = claims; holds = holds } }

length_map : {X Y : Type 0} (f : X → Y) (xs : List X) → length (map f xs) ≡ length xs
length_map f [] = refl
length_map f (x ∷ xs) = ap suc (length_map f xs)

-- a lease has as many copies as there are uses
pub copies-count : (caches : StoreValue) (holder : ℕ) (mounts : List CacheUse) (lease : LeaseValue) → lease ≡ record { holder = holder; trees = map (tree_held caches.contents) (new_holds holder caches.holds mounts) } → length lease.trees ≡ length mounts
copies-count caches holder mounts lease e =
    ap (λ l. length l.trees) e ∙ (length_map (tree_held caches.contents) (new_holds holder caches.holds mounts) ∙ length-new_holds holder caches.holds mounts)

-- the claim of the least worker is out
pub least-held : (problem : Problem) (run : Run) (seen : List ClaimOut) (claim : ClaimOut) → IsProblem problem → IsReplay problem run → seen ≡ run.state.claims → IsLeastWorker seen claim → (claim_of claim.worker run.state.claims ≡ Some claim) × IsLeastWorker run.state.claims claim
least-held problem run seen claim plan replay same least =
    let here : IsLeastWorker run.state.claims claim = subst (λ cs. IsLeastWorker cs claim) same least in
    (placed-is here.at run.state.claims claim (replay-right problem run (sound problem plan) replay).agrees.apart here.there, here)

-- one claim fewer, and the rest to be abandoned
pub clear-step : (problem here : Problem) (run now : Run) (claim : ClaimOut) → here ≡ problem → claim_of claim.worker run.state.claims ≡ Some claim → IsLeastWorker run.state.claims claim → now ≡ go here run (Abandon claim.worker) → (length now.state.claims < length run.state.claims) × ((after : Run) → IsCleared problem now after → IsCleared problem run after)
clear-step problem here run now claim same vertex_out least e =
    let goes : now ≡ go problem run (Abandon claim.worker) = e ∙ ap (λ p. go p run (Abandon claim.worker)) same in
    let fewer : length (go problem run (Abandon claim.worker)).state.claims < length run.state.claims = rw vertex_out (without-shorter claim.worker run.state.claims claim vertex_out) in
    (subst (λ r. length r.state.claims < length run.state.claims) (sym goes) fewer, λ after rest. least_first run after claim least (subst (λ r. IsCleared problem r after) goes rest))
