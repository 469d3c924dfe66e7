use Rattle.std.proofs.Common.{◌≡◌, ◌∙◌, ◌&&◌, ℕ, Bool, true, false, Some, None, is_some, length, ap, subst, arith, rules}
use Rattle.std.specs.Prelude.{slice_get, slice_index_or}
use Rattle.std.proofs.lemmas.Option.{slice_get-get_or}
use Rattle.cachemounts.specs.Holds.{can_take}
use Rattle.plans.specs.Plan.{uses_in}
use Rattle.llb.specs.declared.vertex.Vertex.{Vertex}
use Rattle.board.specs.Job.{job_problem}
use Rattle.board.specs.Play.{State, claim_of, value_at, least}
use Rattle.board.specs.PrivateFrontier.{line_in, comes_before}
use Rattle.board.specs.PrivateNumbers.{has}
use Rattle.board.proofs.FrontierSteps.{over-none, claimable-least, available-trees, least-within}
use Rattle.board.proofs.state.next_claim.Goals as goal

pub returns-then-is_settled-clause-which : goal.returns-then-is_settled-clause-which
returns-then-is_settled-clause-which g c =
    let state : State = record { settled = c.args.settled.now; claims = c.args.claims.now; holds = c.args.caches.now.holds } in
    let over : is_some (value_at c.args.settled.now c.args.job.now.target) ≡ true = search rules in
    over-none (job_problem g.E.Executor.out c.args.job.now) state c.args.worker over

pub returns-in_default-clause-which : goal.returns-in_default-clause-which
returns-in_default-clause-which g c =
    let state : State = record { settled = c.args.settled.now; claims = c.args.claims.now; holds = c.args.caches.now.holds } in
    let free : is_some (claim_of c.args.worker c.args.claims.now) ≡ false = search rules in
    let over : is_some (value_at c.args.settled.now c.args.job.now.target) ≡ false = search rules in
    let none : None ≡ least (λ k. has c.args.frontier.now.available k && (can_take c.args.caches.now.holds (uses_in c.args.job.now.graph.vertices k) && comes_before (line_in c.args.job.now.graph.places k) c.args.frontier.now.failed)) (length c.args.job.now.graph.vertices) =
    subst (λ graph. None ≡ least (λ k. has c.args.frontier.now.available k && (can_take c.args.caches.now.holds (uses_in graph.vertices k) && comes_before (line_in graph.places k) c.args.frontier.now.failed)) (length graph.vertices)) c.graph-graph.ensures.value c.in_default.ensures.which in
    claimable-least (job_problem g.E.Executor.out c.args.job.now) state c.args.worker c.args.frontier.now None c.requires.frontier c.requires.long over free none

pub bounds-vertices-index : goal.bounds-vertices-index
bounds-vertices-index g c =
    let graph = c.graph-graph.result.now in
    let within = least-within (λ k. has c.args.frontier.now.available k && (can_take c.args.caches.now.holds (uses_in graph.vertices k) && comes_before (line_in graph.places k) c.args.frontier.now.failed)) (length graph.vertices) c.in-Some.vertex c.in-Some.ensures.which in
    omega (arith, within, c.index.ensures, ap length c.vertices-vertices.ensures.value)

pub returns-clause-which : goal.returns-clause-which
returns-clause-which g c =
    let state : State = record { settled = c.args.settled.now; claims = c.args.claims.now; holds = c.args.caches.now.holds } in
    let free : is_some (claim_of c.args.worker c.args.claims.now) ≡ false = search rules in
    let over : is_some (value_at c.args.settled.now c.args.job.now.target) ≡ false = search rules in
    let found : Some c.in-Some.vertex ≡ least (λ k. has c.args.frontier.now.available k && (can_take c.args.caches.now.holds (uses_in c.args.job.now.graph.vertices k) && comes_before (line_in c.args.job.now.graph.places k) c.args.frontier.now.failed)) (length c.args.job.now.graph.vertices) =
    subst (λ graph. Some c.in-Some.vertex ≡ least (λ k. has c.args.frontier.now.available k && (can_take c.args.caches.now.holds (uses_in graph.vertices k) && comes_before (line_in graph.places k) c.args.frontier.now.failed)) (length graph.vertices)) c.graph-graph.ensures.value c.in-Some.ensures.which in
    claimable-least (job_problem g.E.Executor.out c.args.job.now) state c.args.worker c.args.frontier.now (Some c.in-Some.vertex) c.requires.frontier c.requires.long over free found

pub returns-clause-inputs : goal.returns-clause-inputs
returns-clause-inputs g c =
    let takes : ℕ → Bool = λ k. (can_take c.args.caches.now.holds (uses_in c.args.job.now.graph.vertices k) && comes_before (line_in c.args.job.now.graph.places k) c.args.frontier.now.failed) in
    let here : c.vertices-vertices.result.now ≡ c.args.job.now.graph.vertices = c.vertices-vertices.ensures.value ∙ ap (λ graph. graph.vertices) c.graph-graph.ensures.value in
    let found : Some c.in-Some.vertex ≡ least (λ k. has c.args.frontier.now.available k && takes k) (length c.args.job.now.graph.vertices) =
    subst (λ graph. Some c.in-Some.vertex ≡ least (λ k. has c.args.frontier.now.available k && (can_take c.args.caches.now.holds (uses_in graph.vertices k) && comes_before (line_in graph.places k) c.args.frontier.now.failed)) (length graph.vertices)) c.graph-graph.ensures.value c.in-Some.ensures.which in
    let within = least-within (λ k. has c.args.frontier.now.available k && takes k) (length c.args.job.now.graph.vertices) c.in-Some.vertex found in
    let v : Vertex = slice_index_or c.vertices-vertices.result.now c.index.result c.index-vertices-index.result in
    let there : slice_get c.vertices-vertices.result.now c.in-Some.vertex ≡ Some v = subst (λ n. slice_get c.vertices-vertices.result.now n ≡ Some v) c.index.ensures (slice_get-get_or c.vertices-vertices.result.now c.index.result c.index-vertices-index.result (omega (arith, within, ap length here, c.index.ensures))) in
    let at : slice_get c.args.job.now.graph.vertices c.in-Some.vertex ≡ Some v = subst (λ vertices. slice_get vertices c.in-Some.vertex ≡ Some v) here there in
    record { v = v; there = at; ids_are = c.as_slice-inputs.ensures; trees = rw c.as_slice-inputs.ensures (available-trees c.args.job.now.graph.vertices c.args.job.now.graph.places c.args.settled.now c.args.claims.now c.args.frontier.now takes c.in-Some.vertex v c.requires.frontier found at) }
