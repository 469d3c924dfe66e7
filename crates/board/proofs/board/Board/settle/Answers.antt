use Rattle.std.specs.Prelude.{slice_get}
use Rattle.std.proofs.Common.{◌≡◌, ◌∙◌, [], ◌∷◌, ◌++◌, Some, arith, rules, sym, subst, slice_set, ◌<◌, length, ap}
use Rattle.board.specs.Job.{job_problem}
use Rattle.cachemounts.specs.Holds.{of_holder}
use Rattle.cachemounts.specs.Changes.{Gives}
use Rattle.cachemounts.specs.Store.{IsAfter}
use Rattle.plans.specs.Plan.{vertex_value, uses_at}
use Rattle.board.specs.Play.{unsettled_count, Settle}
use Rattle.board.specs.Claim.{IsClaim, IsOut, IsResult, claim_out}
use Rattle.board.specs.Board.{IsStep}
use Rattle.board.specs.Leaving.{IsLent, IsLeftFor, GivesBackWhatIsLeft}
use Rattle.board.specs.declared.event.Happened.TheVariants.{Settled}
use Rattle.board.proofs.LeavingLemmas.{given-push, left-at}
use Rattle.board.proofs.SoundLemmas.{claim-within, claim-unsettled, claim-count, unsettled-fewer, result-is}
use Rattle.board.proofs.BoardLemmas.{slice_get-set, run_of, board_of, settle-gone}
use Rattle.board.specs.PrivateFrontier.{users_at, line_in, CanLower, IsSettledIn}
use Rattle.board.proofs.FrontierLemmas.{replay-alone}
use Rattle.board.proofs.FrontierSteps.{frontier-settle, can-lower}
use Rattle.board.proofs.board.Board.settle.Goals as goal

pub settle-requires-clause-vertex : goal.settle-requires-clause-vertex
settle-requires-clause-vertex g c =
    let b = c.self.inside in
    let claim = c.args.claim in
    let problem = job_problem g.E.Executor.out b.job in
    let out : IsOut (run_of b.history.items b.settled b.claims.items b.caches.holds).state claim = subst (λ v. IsOut v.run.state claim) (sym c.self.view_is) c.requires.out in
    let alone = replay-alone problem (run_of b.history.items b.settled b.claims.items b.caches.holds) (claim_out claim) c.self.invariant.0.problem c.self.invariant.0.replay out in
    omega (arith, alone.vertex_within, c.vertex-vertex.ensures, c.self.invariant.2.users.long, b.frontier.users.ok.0)

pub settle-requires-clause-waiting : goal.settle-requires-clause-waiting
settle-requires-clause-waiting g c =
    let b = c.self.inside in
    let claim = c.args.claim in
    let problem = job_problem g.E.Executor.out b.job in
    let out : IsOut (run_of b.history.items b.settled b.claims.items b.caches.holds).state claim = subst (λ v. IsOut v.run.state claim) (sym c.self.view_is) c.requires.out in
    let alone = replay-alone problem (run_of b.history.items b.settled b.claims.items b.caches.holds) (claim_out claim) c.self.invariant.0.problem c.self.invariant.0.replay out in
    subst (λ v. CanLower (users_at b.frontier.users.items v) b.frontier.waiting.items) (sym c.vertex-vertex.ensures) (can-lower b.job.graph.vertices b.job.graph.places b.settled b.claims.items b.frontier claim.vertex c.self.invariant.2 alone.unsettled)

pub settle-requires-clause-room : goal.settle-requires-clause-room
settle-requires-clause-room g c = c.self.invariant.2.available_long ∙ sym c.self.invariant.2.waiting_long

pub put-requires : goal.put-requires
put-requires g c =
    let b = c.self.inside in
    let claim = c.args.claim in
    let problem = job_problem g.E.Executor.out b.job in
    let of : IsClaim problem claim = subst (λ v. IsClaim (job_problem g.E.Executor.out v.job) claim) (sym c.self.view_is) c.requires.of in
    let within = claim-within problem (run_of b.history.items b.settled b.claims.items b.caches.holds) claim c.self.invariant.0.problem c.self.invariant.0.replay of in
    omega (arith, within, c.vertex-vertex.ensures)

pub give-requires : goal.give-requires
give-requires g c =
    let b = c.self.inside in
    let claim = c.args.claim in
    let problem = job_problem g.E.Executor.out b.job in
    let out : IsOut (run_of b.history.items b.settled b.claims.items b.caches.holds).state claim = subst (λ v. IsOut v.run.state claim) (sym c.self.view_is) c.requires.out in
    let given : length c.args.given.items ≡ length (uses_at problem claim.vertex) = subst (λ v. length c.args.given.items ≡ length (uses_at (job_problem g.E.Executor.out v.job) claim.vertex)) (sym c.self.view_is) c.requires.given in
    let count = claim-count problem (run_of b.history.items b.settled b.claims.items b.caches.holds) claim c.self.invariant.0.problem c.self.invariant.0.replay out in
    let holder : c.into_lease-lease.result.holder ≡ claim.worker = ap (λ l. l.holder) c.into_lease-lease.ensures in
    given ∙ (sym count ∙ ap (λ w. length (of_holder w b.caches.holds)) (sym holder))

pub invariant_of-self : goal.invariant_of-self
invariant_of-self g c =
    let b = c.self.inside in
    let claim = c.args.claim in
    let value = g.P.Place.stands c.args.value in
    let problem = job_problem g.E.Executor.out b.job in
    let of : IsClaim problem claim = subst (λ v. IsClaim (job_problem g.E.Executor.out v.job) claim) (sym c.self.view_is) c.requires.of in
    let result : IsResult problem claim value = subst (λ v. IsResult (job_problem g.E.Executor.out v.job) claim value) (sym c.self.view_is) c.requires.value in
    let out : IsOut (run_of b.history.items b.settled b.claims.items b.caches.holds).state claim = subst (λ v. IsOut v.run.state claim) (sym c.self.view_is) c.requires.out in
    let given : length c.args.given.items ≡ length (uses_at problem claim.vertex) = subst (λ v. length c.args.given.items ≡ length (uses_at (job_problem g.E.Executor.out v.job) claim.vertex)) (sym c.self.view_is) c.requires.given in
    let is : vertex_value problem claim.vertex ≡ Some value = result-is problem claim value c.self.invariant.0.problem of result in
    let at : c.vertex-vertex.result ≡ claim.vertex = c.vertex-vertex.ensures in
    let holder : c.into_lease-lease.result.holder ≡ claim.worker = ap (λ l. l.holder) c.into_lease-lease.ensures in
    let after : IsAfter (Gives claim.worker c.args.given.items) b.caches c.give.new.self = subst (λ w. IsAfter (Gives w c.args.given.items) b.caches c.give.new.self) holder c.give.ensures in
    let put : c.put.new.self ≡ slice_set b.settled claim.vertex (Some value) = subst (λ v. c.put.new.self ≡ slice_set b.settled v (Some value)) at c.put.ensures in
    let gone = settle-gone g.E.Executor.out b.job b.first.items b.caches c.give.new.self b.history.items c.add.new.list.items b.settled c.put.new.self b.claims.items c.drop_claim.new.claims.items (claim_out claim) c.args.given.items value c.self.invariant.0 out given is (search rules) put (search rules) after in
    let fewer = c.drop_claim.ensures.fewer (claim_out claim) (rw c.worker-worker.ensures out) in
    let alone = replay-alone problem (run_of b.history.items b.settled b.claims.items b.caches.holds) (claim_out claim) c.self.invariant.0.problem c.self.invariant.0.replay out in
    let settles : IsSettledIn claim.vertex c.least_place-line.result value b.frontier c.settle.new.self = subst (λ x. IsSettledIn claim.vertex c.least_place-line.result x b.frontier c.settle.new.self) c.value.ensures (subst (λ v. IsSettledIn v c.least_place-line.result c.value.result.now b.frontier c.settle.new.self) at c.settle.ensures) in
    let on : c.least_place-line.result ≡ line_in b.job.graph.places claim.vertex = c.least_place-line.ensures ∙ (ap (λ graph. line_in graph.places c.vertex-vertex.result) c.graph.ensures.value ∙ ap (line_in b.job.graph.places) at) in
    let left = frontier-settle b.job.graph.vertices b.job.graph.places b.settled c.put.new.self b.claims.items c.drop_claim.new.claims.items b.frontier c.settle.new.self (claim_out claim) c.least_place-line.result value c.self.invariant.2 alone on settles put (search rules) in
    (gone.board, omega (arith, fewer, c.self.invariant.1, c.add.ensures.len, c.add.ensures.capacity), left)

pub returns-clause-run : goal.returns-clause-run
returns-clause-run g c =
    let b = c.self.inside in
    let claim = c.args.claim in
    let value = g.P.Place.stands c.args.value in
    let problem = job_problem g.E.Executor.out b.job in
    let of : IsClaim problem claim = subst (λ v. IsClaim (job_problem g.E.Executor.out v.job) claim) (sym c.self.view_is) c.requires.of in
    let result : IsResult problem claim value = subst (λ v. IsResult (job_problem g.E.Executor.out v.job) claim value) (sym c.self.view_is) c.requires.value in
    let out : IsOut (run_of b.history.items b.settled b.claims.items b.caches.holds).state claim = subst (λ v. IsOut v.run.state claim) (sym c.self.view_is) c.requires.out in
    let given : length c.args.given.items ≡ length (uses_at problem claim.vertex) = subst (λ v. length c.args.given.items ≡ length (uses_at (job_problem g.E.Executor.out v.job) claim.vertex)) (sym c.self.view_is) c.requires.given in
    let is : vertex_value problem claim.vertex ≡ Some value = result-is problem claim value c.self.invariant.0.problem of result in
    let at : c.vertex-vertex.result ≡ claim.vertex = c.vertex-vertex.ensures in
    let holder : c.into_lease-lease.result.holder ≡ claim.worker = ap (λ l. l.holder) c.into_lease-lease.ensures in
    let after : IsAfter (Gives claim.worker c.args.given.items) b.caches c.give.new.self = subst (λ w. IsAfter (Gives w c.args.given.items) b.caches c.give.new.self) holder c.give.ensures in
    let put : c.put.new.self ≡ slice_set b.settled claim.vertex (Some value) = subst (λ v. c.put.new.self ≡ slice_set b.settled v (Some value)) at c.put.ensures in
    let gone = settle-gone g.E.Executor.out b.job b.first.items b.caches c.give.new.self b.history.items c.add.new.list.items b.settled c.put.new.self b.claims.items c.drop_claim.new.claims.items (claim_out claim) c.args.given.items value c.self.invariant.0 out given is (search rules) put (search rules) after in
    subst (λ v. IsStep g.E.Executor.out (Settle claim.worker c.args.given.items) v (board_of b.job b.first.items c.give.new.self c.add.new.list.items c.put.new.self c.drop_claim.new.claims.items)) c.self.view_is gone.goes

pub returns-clause-value : goal.returns-clause-value
returns-clause-value g c =
    let b = c.self.inside in
    let claim = c.args.claim in
    let value = g.P.Place.stands c.args.value in
    let problem = job_problem g.E.Executor.out b.job in
    let of : IsClaim problem claim = subst (λ v. IsClaim (job_problem g.E.Executor.out v.job) claim) (sym c.self.view_is) c.requires.of in
    let within = claim-within problem (run_of b.history.items b.settled b.claims.items b.caches.holds) claim c.self.invariant.0.problem c.self.invariant.0.replay of in
    let at : c.vertex-vertex.result ≡ claim.vertex = c.vertex-vertex.ensures in
    subst (λ xs. slice_get xs claim.vertex ≡ Some (Some value)) (sym (subst (λ v. c.put.new.self ≡ slice_set b.settled v (Some value)) at c.put.ensures)) (slice_get-set b.settled claim.vertex (Some value) within)

pub returns-clause-nearer : goal.returns-clause-nearer
returns-clause-nearer g c =
    let b = c.self.inside in
    let claim = c.args.claim in
    let value = g.P.Place.stands c.args.value in
    let problem = job_problem g.E.Executor.out b.job in
    let run = run_of b.history.items b.settled b.claims.items b.caches.holds in
    let of : IsClaim problem claim = subst (λ v. IsClaim (job_problem g.E.Executor.out v.job) claim) (sym c.self.view_is) c.requires.of in
    let out : IsOut run.state claim = subst (λ v. IsOut v.run.state claim) (sym c.self.view_is) c.requires.out in
    let within = claim-within problem run claim c.self.invariant.0.problem c.self.invariant.0.replay of in
    let none = claim-unsettled problem run claim c.self.invariant.0.problem c.self.invariant.0.replay out in
    let fewer = unsettled-fewer b.settled claim.vertex value within none in
    let at : c.vertex-vertex.result ≡ claim.vertex = c.vertex-vertex.ensures in
    subst (λ v. unsettled_count c.put.new.self < unsettled_count v.run.state.settled) c.self.view_is (rw (c.put.ensures, at) fewer)

pub returns-clause-left : goal.returns-clause-left
returns-clause-left g c = λ lent left gives.
    let b = c.self.inside in
    let claim = c.args.claim in
    let problem = job_problem g.E.Executor.out b.job in
    let leaves = g.E.Executor.leaves b.job.executor in
    let of : IsClaim problem claim = subst (λ v. IsClaim (job_problem g.E.Executor.out v.job) claim) (sym c.self.view_is) c.requires.of in
    let is_lent : IsLent problem b.first.items b.history.items claim = subst (λ v. IsLent (job_problem g.E.Executor.out v.job) v.first v.run.history claim) (sym c.self.view_is) lent in
    let ran : IsLeftFor leaves problem claim c.args.given.items = subst (λ v. IsLeftFor (g.E.Executor.leaves v.job.executor) (job_problem g.E.Executor.out v.job) claim c.args.given.items) (sym c.self.view_is) left in
    let before : GivesBackWhatIsLeft leaves problem b.first.items b.history.items = subst (λ v. GivesBackWhatIsLeft (g.E.Executor.leaves v.job.executor) (job_problem g.E.Executor.out v.job) v.first v.run.history) (sym c.self.view_is) gives in
    let added : c.add.new.list.items ≡ b.history.items ++ Settled claim.worker claim.vertex c.args.given.items ∷ [] = search rules in
    given-push leaves problem b.first.items b.history.items c.add.new.list.items (Settled claim.worker claim.vertex c.args.given.items) added before (left-at leaves problem claim _ c.args.given.items of ran is_lent)
