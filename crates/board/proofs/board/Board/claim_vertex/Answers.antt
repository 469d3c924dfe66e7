use Rattle.std.proofs.Common.{◌≡◌, ◌∙◌, [], ◌∷◌, ◌++◌, Some, arith, rules, sym, subst, ap, map, true}
use Rattle.board.specs.Job.{job_problem}
use Rattle.runs.specs.Run.{ids_differ, ids_of}
use Rattle.cachemounts.specs.Holds.{can_take, new_holds}
use Rattle.cachemounts.specs.Content.{tree_held}
use Rattle.cachemounts.specs.Changes.{Takes}
use Rattle.cachemounts.specs.Store.{IsAfter}
use Rattle.plans.specs.Plan.{uses_at, uses_in}
use Rattle.board.specs.Play.{claimable, Claim}
use Rattle.board.specs.Claim.{IsClaim, IsOut}
use Rattle.board.specs.PrivateShelf.{AreInputIds}
use Rattle.board.specs.Board.{board_problem, IsStep}
use Rattle.board.specs.Leaving.{lent_to, IsLent}
use Rattle.board.specs.declared.event.Happened.TheVariants.{Claimed}
use Rattle.board.specs.Leaving.{GivesBackWhatIsLeft}
use Rattle.board.proofs.LeavingLemmas.{given-push, lent-held, lent-claimed}
use Rattle.board.proofs.SoundLemmas.{claim-is, claim-can}
use Rattle.board.proofs.BoardLemmas.{board_of, run_of, claim-gone, claim-out, copies-count}
use Rattle.board.proofs.FrontierSteps.{frontier-claim, available-within, claimable-available}
use Rattle.board.proofs.ShelfLemmas.{inputs-are}
use Rattle.board.proofs.board.Board.claim_vertex.Goals as goal

pub again-requires : goal.again-requires
again-requires g c =
    let b = c.self.inside in
    let is : AreInputIds b.job.graph.vertices b.settled c.args.next.vertex c.args.next.inputs.now = subst (λ v. AreInputIds v.job.graph.vertices v.run.state.settled c.args.next.vertex c.args.next.inputs.now) (sym c.self.view_is) c.requires.inputs in
    is.trees

pub withdraw-requires : goal.withdraw-requires
withdraw-requires g c =
    let b = c.self.inside in
    let vertex = c.args.next.vertex in
    let problem = job_problem g.E.Executor.out b.job in
    let run = run_of b.history.items b.settled b.claims.items b.caches.holds in
    let can : claimable problem run.state c.args.worker ≡ Some vertex = subst (λ v. claimable (board_problem g.E.Executor.out v) v.run.state c.args.worker ≡ Some vertex) (sym c.self.view_is) c.requires.next in
    available-within b.job.graph.vertices b.job.graph.places b.settled b.claims.items b.frontier vertex c.self.invariant.2 (claimable-available problem run.state c.args.worker vertex can)

pub take_as-requires-clause-free : goal.take_as-requires-clause-free
take_as-requires-clause-free g c =
    let b = c.self.inside in
    let vertex = c.args.next.vertex in
    let problem = job_problem g.E.Executor.out b.job in
    let run = run_of b.history.items b.settled b.claims.items b.caches.holds in
    let can : claimable problem run.state c.args.worker ≡ Some vertex = subst (λ v. claimable (board_problem g.E.Executor.out v) v.run.state c.args.worker ≡ Some vertex) (sym c.self.view_is) c.requires.next in
    (claim-can problem run c.args.worker vertex c.self.invariant.0.problem c.self.invariant.0.replay can).0

pub take_as-requires-clause-may : goal.take_as-requires-clause-may
take_as-requires-clause-may g c =
    let b = c.self.inside in
    let vertex = c.args.next.vertex in
    let problem = job_problem g.E.Executor.out b.job in
    let run = run_of b.history.items b.settled b.claims.items b.caches.holds in
    let can : claimable problem run.state c.args.worker ≡ Some vertex = subst (λ v. claimable (board_problem g.E.Executor.out v) v.run.state c.args.worker ≡ Some vertex) (sym c.self.view_is) c.requires.next in
    let uses : c.uses_of.result.now ≡ uses_at problem vertex = c.uses_of.ensures ∙ ap (λ vertices. uses_in vertices vertex) (c.vertices-vertices.ensures.value ∙ ap (λ graph. graph.vertices) c.graph.ensures.value) in
    subst (λ u. can_take b.caches.holds u ≡ true) (sym uses) (claim-can problem run c.args.worker vertex c.self.invariant.0.problem c.self.invariant.0.replay can).1

pub take_as-requires-clause-differ : goal.take_as-requires-clause-differ
take_as-requires-clause-differ g c =
    let b = c.self.inside in
    let vertex = c.args.next.vertex in
    let problem = job_problem g.E.Executor.out b.job in
    let run = run_of b.history.items b.settled b.claims.items b.caches.holds in
    let can : claimable problem run.state c.args.worker ≡ Some vertex = subst (λ v. claimable (board_problem g.E.Executor.out v) v.run.state c.args.worker ≡ Some vertex) (sym c.self.view_is) c.requires.next in
    let uses : c.uses_of.result.now ≡ uses_at problem vertex = c.uses_of.ensures ∙ ap (λ vertices. uses_in vertices vertex) (c.vertices-vertices.ensures.value ∙ ap (λ graph. graph.vertices) c.graph.ensures.value) in
    subst (λ u. ids_differ (ids_of u) ≡ true) (sym uses) (claim-can problem run c.args.worker vertex c.self.invariant.0.problem c.self.invariant.0.replay can).2

pub invariant_of-self-2 : goal.invariant_of-self-2
invariant_of-self-2 g c =
    let b = c.self.inside in
    let vertex = c.args.next.vertex in
    let problem = job_problem g.E.Executor.out b.job in
    let run = run_of b.history.items b.settled b.claims.items b.caches.holds in
    let can : claimable problem run.state c.args.worker ≡ Some vertex = subst (λ v. claimable (board_problem g.E.Executor.out v) v.run.state c.args.worker ≡ Some vertex) (sym c.self.view_is) c.requires.next in
    let uses : c.uses_of.result.now ≡ uses_at problem vertex = c.uses_of.ensures ∙ ap (λ vertices. uses_in vertices vertex) (c.vertices-vertices.ensures.value ∙ ap (λ graph. graph.vertices) c.graph.ensures.value) in
    let after : IsAfter (Takes c.args.worker (uses_at problem vertex)) b.caches c.take_as.new.self = subst (λ u. IsAfter (Takes c.args.worker u) b.caches c.take_as.new.self) uses c.in_ok-lease.ensures.ok in
    let gone = claim-gone g.E.Executor.out b.job b.first.items b.caches c.take_as.new.self b.history.items c.add-2.new.list.items b.settled b.claims.items c.add.new.list.items c.args.worker vertex c.len-at.result c.self.invariant.0 can (search rules) (search rules) (search rules) after in
    let more = frontier-claim b.job.graph.vertices b.job.graph.places b.settled b.claims.items c.add.new.list.items b.frontier c.withdraw.new.self (record { worker = c.args.worker; vertex = vertex; at = c.len-at.result }) c.self.invariant.2 (claimable-available problem run.state c.args.worker vertex can) c.withdraw.ensures (search rules) in
    rw c.again.ensures.same (gone.board, omega (arith, c.self.invariant.1, c.in_ok-room-2.ensures.room, c.room-2.ensures.len, c.room.ensures.len, c.add.ensures.len, c.add-2.ensures.len, c.add-2.ensures.capacity, c.len.ensures), more)

pub returns-clause-run : goal.returns-clause-run
returns-clause-run g c =
    let b = c.self.inside in
    let vertex = c.args.next.vertex in
    let problem = job_problem g.E.Executor.out b.job in
    let run = run_of b.history.items b.settled b.claims.items b.caches.holds in
    let can : claimable problem run.state c.args.worker ≡ Some vertex = subst (λ v. claimable (board_problem g.E.Executor.out v) v.run.state c.args.worker ≡ Some vertex) (sym c.self.view_is) c.requires.next in
    let uses : c.uses_of.result.now ≡ uses_at problem vertex = c.uses_of.ensures ∙ ap (λ vertices. uses_in vertices vertex) (c.vertices-vertices.ensures.value ∙ ap (λ graph. graph.vertices) c.graph.ensures.value) in
    let after : IsAfter (Takes c.args.worker (uses_at problem vertex)) b.caches c.take_as.new.self = subst (λ u. IsAfter (Takes c.args.worker u) b.caches c.take_as.new.self) uses c.in_ok-lease.ensures.ok in
    let gone = claim-gone g.E.Executor.out b.job b.first.items b.caches c.take_as.new.self b.history.items c.add-2.new.list.items b.settled b.claims.items c.add.new.list.items c.args.worker vertex c.len-at.result c.self.invariant.0 can (search rules) (search rules) (search rules) after in
    subst (λ v. IsStep g.E.Executor.out (Claim c.args.worker) v (board_of b.job b.first.items c.take_as.new.self c.add-2.new.list.items c.again.new.self c.add.new.list.items)) c.self.view_is (rw c.again.ensures.same gone.goes)

pub returns-clause-of : goal.returns-clause-of
returns-clause-of g c =
    let b = c.self.inside in
    let vertex = c.args.next.vertex in
    let problem = job_problem g.E.Executor.out b.job in
    let run = run_of b.history.items b.settled b.claims.items b.caches.holds in
    let uses : c.uses_of.result.now ≡ uses_at problem vertex = c.uses_of.ensures ∙ ap (λ vertices. uses_in vertices vertex) (c.vertices-vertices.ensures.value ∙ ap (λ graph. graph.vertices) c.graph.ensures.value) in
    let ids : AreInputIds b.job.graph.vertices b.settled vertex c.args.next.inputs.now = subst (λ v. AreInputIds v.job.graph.vertices v.run.state.settled vertex c.args.next.inputs.now) (sym c.self.view_is) c.requires.inputs in
    let inputs = inputs-are b.job.graph.vertices b.settled vertex c.args.next.inputs.now c.in_ok-inputs.inputs ids c.in_ok-inputs.ensures.trees in
    let count = copies-count b.caches c.args.worker (uses_at problem vertex) c.in_ok-lease.lease (subst (λ u. c.in_ok-lease.lease ≡ record { holder = c.args.worker; trees = map (tree_held b.caches.contents) (new_holds c.args.worker b.caches.holds u) }) uses c.in_ok-lease.ensures.lease) in
    subst (IsClaim problem) (sym c.new.ensures) (claim-is problem run c.args.worker vertex c.len-at.result c.in_ok-inputs.inputs c.in_ok-lease.lease.trees c.self.invariant.0.problem c.self.invariant.0.replay inputs count)

pub returns-clause-out : goal.returns-clause-out
returns-clause-out g c =
    let b = c.self.inside in
    let vertex = c.args.next.vertex in
    let problem = job_problem g.E.Executor.out b.job in
    let run = run_of b.history.items b.settled b.claims.items b.caches.holds in
    let can : claimable problem run.state c.args.worker ≡ Some vertex = subst (λ v. claimable (board_problem g.E.Executor.out v) v.run.state c.args.worker ≡ Some vertex) (sym c.self.view_is) c.requires.next in
    subst (IsOut (run_of b.history.items c.again.new.self c.add.new.list.items c.take_as.new.self.holds).state) (sym c.new.ensures) (claim-out problem run.state c.args.worker vertex c.len-at.result c.add.new.list.items can (search rules))

pub returns-clause-caches : goal.returns-clause-caches
returns-clause-caches g c =
    let b = c.self.inside in
    let vertex = c.args.next.vertex in
    let problem = job_problem g.E.Executor.out b.job in
    let uses : c.uses_of.result.now ≡ uses_at problem vertex = c.uses_of.ensures ∙ ap (λ vertices. uses_in vertices vertex) (c.vertices-vertices.ensures.value ∙ ap (λ graph. graph.vertices) c.graph.ensures.value) in
    let here : c.in_ok-lease.lease.trees ≡ map (tree_held b.caches.contents) (new_holds c.args.worker b.caches.holds (uses_at problem vertex)) = subst (λ u. c.in_ok-lease.lease.trees ≡ map (tree_held b.caches.contents) (new_holds c.args.worker b.caches.holds u)) uses (ap (λ l. l.trees) c.in_ok-lease.ensures.lease) in
    subst (λ claim. claim.caches ≡ map (tree_held c.args.self.now.contents) (new_holds c.args.worker c.args.self.now.run.state.holds (uses_at (board_problem g.E.Executor.out c.args.self.now) claim.vertex))) (sym c.new.ensures)
    (subst (λ v. c.in_ok-lease.lease.trees ≡ map (tree_held v.contents) (new_holds c.args.worker v.run.state.holds (uses_at (board_problem g.E.Executor.out v) vertex))) c.self.view_is here)

pub returns-clause-lent : goal.returns-clause-lent
returns-clause-lent g c =
    let b = c.self.inside in
    let worker = c.args.worker in
    let vertex = c.args.next.vertex in
    let problem = job_problem g.E.Executor.out b.job in
    let run = run_of b.history.items b.settled b.claims.items b.caches.holds in
    let uses : c.uses_of.result.now ≡ uses_at problem vertex = c.uses_of.ensures ∙ ap (λ vertices. uses_in vertices vertex) (c.vertices-vertices.ensures.value ∙ ap (λ graph. graph.vertices) c.graph.ensures.value) in
    let here : c.in_ok-lease.lease.trees ≡ map (tree_held b.caches.contents) (new_holds worker b.caches.holds (uses_at problem vertex)) = subst (λ u. c.in_ok-lease.lease.trees ≡ map (tree_held b.caches.contents) (new_holds worker b.caches.holds u)) uses (ap (λ l. l.trees) c.in_ok-lease.ensures.lease) in
    let held = lent-held problem b.first.items b.caches.contents run worker vertex c.self.invariant.0.problem c.self.invariant.0.replay c.self.invariant.0.contents in
    let added : c.add-2.new.list.items ≡ b.history.items ++ Claimed worker vertex ∷ [] = search rules in
    subst (IsLent problem b.first.items c.add-2.new.list.items) (sym c.new.ensures)
    (subst (λ h. c.in_ok-lease.lease.trees ≡ lent_to problem b.first.items h worker) (sym added) (here ∙ (held ∙ sym (lent-claimed problem b.first.items b.history.items worker vertex))))

pub returns-clause-left : goal.returns-clause-left
returns-clause-left g c = λ gives.
    let b = c.self.inside in
    let worker = c.args.worker in
    let vertex = c.args.next.vertex in
    let leaves = g.E.Executor.leaves b.job.executor in
    let problem = job_problem g.E.Executor.out b.job in
    let before : GivesBackWhatIsLeft leaves problem b.first.items b.history.items = subst (λ v. GivesBackWhatIsLeft (g.E.Executor.leaves v.job.executor) (job_problem g.E.Executor.out v.job) v.first v.run.history) (sym c.self.view_is) gives in
    let added : c.add-2.new.list.items ≡ b.history.items ++ Claimed worker vertex ∷ [] = search rules in
    given-push leaves problem b.first.items b.history.items c.add-2.new.list.items (Claimed worker vertex) added before tt
