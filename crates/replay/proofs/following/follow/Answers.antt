use Rattle.std.proofs.Common.{◌≡◌, ◌∙◌, [], length, take, sym, ap, subst, arith}
use Rattle.std.proofs.lemmas.List.{take_all}
use Rattle.plans.specs.Plan.{problem_of}
use Rattle.board.specs.Board.{board_problem}
use Rattle.board.specs.Job.{job_problem}
use Rattle.board.specs.Leaving.{GivesBackWhatIsLeft}
use Rattle.replay.specs.PrivateFollowing.{AreOut, AreLent}
use Rattle.board.specs.Legal.{Plays}
use Rattle.replay.proofs.FollowLemmas.{plays-more}
use Rattle.replay.proofs.EndLemmas.{cut-again}
use Rattle.board.specs.declared.event.Event.TheVariants as event
use Rattle.replay.proofs.following.follow.Goals as goal

pub loop-event-preserved : goal.loop-event-preserved
loop-event-preserved g c =
    let problem = problem_of (g.E.Executor.out c.args.executor.now) c.args.plan.now in
    let was = c.loop-event.invariant in
    let now = c.in_default.ensures in
    record {
      same = ap (job_problem g.E.Executor.out) now.job ∙ was.same;
      executor = ap (λ job. job.executor) now.job ∙ was.executor;
      first = now.first ∙ was.first;
      given = now.left was.given;
      plays = plays-more problem (board_problem g.E.Executor.out c.loop-event.board) c.args.events.now c.loop-event.event-index (event.Claim 0) c.loop-event.board.run.history c.apply.new.board.run.history c.loop-event-test.true was.same was.plays now.applies;
      out = subst (λ p. AreOut p c.apply.new.board.run.state.claims c.apply.new.out.items) was.same now.out;
      lent = subst (λ p. AreLent p c.apply.new.board.first c.apply.new.board.run.history c.apply.new.out.items) was.same now.lent;
    }

-- the events after the last one that is asked for are cut off again
pub returns-clause-plays : goal.returns-clause-plays
returns-clause-plays g c =
    let problem = problem_of (g.E.Executor.out c.args.executor.now) c.args.plan.now in
    let board = c.loop-event.board in
    let events = c.args.events.now in
    let all : take c.loop-event.event-index events ≡ events = take_all c.loop-event.event-index events (omega (arith, c.loop-event-test)) in
    let plays = subst (λ es. Plays problem es board.run.history) all c.loop-event.invariant.plays in
    let count : length c.history-count.result.now ≡ length board.run.history = ap length c.history-count.ensures.value in
    let cut : c.truncate.new.self.items ≡ take (length c.history-count.result.now) c.abandon_each-2.new.board.run.history = c.truncate.ensures.items ∙ ap (take (length c.history-count.result.now)) c.into_history-history.ensures.value in
    let same = cut-again board.run.history c.abandon_each-2.new.board.run.history c.truncate.new.self.items (length c.history-count.result.now) c.abandon_each-2.ensures count cut in
    subst (Plays problem events) (sym (c.from_vec.ensures ∙ same)) plays

pub returns-clause-given : goal.returns-clause-given
returns-clause-given g c =
    let executor = c.args.executor.now in
    let leaves = g.E.Executor.leaves executor in
    let problem = problem_of (g.E.Executor.out executor) c.args.plan.now in
    let board = c.loop-event.board in
    let at_end = c.loop-event.invariant in
    let happened = board.run.history in
    let by = subst (λ e. GivesBackWhatIsLeft (g.E.Executor.leaves e) (board_problem g.E.Executor.out board) board.first happened) at_end.executor at_end.given in
    let of = subst (λ p. GivesBackWhatIsLeft leaves p board.first happened) at_end.same by in
    let begun = subst (λ f. GivesBackWhatIsLeft leaves problem f happened) at_end.first of in
    let count : length c.history-count.result.now ≡ length happened = ap length c.history-count.ensures.value in
    let cut : c.truncate.new.self.items ≡ take (length c.history-count.result.now) c.abandon_each-2.new.board.run.history = c.truncate.ensures.items ∙ ap (take (length c.history-count.result.now)) c.into_history-history.ensures.value in
    let same = cut-again happened c.abandon_each-2.new.board.run.history c.truncate.new.self.items (length c.history-count.result.now) c.abandon_each-2.ensures count cut in
    subst (GivesBackWhatIsLeft leaves problem []) (sym (c.from_vec.ensures ∙ same)) begun
