use Rattle.std.proofs.Common.{◌≡◌, None, refl, ap, ◌∙◌}
use Rattle.board.specs.Board.{board_problem}
use Rattle.board.specs.Play.{go, claim_of, Abandon}
use Rattle.replay.proofs.FollowLemmas.{taken-out, taken-abandon, abandon-applies, abandon-left_out}
use Rattle.replay.proofs.LentLemmas.{fewer-lent}
use Rattle.replay.proofs.following.abandon_claim.Goals as goal

pub returns-in_default-clause-applies : goal.returns-in_default-clause-applies
returns-in_default-clause-applies g c =
    let b = c.args.board.now in
    let none : claim_of c.args.worker b.run.state.claims ≡ None = ap (claim_of c.args.worker) c.requires.out.all ∙ c.in_default.ensures.none in
    abandon-left_out (board_problem g.E.Executor.out b) b.run c.args.worker c.history-known.ensures.problem c.history-known.ensures.replay none

pub returns-clause-applies : goal.returns-clause-applies
returns-clause-applies g c =
    let b = c.args.board.now in
    let problem = board_problem g.E.Executor.out b in
    let out = taken-out problem b.run.state.claims c.args.worker c.args.out.now.items c.take_claim.new.out.items c.in-Some.claim c.requires.out c.in-Some.ensures.found in
    let e : c.abandon.new.self.run ≡ go problem b.run (Abandon c.args.worker) = (c.abandon.ensures.out out).run ∙ ap (λ w. go problem b.run (Abandon w)) c.in-Some.ensures.found.by in
    abandon-applies problem b.run c.abandon.new.self.run c.args.worker c.history-known.ensures.problem c.history-known.ensures.replay e

pub returns-clause-out : goal.returns-clause-out
returns-clause-out g c =
    let b = c.args.board.now in
    let problem = board_problem g.E.Executor.out b in
    let out = taken-out problem b.run.state.claims c.args.worker c.args.out.now.items c.take_claim.new.out.items c.in-Some.claim c.requires.out c.in-Some.ensures.found in
    taken-abandon problem b.run c.abandon.new.self.run c.args.worker c.args.out.now.items c.take_claim.new.out.items c.in-Some.claim c.requires.out c.in-Some.ensures.found (c.abandon.ensures.out out).run

pub returns-clause-job : goal.returns-clause-job
returns-clause-job g c =
    let b = c.args.board.now in
    (c.abandon.ensures.out (taken-out (board_problem g.E.Executor.out b) b.run.state.claims c.args.worker c.args.out.now.items c.take_claim.new.out.items c.in-Some.claim c.requires.out c.in-Some.ensures.found)).job

pub returns-clause-lent : goal.returns-clause-lent
returns-clause-lent g c =
    let b = c.args.board.now in
    let now = c.abandon.new.self in
    let problem = board_problem g.E.Executor.out b in
    let out = taken-out problem b.run.state.claims c.args.worker c.args.out.now.items c.take_claim.new.out.items c.in-Some.claim c.requires.out c.in-Some.ensures.found in
    let goes = c.abandon.ensures.out out in
    fewer-lent problem b.first now.first b.run now.run (Abandon c.in-Some.claim.worker) c.args.worker c.args.out.now.items c.take_claim.new.out.items c.in-Some.claim c.requires.out c.requires.lent c.in-Some.ensures.found refl goes.run goes.first

pub returns-clause-first : goal.returns-clause-first
returns-clause-first g c =
    let b = c.args.board.now in
    (c.abandon.ensures.out (taken-out (board_problem g.E.Executor.out b) b.run.state.claims c.args.worker c.args.out.now.items c.take_claim.new.out.items c.in-Some.claim c.requires.out c.in-Some.ensures.found)).first
