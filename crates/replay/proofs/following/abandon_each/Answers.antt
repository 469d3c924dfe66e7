use Rattle.std.proofs.Common.{ap}
use Rattle.board.specs.Board.{board_problem}
use Rattle.replay.proofs.EndLemmas.{begins-itself, still-begins}
use Rattle.replay.proofs.following.abandon_each.Goals as goal

pub loop-claim-init : goal.loop-claim-init
loop-claim-init g c = begins-itself c.args.board.now.run.history

pub loop-claim-preserved : goal.loop-claim-preserved
loop-claim-preserved g c =
    let board = c.loop-claim.board in
    let goes = c.abandon.ensures in
    still-begins (board_problem g.E.Executor.out board) board.run c.abandon.new.self.run c.in-Some.claim c.args.board.now.run.history (λ out. (goes.out out).run) (λ gone. ap (λ b. b.run) (goes.ended gone)) c.loop-claim.invariant
