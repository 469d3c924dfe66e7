use Rattle.std.proofs.Common.{vec_len}
use Rattle.replay.specs.PrivateFollowing.{Begins}
use Rattle.replay.proofs.following.abandon_each.Given as goal

abbrev pub invariant-loop-claim : goal.invariant-loop-claim
invariant-loop-claim g l = Begins l.fn.board.run.history l.board.run.history

abbrev pub decreases-loop-claim : goal.decreases-loop-claim
decreases-loop-claim g l = vec_len l.claims
