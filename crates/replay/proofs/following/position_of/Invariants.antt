use Rattle.std.proofs.Common.{◌≡◌, drop, map}
use Rattle.board.specs.Play.{claim_of}
use Rattle.board.specs.Claim.{claim_out}
use Rattle.replay.proofs.following.position_of.Given as goal

abbrev pub invariant-loop-at : goal.invariant-loop-at
invariant-loop-at l = claim_of l.worker (map claim_out (drop l.at l.out)) ≡ claim_of l.worker (map claim_out l.out)
