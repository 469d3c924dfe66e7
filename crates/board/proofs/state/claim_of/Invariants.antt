use Rattle.std.proofs.Common.{◌≡◌, drop}
use Rattle.board.specs.Play.{claim_of}
use Rattle.board.proofs.state.claim_of.Given as goal

abbrev pub invariant-loop-claim : goal.invariant-loop-claim
invariant-loop-claim l = claim_of l.worker (drop l.claim-index l.claims) ≡ claim_of l.worker l.claims
