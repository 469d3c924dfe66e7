use Rattle.board.proofs.PlayLemmas.{others-leave}
use Rattle.board.specs.Claim.{claim_out}
use Rattle.board.proofs.laws.others_leave_a_claim_out.Goals as goal

pub returns : goal.returns
returns c = λ problem run step claim out other. others-leave problem run step claim.worker (claim_out claim) out other
