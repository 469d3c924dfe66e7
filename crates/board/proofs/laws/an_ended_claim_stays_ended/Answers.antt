use Rattle.board.proofs.SoundLemmas.{ended-stays}
use Rattle.board.proofs.laws.an_ended_claim_stays_ended.Goals as goal

pub returns : goal.returns
returns c = ended-stays
