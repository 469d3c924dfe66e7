use Rattle.board.proofs.SoundLemmas.{sound}
use Rattle.board.proofs.PlayLemmas.{replay-claims}
use Rattle.board.proofs.laws.claim_gives_the_least_ready_vertex.Goals as goal

pub returns : goal.returns
returns c = λ problem run worker plan replay. replay-claims problem run worker (sound problem plan) replay
