use Rattle.board.proofs.SoundLemmas.{sound}
use Rattle.board.proofs.PlayLemmas.{replay-right}
use Rattle.board.proofs.laws.no_vertex_is_settled_twice.Goals as goal

pub returns : goal.returns
returns c = λ problem run plan replay. (replay-right problem run (sound problem plan) replay).agrees.once
