use Rattle.board.proofs.SoundLemmas.{sound}
use Rattle.board.proofs.PlayLemmas.{replay-right}
use Rattle.board.proofs.laws.history_is_legal.Goals as goal

pub returns : goal.returns
returns c = λ problem run plan replay. (replay-right problem run (sound problem plan) replay).legal
