use Rattle.board.proofs.SoundLemmas.{sound}
use Rattle.board.proofs.PlayLemmas.{play-steps}
use Rattle.board.proofs.laws.play_leaves_what_is_possible.Goals as goal

pub returns : goal.returns
returns c = λ problem steps plan. play-steps problem steps (sound problem plan)
