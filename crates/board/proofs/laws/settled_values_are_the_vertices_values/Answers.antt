use Rattle.board.proofs.SoundLemmas.{sound}
use Rattle.board.proofs.PlayLemmas.{replay-value}
use Rattle.board.proofs.laws.settled_values_are_the_vertices_values.Goals as goal

pub returns : goal.returns
returns c = λ problem run vertex value plan replay e. replay-value problem run (sound problem plan) replay vertex value e
