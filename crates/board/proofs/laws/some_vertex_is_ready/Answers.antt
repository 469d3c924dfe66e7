use Rattle.board.proofs.SoundLemmas.{sound}
use Rattle.board.proofs.PlayLemmas.{replay-right, never-stuck}
use Rattle.board.proofs.laws.some_vertex_is_ready.Goals as goal

pub returns : goal.returns
returns c = λ problem run plan replay idle unsettled no_cause. never-stuck problem run (sound problem plan) plan.target (replay-right problem run (sound problem plan) replay) idle unsettled no_cause
