use Rattle.board.proofs.SoundLemmas.{sound}
use Rattle.board.proofs.PlayLemmas.{replay-right}
use Rattle.board.proofs.LineLemmas.{least-of-all, some-failed}
use Rattle.board.proofs.laws.an_idle_board_has_the_first_failure.Goals as goal

pub returns-clause-some : goal.returns-clause-some
returns-clause-some c = λ problem run plan replay. some-failed problem run (sound problem plan) plan (replay-right problem run (sound problem plan) replay)

pub returns-clause-first : goal.returns-clause-first
returns-clause-first c = λ problem run plan replay. least-of-all problem run (sound problem plan) plan (replay-right problem run (sound problem plan) replay)
