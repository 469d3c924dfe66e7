use Rattle.board.proofs.SoundLemmas.{replay-state}
use Rattle.board.proofs.laws.state_is_the_history.Goals as goal

pub returns : goal.returns
returns c = replay-state
