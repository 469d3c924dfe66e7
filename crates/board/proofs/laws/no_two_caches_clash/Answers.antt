use Rattle.board.proofs.SoundLemmas.{replay-lawful}
use Rattle.board.proofs.laws.no_two_caches_clash.Goals as goal

pub returns : goal.returns
returns c = replay-lawful
