use Rattle.fileactions.proofs.Merging.{chain-gives}
use Rattle.fileactions.proofs.laws.a_chain_of_copies_is_a_merge.Goals as goal

pub returns : goal.returns
returns c = chain-gives
