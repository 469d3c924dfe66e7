use Rattle.words.proofs.FlagLaws.{pieces-behind_flags}
use Rattle.words.proofs.laws.flags_are_the_first_pieces.Goals as goal

pub returns : goal.returns
returns c = pieces-behind_flags
