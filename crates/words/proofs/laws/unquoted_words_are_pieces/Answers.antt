use Rattle.words.proofs.PartLaws.{words-unquoted}
use Rattle.words.proofs.laws.unquoted_words_are_pieces.Goals as goal

pub returns : goal.returns
returns c = words-unquoted
