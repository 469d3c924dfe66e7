use Rattle.expand.proofs.WordLaws.{word-is, word-only}
use Rattle.expand.proofs.laws.words_are_unique.Goals as goal

pub returns-clause-some : goal.returns-clause-some
returns-clause-some c = word-is

pub returns-clause-one : goal.returns-clause-one
returns-clause-one c = word-only
