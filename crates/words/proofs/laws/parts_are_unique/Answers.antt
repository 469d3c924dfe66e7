use Rattle.words.proofs.PartLaws.{parts-made, parts-only}
use Rattle.words.proofs.laws.parts_are_unique.Goals as goal

pub returns-clause-some : goal.returns-clause-some
returns-clause-some c = parts-made

pub returns-clause-one : goal.returns-clause-one
returns-clause-one c = parts-only
