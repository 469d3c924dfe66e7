use Rattle.pointed.proofs.PointedLaws.{pointed-is}
use Rattle.pointed.proofs.laws.what_is_pointed_at_is_a_word.Goals as goal

pub returns : goal.returns
returns c = pointed-is
