use Rattle.rewrite.proofs.LawFacts.{kept_on}
use Rattle.rewrite.proofs.laws.meaning_is_kept_on.Goals as goal

pub returns : goal.returns
returns g c = kept_on
