use Rattle.globs.proofs.Relating.{malformed-to, malformed-from}
use Rattle.globs.proofs.laws.a_malformed_text_spells_nothing.Goals as goal

pub returns : goal.returns
returns c text = ((λ h glob sp. malformed-to text h glob sp), (λ h. malformed-from text h))
