use Rattle.globs.proofs.Relating.{relates-to, relates-from}
use Rattle.globs.proofs.laws.a_text_relates_by_grammar_and_cuts.Goals as goal

pub returns : goal.returns
returns c text path = ((λ h. relates-to text path h), (λ r. relates-from text path r))
