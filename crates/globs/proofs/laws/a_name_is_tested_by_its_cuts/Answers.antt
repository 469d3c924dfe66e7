use Rattle.globs.proofs.Tests.{name-to, name-from}
use Rattle.globs.proofs.laws.a_name_is_tested_by_its_cuts.Goals as goal

pub returns : goal.returns
returns c parts name = ((λ h. name-to parts name h), (λ r. name-from parts name r))
