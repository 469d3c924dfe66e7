use Rattle.instructions.proofs.NameLemmas.{name_fits}
use Rattle.scopes.proofs.laws.names_fit_environments.Goals as goal

pub returns : goal.returns
returns c = name_fits
