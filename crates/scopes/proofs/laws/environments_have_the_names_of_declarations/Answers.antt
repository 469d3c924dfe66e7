use Rattle.scopes.proofs.NameLemmas.{kept-fits, run_env-fits}
use Rattle.scopes.proofs.laws.environments_have_the_names_of_declarations.Goals as goal

pub returns-clause-kept : goal.returns-clause-kept
returns-clause-kept c = kept-fits

pub returns-clause-environment : goal.returns-clause-environment
returns-clause-environment c = run_env-fits
