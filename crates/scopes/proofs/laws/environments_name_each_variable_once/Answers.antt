use Rattle.scopes.proofs.NameLemmas.{run_env-differs}
use Rattle.scopes.proofs.laws.environments_name_each_variable_once.Goals as goal

pub returns : goal.returns
returns c = run_env-differs
