use Rattle.scopes.proofs.ScopeLemmas.{value_in-kept, run_env-kept, kept-append}
use Rattle.scopes.proofs.laws.kept_declarations_mean_the_same.Goals as goal

pub returns-clause-values : goal.returns-clause-values
returns-clause-values c = value_in-kept

pub returns-clause-environment : goal.returns-clause-environment
returns-clause-environment c = run_env-kept

pub returns-clause-more : goal.returns-clause-more
returns-clause-more c = kept-append
