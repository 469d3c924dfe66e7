use Rattle.scopes.proofs.ScopeLemmas.{env-sets, arg-sets, env-beats, bare-leaves, unnamed-leaves, other_env-leaves, other_arg-leaves}
use Rattle.scopes.proofs.laws.declarations_set_their_name.Goals as goal

pub returns-clause-env : goal.returns-clause-env
returns-clause-env c = env-sets

pub returns-clause-arg : goal.returns-clause-arg
returns-clause-arg c = arg-sets

pub returns-clause-beaten : goal.returns-clause-beaten
returns-clause-beaten c = env-beats

pub returns-clause-bare : goal.returns-clause-bare
returns-clause-bare c = bare-leaves

pub returns-clause-other_env : goal.returns-clause-other_env
returns-clause-other_env c = other_env-leaves

pub returns-clause-other_arg : goal.returns-clause-other_arg
returns-clause-other_arg c = other_arg-leaves

pub returns-clause-unnamed : goal.returns-clause-unnamed
returns-clause-unnamed c = unnamed-leaves
