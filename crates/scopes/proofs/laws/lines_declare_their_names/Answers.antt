use Rattle.scopes.proofs.NameLemmas.{env_line-names, arg_line-names}
use Rattle.scopes.proofs.laws.lines_declare_their_names.Goals as goal

pub returns-clause-variables : goal.returns-clause-variables
returns-clause-variables c = env_line-names

pub returns-clause-arguments : goal.returns-clause-arguments
returns-clause-arguments c = arg_line-names
