use Rattle.evaluation.proofs.ChainFacts.{has_chain, chain_scope, chain_values, chain_environment}
use Rattle.evaluation.proofs.laws.scopes_mean_the_history_of_their_chain.Goals as goal

pub returns : goal.returns
returns c = record { chain = has_chain; scope = chain_scope; values = chain_values; environment = chain_environment }
