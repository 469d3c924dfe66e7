use Rattle.scopes.proofs.HistoryLemmas.{scope-history, fault-kept}
use Rattle.scopes.proofs.laws.scopes_mean_their_history.Goals as goal

pub returns-clause-scopes : goal.returns-clause-scopes
returns-clause-scopes c = scope-history

pub returns-clause-faults : goal.returns-clause-faults
returns-clause-faults c = fault-kept
