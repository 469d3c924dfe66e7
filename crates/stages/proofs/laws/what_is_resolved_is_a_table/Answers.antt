use Rattle.stages.proofs.ResolvedFacts.{resolved_table, resolved_known}
use Rattle.stages.proofs.laws.what_is_resolved_is_a_table.Goals as goal

pub returns-clause-table : goal.returns-clause-table
returns-clause-table c = resolved_table

pub returns-clause-known : goal.returns-clause-known
returns-clause-known c = resolved_known
