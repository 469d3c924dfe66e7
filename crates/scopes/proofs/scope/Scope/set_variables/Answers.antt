use Rattle.scopes.proofs.LineLemmas.{set-line}
use Rattle.scopes.proofs.scope.Scope.set_variables.Goals as goal

pub returns-clause-ok : goal.returns-clause-ok
returns-clause-ok c = set-line c.set.result c.args.variables.now c.in_ok-rows.rows _ _ c.in_ok-rows.ensures.rows c.set.ensures.ok
