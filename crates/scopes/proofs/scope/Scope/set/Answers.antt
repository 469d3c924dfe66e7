use Rattle.scopes.proofs.MapLemmas.{set-scope, set-kept}
use Rattle.scopes.proofs.NameLemmas.{set-named}
use Rattle.scopes.proofs.scope.Scope.set.Goals as goal

pub invariant_of-self : goal.invariant_of-self
invariant_of-self c = (
  set-kept c.set_all.result _ _ c.args.rows _ c.self.invariant.0 c.set_all.ensures.ok c.set_all.ensures.err,
  rw c.take.ensures.after tt,
  set-named c.set_all.result _ c.args.rows _ _ c.self.invariant.0 c.self.invariant.2 c.requires c.set_all.ensures.ok c.set_all.ensures.err,
)

pub returns-clause-ok : goal.returns-clause-ok
returns-clause-ok c = set-scope c.set_all.result _ _ c.args.rows _ _ c.self.invariant.0 c.self.view_is c.set_all.ensures.ok
