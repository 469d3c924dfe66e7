use Rattle.scopes.proofs.MapLemmas.{given-scope, given-kept}
use Rattle.scopes.proofs.NameLemmas.{given-named}
use Rattle.scopes.proofs.scope.Scope.give.Goals as goal

pub invariant_of-self : goal.invariant_of-self
invariant_of-self c = (
  given-kept c.give_all.result _ _ _ c.args.rows c.self.invariant.0 c.give_all.ensures.ok c.give_all.ensures.err,
  rw c.take.ensures.after tt,
  given-named c.give_all.result _ _ c.args.rows _ c.self.invariant.0 c.self.invariant.2 c.requires c.give_all.ensures.ok c.give_all.ensures.err,
)

pub returns-clause-ok : goal.returns-clause-ok
returns-clause-ok c = given-scope c.give_all.result _ _ _ c.args.rows _ c.self.invariant.0 c.self.view_is c.give_all.ensures.ok
