use Rattle.std.proofs.Common.{refl, ◌∙◌}
use Rattle.scopes.proofs.MapLemmas.{value_in-found}
use Rattle.scopes.proofs.scope.Scope.get.Goals as goal

pub returns-in-Some : goal.returns-in-Some
returns-in-Some c = value_in-found _ _ _ _ _ _ c.self.invariant.0 c.self.view_is c.in-Some.ensures refl

pub returns-in_err-get-in-None : goal.returns-in_err-get-in-None
returns-in_err-get-in-None c = rw c.from_residual.ensures (value_in-found _ _ _ _ _ _ c.self.invariant.0 c.self.view_is c.in-None.ensures c.in_err-get-in-None.ensures)

pub returns-in_ok-get-in-None : goal.returns-in_ok-get-in-None
returns-in_ok-get-in-None c = c.as_ref.ensures.value ∙ value_in-found _ _ _ _ _ _ c.self.invariant.0 c.self.view_is c.in-None.ensures c.in_ok-get-in-None.ensures
