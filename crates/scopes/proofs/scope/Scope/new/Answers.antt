use Rattle.std.proofs.Common.{refl}
use Rattle.scopes.specs.Scope.{kept}
use Rattle.scopes.proofs.scope.Scope.new.Goals as goal

pub invariant_of-result : goal.invariant_of-result
unfolding kept
invariant_of-result c = (rw (c.new.ensures, c.new-2.ensures) refl, tt, rw (c.new.ensures, c.new-2.ensures) refl)
