use Rattle.std.proofs.Common.{◌≡◌, length}
use Rattle.options.specs.Lists.{has_twice}
use Rattle.options.specs.Value.{is_named}
use Rattle.options.proofs.copy.has_twice.Given as goal

abbrev pub invariant-loop-rest : goal.invariant-loop-rest
invariant-loop-rest l = has_twice (λ f. is_named f.name) l.flags ≡ has_twice (λ f. is_named f.name) l.rest

abbrev pub decreases-loop-rest : goal.decreases-loop-rest
decreases-loop-rest l = length l.rest
