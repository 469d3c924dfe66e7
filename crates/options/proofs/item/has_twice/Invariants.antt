use Rattle.std.proofs.Common.{◌≡◌, length, map}
use Rattle.options.specs.Item.{shown, has_twice}
use Rattle.options.proofs.item.has_twice.Given as goal

abbrev pub invariant-loop-rest : goal.invariant-loop-rest
invariant-loop-rest l = has_twice (map shown l.items) ≡ has_twice (map shown l.rest)

abbrev pub decreases-loop-rest : goal.decreases-loop-rest
decreases-loop-rest l = length l.rest
