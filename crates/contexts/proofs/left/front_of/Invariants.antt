use Rattle.std.proofs.Common.{◌≡◌, take}
use Rattle.contexts.proofs.left.front_of.Given as goal

abbrev pub invariant-loop-name : goal.invariant-loop-name
invariant-loop-name l = l.front ≡ take l.name-index l.name-items
