use Rattle.std.proofs.Common.{◌≡◌, take}
use Rattle.executor.proofs.place.path_from.Given as goal

-- the path so far has the names so far
abbrev pub invariant-loop-name : goal.invariant-loop-name
invariant-loop-name l = l.rest ≡ take l.name-index l.below
