use Rattle.std.proofs.Common.{map, take}
use Rattle.std.specs.Option.{option_copied}
use Rattle.nearest.specs.PrivateNearness.{IsBest}
use Rattle.nearest.proofs.nearness.nearest.Given as goal

-- the best of the names that were looked at
abbrev pub invariant-loop-name : goal.invariant-loop-name
invariant-loop-name l = IsBest l.word (map (λ it. it.now) (take l.name-index l.names)) (option_copied l.best)
