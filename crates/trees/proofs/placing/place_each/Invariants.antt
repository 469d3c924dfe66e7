use Rattle.std.proofs.Common.{drop, None}
use Rattle.trees.specs.Copy.{parent_meta, changes_of}
use Rattle.trees.specs.PrivateNode.{map_of}
use Rattle.trees.specs.PrivateCopy.{kind_in}
use Rattle.trees.proofs.PlacingSteps.{HasMade}
use Rattle.trees.proofs.placing.place_each.Given as goal

-- what the sources before place was placed, and nothing failed
abbrev pub invariant-loop-source : goal.invariant-loop-source
invariant-loop-source l =
    HasMade (parent_meta l.options) (changes_of l.options l.into l.from l.dest l.sources) (λ _. None) (map_of l.fn.root)
    (changes_of l.options l.into l.from l.dest (drop l.source-index l.sources)) (kind_in l.placed.entries) (map_of l.root)
