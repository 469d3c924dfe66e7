use Rattle.std.proofs.Common.{drop}
use Rattle.trees.specs.Copy.{parent_meta, paths_changes}
use Rattle.trees.specs.PrivateNode.{map_of}
use Rattle.trees.specs.PrivateCopy.{kind_in}
use Rattle.trees.proofs.PlacingSteps.{HasMade}
use Rattle.trees.proofs.placing.place_matches.Given as goal

-- what the matches before place was placed, and nothing failed
abbrev pub invariant-loop-path : goal.invariant-loop-path
invariant-loop-path l =
    HasMade (parent_meta l.options) (paths_changes l.options l.into l.from l.dest l.paths) (kind_in l.fn.placed.entries) (map_of l.fn.root)
    (paths_changes l.options l.into l.from l.dest (drop l.path-index l.paths)) (kind_in l.placed.entries) (map_of l.root)
