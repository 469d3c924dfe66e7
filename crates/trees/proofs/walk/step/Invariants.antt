use Rattle.std.proofs.Common.{◌≡◌, length, take}
use Rattle.trees.specs.Rows.{lent_names}
use Rattle.trees.specs.PrivateWalk.{IsOnWay, left_below_root}
use Rattle.trees.proofs.walk.step.Given as goal

-- the walk is on its way, nothing was given, each name is a folder's, and the names are the first ones of those at the beginning
abbrev pub invariant-loop-name : goal.invariant-loop-name
invariant-loop-name l = record {
  way : IsOnWay l.names l.above l.kids l.are_bare;
  level : length l.names.items ≡ length l.above.items;
  same : left_below_root l.names l.above l.kids ≡ left_below_root l.fn.names l.fn.above l.fn.kids;
  first : take (length l.names.items) (lent_names l.fn.names.items) ≡ lent_names l.names.items;
}

-- each folder that is left is one fewer
abbrev pub decreases-loop-name : goal.decreases-loop-name
decreases-loop-name l = length l.above.items
