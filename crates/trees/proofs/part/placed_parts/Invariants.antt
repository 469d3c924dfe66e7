use Rattle.std.proofs.Common.{◌≡◌, ◌++◌, drop}
use Rattle.trees.specs.PrivateNode.{lists_of}
use Rattle.trees.specs.PrivateSeen.{seen_parts}
use Rattle.trees.proofs.part.placed_parts.Given as goal

-- the parts placed so far, and those that are left
abbrev pub invariant-loop-part : goal.invariant-loop-part
invariant-loop-part l = lists_of l.placed.items ++ seen_parts l.options (lists_of (drop l.part-index l.parts)) ≡ seen_parts l.options (lists_of l.parts)
