use Rattle.std.proofs.Common.{◌≡◌, ◌++◌, drop}
use Rattle.trees.specs.PrivateNode.{lists_of}
use Rattle.trees.proofs.part.share.Given as goal

-- the parts shared so far, and those that are left
abbrev pub invariant-loop-part : goal.invariant-loop-part
invariant-loop-part l = lists_of l.shared.items ++ lists_of (drop l.part-index l.parts) ≡ lists_of l.parts
