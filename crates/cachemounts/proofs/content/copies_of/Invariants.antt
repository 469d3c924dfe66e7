use Rattle.std.proofs.Common.{◌≡◌, map, take}
use Rattle.cachemounts.specs.Content.{tree_held}
use Rattle.cachemounts.proofs.content.copies_of.Given as goal

abbrev pub invariant-loop-hold : goal.invariant-loop-hold
invariant-loop-hold l = l.trees.items ≡ map (tree_held l.contents) (take l.hold-index l.holds)
