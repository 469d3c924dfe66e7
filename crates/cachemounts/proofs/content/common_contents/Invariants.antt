use Rattle.std.proofs.Common.{◌≡◌, ◌++◌, map}
use Rattle.std.specs.Vec.Iter.{into_iter_items}
use Rattle.cachemounts.specs.Content.{common_content}
use Rattle.cachemounts.proofs.content.common_contents.Given as goal

-- the contents so far with those of the rows that are left are all
abbrev pub invariant-loop-id : goal.invariant-loop-id
invariant-loop-id l = l.contents.items ++ map common_content (into_iter_items l.id-iterator) ≡ map common_content l.fn.trees.items
