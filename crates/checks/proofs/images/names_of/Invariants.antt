use Rattle.std.proofs.Common.{◌≡◌, ◌++◌, map}
use Rattle.std.specs.Vec.Iter.{into_iter_items}
use Rattle.checks.proofs.images.names_of.Given as goal

-- the names so far with those of the images that are left are all
abbrev pub invariant-loop-name : goal.invariant-loop-name
invariant-loop-name l = l.names ++ map (λ row. row.0) (into_iter_items l.name-iterator) ≡ map (λ row. row.0) l.fn.images
