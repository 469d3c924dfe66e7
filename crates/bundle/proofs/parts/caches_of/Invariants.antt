use Rattle.std.proofs.Common.{◌≡◌, ◌++◌, map}
use Rattle.std.specs.Vec.Iter.{into_iter_items}
use Rattle.bundle.specs.Parts.{cache_row}
use Rattle.bundle.proofs.parts.caches_of.Given as goal

-- the caches so far with those of the rows that are left are all
abbrev pub invariant-loop-id : goal.invariant-loop-id
invariant-loop-id l = l.caches ++ map cache_row (into_iter_items l.id-iterator) ≡ map cache_row l.fn.rows
