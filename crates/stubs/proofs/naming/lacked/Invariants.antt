use Rattle.std.proofs.Common.{◌≡◌, ◌++◌, filter}
use Rattle.std.specs.Vec.Iter.{into_iter_items}
use Rattle.stubs.specs.Naming.{is_lacked}
use Rattle.stubs.proofs.naming.lacked.Given as goal

-- those so far, and those of the names that are left, are all
abbrev pub invariant-loop-named : goal.invariant-loop-named
invariant-loop-named l = l.lacked ++ filter (is_lacked l.images) (into_iter_items l.named-iterator) ≡ filter (is_lacked l.images) l.fn.names
