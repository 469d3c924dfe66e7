use Rattle.std.proofs.Common.{◌≡◌, List, ℕ}
use Rattle.std.specs.BTreeMap.{is_at}
use Rattle.std.specs.Map.{lookup}
use Rattle.std.specs.Option.{option_or}
use Rattle.std.specs.Vec.Iter.{into_iter_items}
use Rattle.paths.specs.Order.{name_cmp}
use Rattle.stubs.specs.Stubbing.{stub_if, is_named}
use Rattle.stubs.proofs.stubbing.stubs_of.Given as goal

-- the names that are left get a stub, and the others have theirs
abbrev pub invariant-loop-named : goal.invariant-loop-named
invariant-loop-named l =
    (name : List ℕ) → option_or (stub_if (is_named (into_iter_items l.named-iterator) name)) (lookup (is_at (name_cmp name)) l.rows.entries)
    ≡ stub_if (is_named l.fn.names name)
