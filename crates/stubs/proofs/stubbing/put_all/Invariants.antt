use Rattle.std.proofs.Common.{◌≡◌, List, ℕ, reverse}
use Rattle.std.specs.BTreeMap.{is_at}
use Rattle.std.specs.FinMap.{get}
use Rattle.std.specs.FinMap.Entries.{find}
use Rattle.std.specs.Map.{lookup}
use Rattle.std.specs.Option.{option_or}
use Rattle.std.specs.Vec.Iter.{into_iter_items}
use Rattle.paths.specs.Order.{name_cmp}
use Rattle.stubs.proofs.stubbing.put_all.Given as goal

-- the rows that are left are put over those that are there
abbrev pub invariant-loop-name : goal.invariant-loop-name
invariant-loop-name l =
    (name : List ℕ) → option_or (find name_cmp name (reverse (into_iter_items l.name-iterator))) (lookup (is_at (name_cmp name)) l.rows.entries)
    ≡ option_or (get l.fn.images name) (lookup (is_at (name_cmp name)) l.fn.rows.entries)
