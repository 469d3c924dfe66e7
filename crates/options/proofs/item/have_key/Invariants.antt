use Rattle.std.proofs.Common.{◌≡◌, drop, map}
use Rattle.std.specs.List.{list_any}
use Rattle.options.specs.Item.{shown, has_key}
use Rattle.options.proofs.item.have_key.Given as goal

abbrev pub invariant-loop-item : goal.invariant-loop-item
invariant-loop-item l = list_any (has_key l.key) (map shown (drop l.item-index l.items)) ≡ list_any (has_key l.key) (map shown l.items)
