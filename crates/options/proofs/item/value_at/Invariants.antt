use Rattle.std.proofs.Common.{◌≡◌, drop, map}
use Rattle.options.specs.Item.{shown, value_at}
use Rattle.options.proofs.item.value_at.Given as goal

abbrev pub invariant-loop-item : goal.invariant-loop-item
invariant-loop-item l = value_at l.key (map shown (drop l.item-index l.items)) ≡ value_at l.key (map shown l.items)
