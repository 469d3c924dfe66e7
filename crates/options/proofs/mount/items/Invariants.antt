use Rattle.std.proofs.Common.{◌≡◌, map}
use Rattle.std.specs.Prelude.{option_map}
use Rattle.options.specs.Item.{shown}
use Rattle.options.specs.Lists.{all_some}
use Rattle.options.specs.Mount.{item_of, items}
use Rattle.options.specs.PrivateMount.{parts, bytes_left}
use Rattle.options.proofs.ListLaws.{behind}
use Rattle.options.proofs.mount.items.Given as goal

abbrev pub invariant-loop-left : goal.invariant-loop-left
invariant-loop-left l = behind (map shown l.found.items) (all_some (map item_of (parts (option_map (λ list. list.now) l.left)))) ≡ items l.text

abbrev pub decreases-loop-left : goal.decreases-loop-left
decreases-loop-left l = bytes_left (option_map (λ list. list.now) l.left)
