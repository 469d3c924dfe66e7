use Rattle.std.proofs.Common.{◌≡◌, drop, map}
use Rattle.std.specs.List.{list_all}
use Rattle.options.specs.Item.{shown}
use Rattle.options.specs.Mount.{is_fitting}
use Rattle.options.proofs.mount.all_fit.Given as goal

abbrev pub invariant-loop-item : goal.invariant-loop-item
invariant-loop-item l = list_all (is_fitting l.is_cache) (map shown (drop l.item-index l.items)) ≡ list_all (is_fitting l.is_cache) (map shown l.items)
