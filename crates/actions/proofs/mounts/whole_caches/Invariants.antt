use Rattle.std.proofs.Common.{◌≡◌, map}
use Rattle.options.specs.Lists.{all_some}
use Rattle.options.proofs.ListLaws.{behind}
use Rattle.actions.specs.PrivateMounts.{whole_cache}
use Rattle.actions.proofs.mounts.whole_caches.Given as goal

abbrev pub invariant-loop-cache : goal.invariant-loop-cache
invariant-loop-cache l = behind l.found.items (all_some (map whole_cache l.cache-iterator.rest.items)) ≡ all_some (map whole_cache l.initial.cache-iterator.rest.items)
