use Rattle.std.proofs.Common.{◌≡◌, drop}
use Rattle.dot.specs.Drawn.{with_ids}
use Rattle.dot.proofs.caches.add_ids.Given as goal

abbrev pub invariant-loop-cache : goal.invariant-loop-cache
invariant-loop-cache l = with_ids l.ids (drop l.cache-index l.caches) ≡ with_ids l.fn.ids l.caches
