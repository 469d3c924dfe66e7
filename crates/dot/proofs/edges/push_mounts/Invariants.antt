use Rattle.std.proofs.Common.{◌≡◌, ◌++◌, drop, string_bytes}
use Rattle.dot.specs.Drawn.{lines_of, mounts}
use Rattle.dot.proofs.edges.push_mounts.Given as goal

-- the edges so far, and those that are left
abbrev pub invariant-loop-cache : goal.invariant-loop-cache
invariant-loop-cache l =
    string_bytes l.out ++ lines_of (mounts l.ids l.to (drop l.cache-index l.caches)) ≡ string_bytes l.fn.out ++ lines_of (mounts l.ids l.to l.caches)
