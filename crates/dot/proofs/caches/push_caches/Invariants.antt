use Rattle.std.proofs.Common.{◌≡◌, ◌++◌, drop, string_bytes}
use Rattle.dot.specs.Drawn.{lines_of, caches}
use Rattle.dot.proofs.caches.push_caches.Given as goal

-- the caches so far, and those that are left
abbrev pub invariant-loop-number : goal.invariant-loop-number
invariant-loop-number l = string_bytes l.out ++ lines_of (caches l.number (drop l.number l.ids)) ≡ string_bytes l.fn.out ++ lines_of (caches 0 l.ids)
