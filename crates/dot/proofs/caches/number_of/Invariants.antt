use Rattle.std.proofs.Common.{◌≡◌, ◌+◌, drop}
use Rattle.dot.specs.Drawn.{number_of}
use Rattle.dot.proofs.caches.number_of.Given as goal

-- none of the ids so far is this one
abbrev pub invariant-loop-number : goal.invariant-loop-number
invariant-loop-number l = l.number + number_of (drop l.number l.ids) l.id ≡ number_of l.ids l.id
