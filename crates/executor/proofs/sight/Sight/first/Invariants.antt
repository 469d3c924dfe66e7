use Rattle.std.proofs.Common.{◌≡◌, ◌++◌, drop}
use Rattle.executor.specs.Edits.{none_own}
use Rattle.executor.proofs.sight.Sight.first.Given as goal

-- none is noted for each bind so far
abbrev pub invariant-loop-bind : goal.invariant-loop-bind
invariant-loop-bind l = l.own.items ++ none_own (drop l._bind-index l.request.binds) ≡ none_own l.request.binds
