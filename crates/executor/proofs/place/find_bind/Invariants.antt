use Rattle.std.proofs.Common.{◌≡◌, drop}
use Rattle.executor.specs.Places.{bind_from}
use Rattle.executor.proofs.place.find_bind.Given as goal

-- none of the binds so far has the path
abbrev pub invariant-loop-number : goal.invariant-loop-number
invariant-loop-number l = bind_from l.number (drop l.number l.request.binds) l.path ≡ bind_from 0 l.request.binds l.path
