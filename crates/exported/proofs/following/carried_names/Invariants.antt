use Rattle.std.proofs.Common.{◌≡◌, ◌++◌, drop}
use Rattle.exported.specs.Following.{carried_names}
use Rattle.exported.proofs.following.carried_names.Given as goal

-- the names so far, and those of what is left
abbrev pub invariant-loop-name : goal.invariant-loop-name
invariant-loop-name l = l.front ++ carried_names (drop l.name-index l.names) ≡ carried_names l.names
