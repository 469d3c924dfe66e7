use Rattle.std.proofs.Common.{◌≡◌, ◌++◌, map, drop}
use Rattle.exported.specs.Following.{plain_names}
use Rattle.exported.proofs.following.plain_names.Given as goal

-- the names so far, and those of what is left
abbrev pub invariant-loop-component : goal.invariant-loop-component
invariant-loop-component l = l.names ++ plain_names (map (λ text. text.now) (drop l.component-index l.components)) ≡ plain_names (map (λ text. text.now) l.components)
