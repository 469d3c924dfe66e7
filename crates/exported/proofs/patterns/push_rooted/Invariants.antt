use Rattle.std.proofs.Common.{◌≡◌, ◌++◌, map, drop}
use Rattle.std.specs.String.{string_bytes}
use Rattle.paths.specs.Path.{rooted}
use Rattle.exported.proofs.patterns.push_rooted.Given as goal

-- what was added, and what is left
abbrev pub invariant-loop-component : goal.invariant-loop-component
invariant-loop-component l = string_bytes l.path ++ rooted (map (λ text. text.now) (drop l.component-index l.components)) ≡ string_bytes l.fn.path ++ rooted (map (λ text. text.now) l.components)
