use Rattle.std.proofs.Common.{◌≡◌, map, drop}
use Rattle.std.specs.List.{list_any}
use Rattle.exported.specs.Patterns.{is_active}
use Rattle.exported.proofs.patterns.any_active.Given as goal

-- none so far
abbrev pub invariant-loop-component : goal.invariant-loop-component
invariant-loop-component l = list_any is_active (map (λ text. text.now) (drop l.component-index l.components)) ≡ list_any is_active (map (λ text. text.now) l.components)
