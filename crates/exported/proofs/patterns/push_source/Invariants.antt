use Rattle.std.proofs.Common.{◌≡◌, ◌++◌, map, length}
use Rattle.std.specs.List.{list_any}
use Rattle.std.specs.String.{string_bytes}
use Rattle.exported.specs.Patterns.{begins, source_after}
use Rattle.exported.proofs.patterns.push_source.Given as goal

abbrev pub decreases-components : goal.decreases-components
decreases-components l = length l.left

-- what was added, and what is left, of which one begins the pattern if one of all does
abbrev pub invariant-components : goal.invariant-components
invariant-components l =
    (string_bytes l.path ++ source_after l.globs (map (λ text. text.now) l.left) ≡ string_bytes l.fn.path ++ source_after l.globs (map (λ text. text.now) l.components))
    × (list_any (begins l.globs) (map (λ text. text.now) l.left) ≡ list_any (begins l.globs) (map (λ text. text.now) l.components))
