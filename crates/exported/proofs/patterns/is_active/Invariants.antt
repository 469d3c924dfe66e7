use denote.Shadow.{shadow}
use denote.Text.{Utf8}
use Rattle.std.proofs.Common.{◌≡◌, length}
use Rattle.std.specs.Str.{chars}
use Rattle.exported.specs.Patterns.{has_active, is_active}
use Rattle.exported.proofs.patterns.is_active.Given as goal

abbrev pub decreases-loop-c : goal.decreases-loop-c
decreases-loop-c l = length (chars l.left)

-- no sign so far
abbrev pub invariant-loop-c : goal.invariant-loop-c
invariant-loop-c l = shadow (Utf8 l.left) × (has_active l.is_escaped (chars l.left) ≡ is_active l.component)
