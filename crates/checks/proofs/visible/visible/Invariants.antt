use Rattle.std.proofs.Common.{◌≡◌, string_bytes}
use Rattle.std.specs.List.{flat_map}
use Rattle.checks.specs.Visible.{visible_char}
use Rattle.checks.proofs.visible.visible.Given as goal

-- the characters so far are shown
abbrev pub invariant-loop-character : goal.invariant-loop-character
invariant-loop-character l = string_bytes l.shown ≡ flat_map visible_char l.yielded
