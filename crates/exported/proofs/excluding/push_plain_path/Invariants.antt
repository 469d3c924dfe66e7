use denote.Shadow.{shadow}
use denote.Text.{Utf8}
use Rattle.std.specs.Str.{chars, encode_utf8_all}
use Rattle.std.specs.String.{string_bytes}
use Rattle.std.proofs.Common.{◌≡◌, ◌++◌, true, length}
use Rattle.exported.specs.Excluding.{plain_from}
use Rattle.exported.proofs.excluding.push_plain_path.Given as goal

abbrev pub decreases-loop-c : goal.decreases-loop-c
decreases-loop-c l = length (chars l.left)

-- what was added, and what is left
abbrev pub invariant-loop-c : goal.invariant-loop-c
invariant-loop-c l =
    shadow (Utf8 l.left)
    × (string_bytes l.pattern ++ encode_utf8_all (plain_from l.begins (chars l.left)) ≡ string_bytes l.fn.pattern ++ encode_utf8_all (plain_from true (chars l.path)))
