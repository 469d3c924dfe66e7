use denote.Shadow.{shadow}
use denote.Text.{Utf8}
use Rattle.std.proofs.Common.{◌≡◌, length}
use Rattle.std.specs.Str.{chars}
use Rattle.globs.specs.Grammar.{is_spelled_out}
use Rattle.globs.proofs.component.is_spelled_out.Given as goal

abbrev pub decreases-loop-character : goal.decreases-loop-character
decreases-loop-character l = length (chars l.left)

abbrev pub invariant-loop-character : goal.invariant-loop-character
invariant-loop-character l = shadow (Utf8 l.left) × (is_spelled_out (chars l.left) ≡ is_spelled_out (chars l.text))
