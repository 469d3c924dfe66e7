use Rattle.std.proofs.Common.{◌≡◌, ◌++◌, length, map}
use Rattle.std.specs.Str.Lines.{lines}
use Rattle.ignorefile.specs.File.{without_byte_order_mark}
use Rattle.reasons.proofs.cutting.cut_lines.Given as goal

abbrev pub decreases-loop-line : goal.decreases-loop-line
decreases-loop-line l = length l.left

-- the lines so far stand before those of what is left
abbrev pub invariant-loop-line : goal.invariant-loop-line
invariant-loop-line l = map (λ text. text.now) l.texts.items ++ lines l.left ≡ lines (without_byte_order_mark l.bytes)
