use Rattle.std.proofs.Common.{◌≡◌, ◌+◌, ◌≤◌, length}
use Rattle.std.specs.Str.Lines.{lines}
use Rattle.ignorefile.specs.File.{ignore_of, lines_from}
use Rattle.ignorefile.proofs.Saying.{behind}
use Rattle.ignorefile.proofs.file.read_lines.Given as goal

abbrev pub decreases-loop-line : goal.decreases-loop-line
decreases-loop-line l = length l.left

-- what was said stands before what the lines that are left say; each line took a byte at least
abbrev pub invariant-loop-line : goal.invariant-loop-line
invariant-loop-line l = record {
  said : behind l.found.items (lines_from (l.number + 1) (lines l.left)) ≡ ignore_of l.bytes;
  few : l.number + length l.left ≤ length l.bytes;
}
