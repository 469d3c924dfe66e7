use Rattle.std.proofs.Common.{◌≡◌, ◌+◌, ◌++◌, ◌≤◌, length}
use Rattle.std.specs.Str.Lines.{lines}
use Rattle.ignorefile.specs.File.{numbers_of, numbers_from}
use Rattle.ignorefile.proofs.file.line_numbers.Given as goal

abbrev pub decreases-loop-line : goal.decreases-loop-line
decreases-loop-line l = length l.left

-- the numbers so far stand before those of the lines that are left; each line took a byte at least
abbrev pub invariant-loop-line : goal.invariant-loop-line
invariant-loop-line l = record {
  numbered : l.numbers.items ++ numbers_from (l.number + 1) (lines l.left) ≡ numbers_of l.bytes;
  few : l.number + length l.left ≤ length l.bytes;
}
