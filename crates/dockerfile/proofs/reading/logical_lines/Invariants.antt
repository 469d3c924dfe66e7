use Rattle.std.proofs.Common.{◌≤◌, ◌-◌, length, take}
use Rattle.lines.specs.Reader.{Holds}
use Rattle.dockerfile.proofs.reading.logical_lines.Given as goal

abbrev pub invariant-feeding : goal.invariant-feeding
invariant-feeding l = record {
  within : l.fed ≤ length l.text;
  held : Holds l.reader (take l.fed l.text);
}

abbrev pub decreases-feeding : goal.decreases-feeding
decreases-feeding l = length l.text - l.fed
