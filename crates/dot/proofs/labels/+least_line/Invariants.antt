use Rattle.std.proofs.Common.{length}
use Rattle.dot.proofs.labels.+least_line.Given as goal

abbrev pub decreases-least_line : goal.decreases-least_line
decreases-least_line l = length l.lines.now
