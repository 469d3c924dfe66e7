use Rattle.lines.proofs.GrowLaws.{ready_some}
use Rattle.lines.proofs.ReadyLaws.{ready_same}
use Rattle.lines.proofs.laws.ready_lines_are_unique.Goals as goal

pub returns : goal.returns
returns c = record { some = ready_some; one = ready_same }
