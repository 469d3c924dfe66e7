use Rattle.lines.proofs.GrowLaws.{ready_front}
use Rattle.lines.proofs.laws.ready_lines_stay.Goals as goal

pub returns : goal.returns
returns c = ready_front
