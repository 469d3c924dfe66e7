use Rattle.llb.proofs.LineFacts.{lines_added}
use Rattle.llb.proofs.PlacesLaws.{AreLines-with_lines}
use Rattle.llb.proofs.laws.lines_are_joined.Goals as goal

pub returns-clause-among : goal.returns-clause-among
returns-clause-among c = lines_added

pub returns-clause-ascend : goal.returns-clause-ascend
returns-clause-ascend c = AreLines-with_lines
