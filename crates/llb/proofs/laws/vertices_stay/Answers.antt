use Rattle.llb.proofs.GraphLaws.{added_grows}
use Rattle.llb.proofs.laws.vertices_stay.Goals as goal

pub returns : goal.returns
returns c = added_grows
