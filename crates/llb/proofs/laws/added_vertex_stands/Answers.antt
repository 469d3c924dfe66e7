use Rattle.llb.proofs.GraphLaws.{added_stands}
use Rattle.llb.proofs.laws.added_vertex_stands.Goals as goal

pub returns : goal.returns
returns c = added_stands
