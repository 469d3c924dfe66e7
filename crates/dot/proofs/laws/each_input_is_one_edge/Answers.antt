use Rattle.dot.proofs.EdgeLaws.{each_edge}
use Rattle.dot.proofs.laws.each_input_is_one_edge.Goals as goal

pub returns : goal.returns
returns c = each_edge
