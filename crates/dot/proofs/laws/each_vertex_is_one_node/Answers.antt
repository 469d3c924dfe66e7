use Rattle.dot.proofs.NodeLaws.{each_once}
use Rattle.dot.proofs.laws.each_vertex_is_one_node.Goals as goal

pub returns : goal.returns
returns c = each_once
