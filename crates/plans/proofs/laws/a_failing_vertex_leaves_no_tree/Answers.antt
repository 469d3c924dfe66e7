use Rattle.plans.proofs.NeedsLaws.{failing_leaves}
use Rattle.plans.proofs.laws.a_failing_vertex_leaves_no_tree.Goals as goal

pub returns : goal.returns
returns c = failing_leaves
