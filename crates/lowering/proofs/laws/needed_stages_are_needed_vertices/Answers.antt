use Rattle.lowering.proofs.NeededFacts.{stands_needed}
use Rattle.lowering.proofs.laws.needed_stages_are_needed_vertices.Goals as goal

pub returns : goal.returns
returns g c = stands_needed
