use Rattle.std.proofs.Common.{refl}
use Rattle.plain.specs.Limits.{most_bundle_bytes}
use Rattle.build.proofs.graphing.run_graph.Goals as goal

pub graph_within-requires-clause-limit : goal.graph_within-requires-clause-limit
unfolding most_bundle_bytes
graph_within-requires-clause-limit g c κs within = refl
