use Rattle.std.proofs.Common.{refl}
use Rattle.plain.specs.Limits.{most_bundle_bytes}
use Rattle.program.proofs.explaining.explain_bundle.Goals as goal

pub explain_within-requires-clause-limit : goal.explain_within-requires-clause-limit
unfolding most_bundle_bytes
explain_within-requires-clause-limit g c κs within = refl
