use Rattle.std.proofs.Common.{refl}
use Rattle.plain.specs.Limits.{most_bundle_bytes}
use Rattle.build.proofs.building.run_build_keeping.Goals as goal

pub build_within-requires-clause-limit : goal.build_within-requires-clause-limit
unfolding most_bundle_bytes
build_within-requires-clause-limit g c κs within = refl
