use Rattle.std.proofs.Common.{refl}
use Rattle.plain.specs.Limits.{most_bundle_bytes}
use Rattle.program.proofs.telling.tell_bundle.Goals as goal

pub tell_within-requires-clause-limit : goal.tell_within-requires-clause-limit
unfolding most_bundle_bytes
tell_within-requires-clause-limit g c κs within = refl
