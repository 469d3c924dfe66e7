use Rattle.plain.specs.Limits.{most_bundle_bytes}
use Rattle.flaws.proofs.BundleFacts.{no_flaw}
use Rattle.flaws.proofs.laws.a_bundle_has_no_flaw.Goals as goal

pub returns : goal.returns
returns g c config bytes = no_flaw config most_bundle_bytes bytes
