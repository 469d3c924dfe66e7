-- The texts of answers.
use Rattle.std.proofs.Common.{◌≡◌, ℕ, false, List, refl}
use Rattle.serde_json.specs.Written.{has_float}
use Rattle.expand.specs.declared.reason.Reason.{Reason}
use Rattle.expand.specs.declared.reason.Reason.TheVariants.{Coded, Required}
use Rattle.expand.specs.declared.reason.Rejection.{Rejection}
use Rattle.trees.specs.declared.cause.Cause.{Cause}
use Rattle.bundle.specs.Answer.{failed_data, coded_data, required_data, refused_by, refused_data}

-- no answer that is held whole holds a float
pub failed_is_plain : (line : ℕ) (cause : Cause) → has_float (failed_data line cause) ≡ false
unfolding failed_data
failed_is_plain line cause = refl

refused_by_is_plain : (reason : Reason) (line : ℕ) → has_float (refused_by reason line) ≡ false
unfolding coded_data required_data
refused_by_is_plain (Coded code) line = refl
refused_by_is_plain (Required text) line = refl

pub refused_is_plain : (refusal : Rejection) → has_float (refused_data refusal) ≡ false
refused_is_plain refusal = refused_by_is_plain refusal.reason refusal.line
