-- What is written of the configuration of a bundle's target, and how that ends (own).
use Rattle.std.specs.Prelude.{◌≡◌, ℕ, List, Result, Ok, Err}
use Rattle.expand.specs.declared.reason.Rejection.{Rejection}
use Rattle.counted.specs.Edges.{line_of}
use Rattle.serde_json.specs.Written.{compact_text}
use Rattle.imageconfig.specs.Writing.{config_data}
use Rattle.evaluation.specs.declared.evaluated.Evaluated.{Evaluated}
use Rattle.bundle.specs.Answer.{refused_text}
use Rattle.answering.specs.declared.status.Status.{Status}
use Rattle.answering.specs.declared.status.Status.TheVariants.{Built, Failed, Refused}
use Rattle.program.specs.declared.fault.TellFault.{TellFault}
use Rattle.build.specs.Meaning.{Asks}
use Rattle.build.specs.Ends.{Devices}
use Rattle.program.specs.Telling.{TellingEnds, never}

-- What is written of a bundle of these bytes: the configuration of its target as a line of compact JSON, whether or not a build of it would fail; or
-- the refusal of the bundle as a line.
abbrev pub TellsConfig : List ℕ → Status → List ℕ → Type 0
TellsConfig bytes Built text = (made : Evaluated) × Asks bytes (Ok made) × (text ≡ line_of (compact_text (config_data made.config)))
TellsConfig bytes Failed text = ⊥
TellsConfig bytes Refused text = (refusal : Rejection) × Asks bytes (Err refusal) × (text ≡ line_of (refused_text refusal))

-- how writing it ends; it never stops
abbrev pub ConfigEnds : Devices → Devices → Result Status TellFault → Type 0
ConfigEnds old new ended = TellingEnds TellsConfig never old new ended
