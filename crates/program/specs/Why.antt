-- What is written of why paths are kept or left out, and how that ends (own).
use Rattle.std.specs.Prelude.{◌≡◌, ℕ, List, Result, Ok, Err}
use Rattle.plain.specs.declared.fault.Fault.TheVariants.{Because}
use Rattle.plain.specs.declared.refusal.Refusal.{Refusal}
use Rattle.expand.specs.Reasons.{rejection_of}
use Rattle.counted.specs.Edges.{line_of}
use Rattle.imageconfig.specs.Reading.{config_in}
use Rattle.bundle.specs.Answer.{refused_text}
use Rattle.reasons.specs.Reasons.{TellsReasons}
use Rattle.answering.specs.declared.status.Status.{Status}
use Rattle.answering.specs.declared.status.Status.TheVariants.{Built, Failed, Refused}
use Rattle.program.specs.declared.fault.TellFault.{TellFault}
use Rattle.build.specs.Ends.{Devices}
use Rattle.program.specs.Telling.{TellingEnds, never}

-- what is written of paths for a bundle of these bytes: a line for each path, or the refusal of the bundle as a line
abbrev pub TellsWhy : List (List ℕ) → List ℕ → Status → List ℕ → Type 0
TellsWhy paths bytes Built text = TellsReasons config_in bytes paths (Ok text)
TellsWhy paths bytes Failed text = ⊥
TellsWhy paths bytes Refused text =
    (refusal : Refusal) × TellsReasons config_in bytes paths (Err (Because refusal)) × (text ≡ line_of (refused_text (rejection_of refusal)))

-- how writing it ends; it never stops
abbrev pub WhyEnds : List (List ℕ) → Devices → Devices → Result Status TellFault → Type 0
WhyEnds paths old new ended = TellingEnds (TellsWhy paths) never old new ended
