-- What a line tells, and how the telling of it ends (own).
use Rattle.std.specs.Prelude.{◌≡◌, ℕ, ◌+◌, List, Option, Result, Ok, Err}
use Rattle.std.specs.Io.KnownBytes.{Appends}
use Rattle.counted.specs.Edges.{AppendsBeginning, line_of}
use Rattle.answering.specs.declared.status.Status.{Status}
use Rattle.answering.specs.declared.status.BuildFault.{BuildFault}
use Rattle.answering.specs.declared.status.BuildFault.TheVariants.{Memory, Device, Clash}
use Rattle.answering.specs.declared.told.Told.{Told}

-- a line of this status and this text
abbrev pub TellsText : Status → List ℕ → Told → Type 0
TellsText status text told = (told.status ≡ status) × (told.line ≡ line_of text)

-- How telling ends, by its result, of a writer whose bytes and count of failed calls these were and are: such a line was written; there was no
-- memory, and nothing was written; or a write failed, and a beginning of such a line was written.
abbrev pub IsTold : (Told → Type 0) → Option (List ℕ) → ℕ → Option (List ℕ) → ℕ → Result Status BuildFault → Type 0
IsTold Says old before new after (Ok status) = (told : Told) × Says told × (told.status ≡ status) × Appends old new told.line × (after ≡ before)
IsTold Says old before new after (Err Memory) = (new ≡ old) × (after ≡ before)
IsTold Says old before new after (Err Device) = (told : Told) × Says told × AppendsBeginning old new told.line × (after ≡ before + 1)
IsTold Says old before new after (Err Clash) = ⊥
