-- What is written of the faults of a bundle, and how that ends (own).
use Rattle.std.specs.Prelude.{◌≡◌, ℕ, Bool, true, false, List, Result, codes, unwrap_or}
use Rattle.checks.specs.Checked.{IsCheckOf}
use Rattle.checks.specs.declared.checked.Checked.{Checked}
use Rattle.checks.specs.declared.form.Form.{Form}
use Rattle.checks.specs.declared.form.Form.TheVariants.{Plain, Json}
use Rattle.command.specs.declared.task.Choice.{Choice}
use Rattle.answering.specs.declared.status.Status.{Status}
use Rattle.answering.specs.declared.status.Status.TheVariants.{Built, Failed, Refused}
use Rattle.program.specs.declared.fault.TellFault.{TellFault}
use Rattle.build.specs.Ends.{Devices}
use Rattle.program.specs.Telling.{TellingEnds, never}

-- what positions call the Dockerfile: by its name, or by that of the file that is chosen for it
abbrev pub file_shown : Choice → List ℕ
file_shown choice = unwrap_or choice.file (codes "Dockerfile")

-- the form of faults by the flag `--json`: a line of JSON for each, or as a person reads them
abbrev pub form_by : Bool → Form
form_by true = Json
form_by false = Plain

-- What is written of a bundle of these bytes: all its faults in a form, which is nothing if there is none. What a build refuses is such a fault, so
-- no bundle is refused.
abbrev pub TellsFaults : List ℕ → Form → List ℕ → Status → List ℕ → Type 0
TellsFaults file form bytes Built text = (checked : Checked) × IsCheckOf file bytes form checked × (checked.is_sound ≡ true) × (text ≡ checked.text)
TellsFaults file form bytes Failed text = (checked : Checked) × IsCheckOf file bytes form checked × (checked.is_sound ≡ false) × (text ≡ checked.text)
TellsFaults file form bytes Refused text = ⊥

-- how writing it ends; it never stops
abbrev pub CheckEnds : List ℕ → Form → Devices → Devices → Result Status TellFault → Type 0
CheckEnds file form old new ended = TellingEnds (TellsFaults file form) never old new ended
