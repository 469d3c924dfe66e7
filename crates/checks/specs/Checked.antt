-- What checking a bundle gives: what is shown of all its faults (own).
use Rattle.std.specs.Prelude.{◌≡◌, ◌==◌, ℕ, List, [], Option, Some, None, Result, Ok, Err, length}
use Rattle.expand.specs.declared.reason.Rejection.{Rejection}
use Rattle.ignorefile.specs.File.{ignore_of}
use Rattle.ignorefile.specs.declared.line.Line.{Line}
use Rattle.imageconfig.specs.Reading.{config_in}
use Rattle.imageconfig.specs.declared.config.Config.{Config}
use Rattle.bundle.specs.Parts.{parts_of}
use Rattle.bundle.specs.Reading.{ignore_bytes}
use Rattle.bundle.specs.declared.parts.Parts.{Parts}
use Rattle.flaws.specs.Flaws.{flaw_in}
use Rattle.checks.specs.Checks.{AreFaultsOf}
use Rattle.checks.specs.Images.{image_names}
use Rattle.checks.specs.Shown.{readable_lines, shown_check}
use Rattle.checks.specs.declared.checked.Checked.{Checked}
use Rattle.checks.specs.declared.form.Form.{Form}

-- the text that the faults of a bundle with this ignore file are in: if a line of that is bad, it is the ignore file, and else the Dockerfile
abbrev pub faulty_part : Parts Config → Result (List Line) ℕ → List ℕ
faulty_part parts (Ok lines) = parts.files.dockerfile
faulty_part parts (Err number) = ignore_bytes parts.files.context

-- the same of what bytes are read as: those that are no bundle have no such text
abbrev pub faulty_text_in : Option (Parts Config) → List ℕ
faulty_text_in None = []
faulty_text_in (Some parts) = faulty_part parts (ignore_of (ignore_bytes parts.files.context))

-- the text whose lines the faults of a bundle's bytes count
abbrev pub faulty_text : List ℕ → List ℕ
faulty_text bytes = faulty_text_in (parts_of config_in bytes)

-- the target of a bundle with this ignore file; of one whose ignore file is bad none is asked for
abbrev pub target_part : Parts Config → Result (List Line) ℕ → Option (List ℕ)
target_part parts (Ok lines) = parts.files.target
target_part parts (Err number) = None

abbrev pub target_in : Option (Parts Config) → Option (List ℕ)
target_in None = None
target_in (Some parts) = target_part parts (ignore_of (ignore_bytes parts.files.context))

-- the target that a bundle's bytes ask for
abbrev pub asked_target : List ℕ → Option (List ℕ)
asked_target bytes = target_in (parts_of config_in bytes)

-- what checking bytes gives, whose Dockerfile is called so: all their faults in a form, with the lines or the place that they are about, and whether there is
-- none
pub record IsCheckOf (file bytes : List ℕ) (form : Form) (checked : Checked) : Type 0 where
  pub faults : List Rejection
  pub are : AreFaultsOf bytes faults
  pub text : checked.text ≡ shown_check file form (flaw_in config_in bytes) (asked_target bytes) (image_names bytes) (readable_lines (faulty_text bytes)) faults
  pub is_sound : checked.is_sound ≡ (length faults == 0)
