-- What is read of images whose names alone count, and when these are needed.
use Rattle.std.specs.Prelude.{◌≡◌, ℕ, Bool, true, false, List, Option, Some}
use Rattle.serde_json.specs.Data.{Data}
use Rattle.plain.specs.declared.refusal.Code.TheVariants.{R12}
use Rattle.expand.specs.declared.reason.Reason.{Reason}
use Rattle.expand.specs.declared.reason.Reason.TheVariants.{Coded, Required}
use Rattle.expand.specs.declared.reason.Rejection.{Rejection}
use Rattle.checks.specs.Shown.{shown_faults}
use Rattle.checks.specs.declared.form.Form.{Form}
use Rattle.checks.specs.declared.images.Unread.{Unread}

-- any value is read so
abbrev pub unread : Data → Option Unread
unread d = Some (record {})

-- a fault is shown by the names of images
abbrev pub needs_images : Reason → Bool
needs_images (Coded R12) = true
needs_images (Coded code) = false
needs_images (Required text) = false

-- faults are shown alike with these names of images and with others
abbrev pub AreShownAlike : List (List ℕ) → List (List ℕ) → List Rejection → Type 0
AreShownAlike images others faults =
    (file : List ℕ) (form : Form) (target : Option (List ℕ)) (lines : List (List ℕ))
    → shown_faults file form target images lines faults ≡ shown_faults file form target others lines faults
