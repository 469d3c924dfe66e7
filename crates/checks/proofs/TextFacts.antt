-- The text that a bundle's faults are in.
use Rattle.std.proofs.Common.{◌≡◌, ◌==◌, ◌∙◌, inl, inr, ℕ, List, [], length, Option, Some, None, Result, Ok, Err, refl, sym, ap, subst, IfOk}
use Rattle.std.specs.Prelude.{unwrap_or}
use Rattle.plain.specs.declared.fault.Fault.TheVariants.{Because}
use Rattle.plain.specs.declared.memory.Memory.{Memory}
use Rattle.plain.specs.declared.refusal.Refusal.{Refusal}
use Rattle.expand.specs.declared.reason.Rejection.{Rejection}
use Rattle.ignorefile.specs.File.{ignore_of}
use Rattle.imageconfig.specs.Reading.{config_in}
use Rattle.imageconfig.specs.declared.config.Config.{Config}
use Rattle.std.specs.Option.{option_map}
use Rattle.bundle.specs.IgnoreFile.{ignore_bytes_of}
use Rattle.bundle.specs.Parts.{parts_of}
use Rattle.bundle.specs.Reading.{ignore_bytes, ReadsBundle}
use Rattle.bundle.specs.declared.parts.Parts.{Parts}
use Rattle.bundle.specs.declared.whole.Bundle.{Bundle}
use Rattle.flaws.specs.Flaws.{flaw_in}
use Rattle.flaws.specs.declared.flaw.Flaw.{Flaw}
use Rattle.checks.specs.Checks.{AreFaultsOf}
use Rattle.checks.specs.Checked.{faulty_part, faulty_text_in, faulty_text, target_part, target_in, asked_target, IsCheckOf}
use Rattle.checks.specs.Images.{image_names}
use Rattle.checks.specs.PrivateImages.{AreShownAlike}
use Rattle.checks.specs.Shown.{readable_lines, shown_check}
use Rattle.checks.specs.declared.checked.Checked.{Checked}
use Rattle.checks.specs.declared.checking.Findings.{Findings}
use Rattle.checks.specs.declared.form.Form.{Form}
use Rattle.checks.proofs.ImageFacts.{check-alike}

-- the bytes of an ignore file, none where there is no bundle
abbrev ignored : Option (Parts Config) → List ℕ
ignored read = unwrap_or (option_map (λ (parts : Parts Config). ignore_bytes parts.files.context) read) []

no_parts : (read : Option (Parts Config)) → read ≡ None → ignored read ≡ faulty_text_in read
no_parts read none = subst (λ r. ignored r ≡ faulty_text_in r) (sym none) refl

bad_line : (read : Option (Parts Config)) (parts : Parts Config) (number : ℕ) → read ≡ Some parts → ignore_of (ignore_bytes parts.files.context) ≡ Err number
    → ignored read ≡ faulty_text_in read
bad_line read parts number are bad = subst (λ r. ignored r ≡ faulty_text_in r) (sym are) (sym (ap (faulty_part parts) bad))

-- that of a refused bundle is its ignore file
pub refused_text : (bytes : List ℕ) (refusal : Refusal) → ReadsBundle config_in bytes (Err (Because refusal))
    → unwrap_or (ignore_bytes_of config_in bytes) [] ≡ faulty_text bytes
refused_text bytes refusal (inl none) = no_parts (parts_of config_in bytes) none.0
refused_text bytes refusal (inr these) = bad_line (parts_of config_in bytes) these.0 these.1.1.0 these.1.0 these.1.1.1.0

-- that of a bundle is its Dockerfile
pub bundle_text : (bytes : List ℕ) (bundle : Bundle Config) → ReadsBundle config_in bytes (Ok bundle) → bundle.dockerfile ≡ faulty_text bytes
bundle_text bytes bundle these =
    these.1.1.1.1.dockerfile ∙ sym (ap faulty_text_in these.1.0 ∙ ap (faulty_part these.0) these.1.1.1.0)

-- a bundle's target is what it asks for; one that is refused asks for none
pub bundle_target : (bytes : List ℕ) (bundle : Bundle Config) → ReadsBundle config_in bytes (Ok bundle) → bundle.target ≡ asked_target bytes
bundle_target bytes bundle these =
    these.1.1.1.1.target ∙ sym (ap target_in these.1.0 ∙ ap (target_part these.0) these.1.1.1.0)

no_target : (read : Option (Parts Config)) → read ≡ None → None ≡ target_in read
no_target read none = sym (ap target_in none)

bad_line_target : (read : Option (Parts Config)) (parts : Parts Config) (number : ℕ) → read ≡ Some parts → ignore_of (ignore_bytes parts.files.context) ≡ Err number
    → None ≡ target_in read
bad_line_target read parts number are bad = sym (ap target_in are ∙ ap (target_part parts) bad)

pub refused_target : (bytes : List ℕ) (refusal : Refusal) → ReadsBundle config_in bytes (Err (Because refusal)) → None ≡ asked_target bytes
refused_target bytes refusal (inl none) = no_target (parts_of config_in bytes) none.0
refused_target bytes refusal (inr these) = bad_line_target (parts_of config_in bytes) these.0 these.1.1.0 these.1.0 these.1.1.1.0

-- what is found has it
pub found_text : (result : Result Findings Memory) (one other : List ℕ) → one ≡ other → IfOk result (λ found. found.text ≡ one) → IfOk result (λ found. found.text ≡ other)
found_text (Ok found) one other same is = is ∙ same
found_text (Err memory) one other same is = tt

pub found_target : (result : Result Findings Memory) (one other : Option (List ℕ)) → one ≡ other → IfOk result (λ found. found.target ≡ one) → IfOk result (λ found. found.target ≡ other)
found_target (Ok found) one other same is = is ∙ same
found_target (Err memory) one other same is = tt

-- a bundle is wrong nowhere
pub found_flaw : (result : Result Findings Memory) (flaw : Option Flaw) → flaw ≡ None → IfOk result (λ found. found.flaw ≡ None) → IfOk result (λ found. found.flaw ≡ flaw)
found_flaw (Ok found) flaw none is = is ∙ sym none
found_flaw (Err memory) flaw none is = tt

-- what is found and shown is what a check gives
pub checked : (file bytes : List ℕ) (form : Form) (found : Findings) (images : List (List ℕ)) (made : Checked) → AreFaultsOf bytes found.faults
    → found.text ≡ faulty_text bytes → found.target ≡ asked_target bytes → found.flaw ≡ flaw_in config_in bytes → AreShownAlike images (image_names bytes) found.faults
    → made.text ≡ shown_check file form found.flaw found.target images (readable_lines found.text) found.faults → made.is_sound ≡ (length found.faults == 0)
    → IsCheckOf file bytes form made
checked file bytes form found images made are text target flaw alike shown sound = record {
  faults = found.faults;
  are = are;
  text = shown ∙ check-alike file form found.flaw found.target images (image_names bytes) (readable_lines found.text) found.faults alike
      ∙ (λ i. shown_check file form (flaw i) (target i) (image_names bytes) (readable_lines (text i)) found.faults);
  is_sound = sound;
}

-- a check gives one thing
abbrev pub HaveFaults : Type 0
HaveFaults = (bytes : List ℕ) → (faults : List Rejection) × AreFaultsOf bytes faults

abbrev pub HaveOneList : Type 0
HaveOneList = (bytes : List ℕ) (faults others : List Rejection) → AreFaultsOf bytes faults → AreFaultsOf bytes others → faults ≡ others

pub some_check : HaveFaults → (file bytes : List ℕ) (form : Form) → (made : Checked) × IsCheckOf file bytes form made
some_check some file bytes form =
    let found = some bytes in (
      record { text = shown_check file form (flaw_in config_in bytes) (asked_target bytes) (image_names bytes) (readable_lines (faulty_text bytes)) found.0; is_sound = length found.0 == 0 },
      record { faults = found.0; are = found.1; text = refl; is_sound = refl },
    )

same_checked : (one other : Checked) → one.text ≡ other.text → one.is_sound ≡ other.is_sound → one ≡ other
same_checked one other text sound = λ i. record { text = text i; is_sound = sound i }

pub one_sound : HaveOneList → (file called bytes : List ℕ) (form another : Form) (one other : Checked) → IsCheckOf file bytes form one
    → IsCheckOf called bytes another other
    → one.is_sound ≡ other.is_sound
one_sound unique file called bytes form another one other these those =
    let same = unique bytes these.faults those.faults these.are those.are in
    these.is_sound ∙ ap (λ (faults : List Rejection). length faults == 0) same ∙ sym those.is_sound

pub one_check : HaveOneList → (file bytes : List ℕ) (form : Form) (one other : Checked) → IsCheckOf file bytes form one → IsCheckOf file bytes form other → one ≡ other
one_check unique file bytes form one other these those =
    let same = unique bytes these.faults those.faults these.are those.are in
    same_checked one other
    (these.text ∙ ap (shown_check file form (flaw_in config_in bytes) (asked_target bytes) (image_names bytes) (readable_lines (faulty_text bytes))) same ∙ sym those.text)
    (one_sound unique file file bytes form form one other these those)
