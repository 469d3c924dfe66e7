-- What a bundle's bytes hold, by what reading them told.
use Rattle.std.proofs.Common.{◌≡◌, ℕ, ◌<◌, ◌≤◌, Bool, true, false, cond, List, length, Option, Some, None, Ok, Err, Result, refl, inr}
use Rattle.std.specs.Prelude.{IsUtf8}
use Rattle.std.specs.Str.{is_utf8}
use Rattle.std.proofs.lemmas.Bool.{le-leb, lt-leb}
use Rattle.std.proofs.lemmas.Str.{is_utf8-from_IsUtf8, IsUtf8-from_is_utf8}
use Rattle.std.specs.Option.{option_and_then}
use Rattle.serde_json.specs.Data.{Data}
use Rattle.serde_json.specs.Read.{read}
use Rattle.plain.specs.declared.fault.Fault.{Fault}
use Rattle.plain.specs.declared.fault.Fault.TheVariants.{Because, Memory}
use Rattle.plain.specs.declared.refusal.Refusal.{Refusal}
use Rattle.bundle.specs.declared.parts.Parts.{Parts}
use Rattle.bundle.specs.declared.whole.Bundle.{Bundle}
use Rattle.bundle.specs.Parts.{parts_in, parts_within, parts_of}
use Rattle.bundle.specs.Reading.{Completes, ReadsBundle}
use Rattle.bundle.specs.declared.whole.IgnoreFile.{IgnoreFile}
use Rattle.bundle.specs.IgnoreFile.{ReadsIgnoreFile}
use Rattle.bundle.specs.PrivateIgnore.{FindsIgnore}

module _ {C : Type 0} (config : Data → Option C) where
  -- more bytes than the limit are no bundle
  pub within-long : (most : ℕ) (bytes : List ℕ) → most < length bytes → parts_within most config bytes ≡ None
  unfolding parts_within
  within-long most bytes long = rw (lt-leb (length bytes) most long)

  -- a text is what the JSON in it gives
  pub within-text : (most : ℕ) (bytes : List ℕ) → length bytes ≤ most → IsUtf8 bytes → parts_within most config bytes ≡ option_and_then (parts_in config) (read bytes)
  unfolding parts_within
  within-text most bytes short text = rw (le-leb (length bytes) most short, is_utf8-from_IsUtf8 bytes text)

  text-or-none : (bytes : List ℕ) (b : Bool) → is_utf8 bytes ≡ b → ¬ (IsUtf8 bytes) → cond b (option_and_then (parts_in config) (read bytes)) None ≡ None
  text-or-none bytes true is none = absurd (none (IsUtf8-from_is_utf8 bytes is))
  text-or-none bytes false is none = refl

  -- bytes that are no text are no bundle
  pub within-none : (most : ℕ) (bytes : List ℕ) → length bytes ≤ most → ¬ (IsUtf8 bytes) → parts_within most config bytes ≡ None
  unfolding parts_within
  within-none most bytes short none = rw (le-leb (length bytes) most short, text-or-none bytes (is_utf8 bytes) refl none)

  -- what the parts give, the bytes give
  pub reads : (bytes : List ℕ) (parts : Parts C) (r : Result (Bundle C) (Fault Refusal)) → parts_of config bytes ≡ Some parts → Completes parts r → ReadsBundle config bytes r
  reads bytes parts (Ok bundle) e h = (parts, (e, h))
  reads bytes parts (Err (Because refusal)) e h = inr (parts, (e, h))
  reads bytes parts (Err Memory) e h = tt

  -- what their context gives of an ignore file
  pub ignore_read : (bytes : List ℕ) (parts : Parts C) (r : Result IgnoreFile (Fault Refusal)) → parts_of config bytes ≡ Some parts → FindsIgnore parts.files.context r → ReadsIgnoreFile config bytes r
  ignore_read bytes parts (Ok file) e h = record { parts = parts; is = e; has = h }
  ignore_read bytes parts (Err (Because refusal)) e h = inr (parts, (e, h))
  ignore_read bytes parts (Err Memory) e h = tt
