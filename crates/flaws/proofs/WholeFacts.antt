-- Where bytes are wrong, by what reading them told.
use Rattle.std.proofs.Common.{◌≡◌, ℕ, ◌<◌, ◌≤◌, Bool, true, false, cond, List, length, Option, Some, refl}
use Rattle.std.specs.Prelude.{IsUtf8}
use Rattle.std.specs.Str.{is_utf8}
use Rattle.std.specs.Str.Lossy.{utf8_valid_len}
use Rattle.std.proofs.lemmas.Bool.{le-leb, lt-leb}
use Rattle.std.proofs.lemmas.Str.{is_utf8-from_IsUtf8, IsUtf8-from_is_utf8}
use Rattle.serde_json.specs.Data.{Data}
use Rattle.serde_json.specs.Read.{read}
use Rattle.flaws.specs.Flaws.{json_flaw, flaw_within}
use Rattle.flaws.specs.declared.flaw.Flaw.TheVariants.{TooLong, NoText}

module _ {C : Type 0} (config : Data → Option C) where
  -- more bytes than the limit are too long
  pub flaw-long : (most : ℕ) (bytes : List ℕ) → most < length bytes → flaw_within most config bytes ≡ Some TooLong
  unfolding flaw_within
  flaw-long most bytes long = rw (lt-leb (length bytes) most long) refl

  -- a text is wrong where the JSON in it is
  pub flaw-text : (most : ℕ) (bytes : List ℕ) → length bytes ≤ most → IsUtf8 bytes → flaw_within most config bytes ≡ json_flaw config (read bytes)
  unfolding flaw_within
  flaw-text most bytes short text = rw (le-leb (length bytes) most short, is_utf8-from_IsUtf8 bytes text) refl

  text-or-none : (bytes : List ℕ) (b : Bool) → is_utf8 bytes ≡ b → ¬ (IsUtf8 bytes) → cond b (json_flaw config (read bytes)) (Some (NoText (utf8_valid_len bytes))) ≡ Some (NoText (utf8_valid_len bytes))
  text-or-none bytes true is none = absurd (none (IsUtf8-from_is_utf8 bytes is))
  text-or-none bytes false is none = refl

  -- bytes that are no text are wrong after those that are
  pub flaw-none : (most : ℕ) (bytes : List ℕ) → length bytes ≤ most → ¬ (IsUtf8 bytes) → flaw_within most config bytes ≡ Some (NoText (utf8_valid_len bytes))
  unfolding flaw_within
  flaw-none most bytes short none = rw (le-leb (length bytes) most short) (text-or-none bytes (is_utf8 bytes) refl none)
