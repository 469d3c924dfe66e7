-- The digest of an image, which pins the image's name (OCI image specification, descriptors: the digest `sha256:` with `[a-f0-9]{64}`).
use Rattle.std.specs.Prelude.{ℕ, ◌==◌, Bool, ◌&&◌, ◌||◌, Option, Some, None, List, length, drop, nat_eq, nat_le, codes, if◌then◌else◌}
use Rattle.std.specs.List.{list_all, starts_with}
use Rattle.std.specs.Option.{option_and_then}
use Rattle.serde_json.specs.Data.{Data}
use Rattle.serde_json.specs.Find.{as_str}

-- a hexadecimal digit in lower case
unfoldable pub is_digit : ℕ → Bool
is_digit byte = (nat_le 48 byte && nat_le byte 57) || (nat_le 97 byte && nat_le byte 102)

-- so many such digits
abbrev pub are_digits : ℕ → List ℕ → Bool
are_digits count bytes = length bytes == count && list_all is_digit bytes

-- how many digits a SHA-256 has
unfoldable pub digit_count : ℕ
digit_count = 64

-- a text that is a digest
unfoldable pub is_digest : List ℕ → Bool
is_digest text = starts_with nat_eq text (codes "sha256:") && are_digits digit_count (drop 7 text)

-- the digest that a value is
unfoldable pub digest_in : Data → Option (List ℕ)
digest_in d = option_and_then (λ text. if is_digest text then Some text else None) (as_str d)
