-- Fingerprints of paths (own, the mixing of FNV-1a): of two paths with different ones it is known that they differ, and nothing else is used of them.
use Rattle.std.specs.Prelude.{ℕ, ◌*◌, ◌%◌, ◌^◌, Bool, true, not, ◌&&◌, Some, List, [], ◌∷◌, nat_eq, if◌then◌else◌}
use Rattle.std.specs.Int.Bits.{bit_xor}
use Rattle.std.specs.List.{list_any}
use Rattle.trees.specs.TreeMap.{is_file}
use Rattle.trees.specs.Row.{Row}

-- a fingerprint with a byte more
unfoldable pub after_byte : ℕ → ℕ → ℕ
after_byte number byte = (bit_xor number byte * 1099511628211) % 2 ^ 64

-- a fingerprint with a name more, and a slash behind it
abbrev pub after_name : ℕ → List ℕ → ℕ
after_name number [] = after_byte number 47
after_name number (byte ∷ bytes) = after_name (after_byte number byte) bytes

-- a fingerprint with more names
abbrev pub after_names : ℕ → List (List ℕ) → ℕ
after_names number [] = number
after_names number (name ∷ names) = after_names (after_name number name) names

-- the fingerprint of the root
unfoldable pub root_fingerprint : ℕ
root_fingerprint = 14695981039346656037

-- the fingerprint of a path
abbrev pub fingerprint : List (List ℕ) → ℕ
fingerprint path = after_names root_fingerprint path

-- the fingerprints of the rows that are files
abbrev pub file_fingerprints : List Row → List ℕ
file_fingerprints [] = []
file_fingerprints (row ∷ rows) = if is_file (Some row.1) then fingerprint row.0 ∷ file_fingerprints rows else file_fingerprints rows

-- none of these numbers is a fingerprint, or that with some of the names more, but not all of them
abbrev pub is_clear_from : List ℕ → ℕ → List (List ℕ) → Bool
is_clear_from numbers number [] = true
is_clear_from numbers number (name ∷ names) = not (list_any (nat_eq number) numbers) && is_clear_from numbers (after_name number name) names

-- none of these numbers is the fingerprint of a path that the path lies below
abbrev pub is_clear : List ℕ → List (List ℕ) → Bool
is_clear numbers path = is_clear_from numbers root_fingerprint path
