-- How an entry of a tree is read from JSON (own). It is strict: an object has the keys that are named here and no others. What a directory
-- has is `dir`, which is `true`; a file has its bytes, as a text or in hexadecimal. Both have a path, and may have a mode and an owner.
use Rattle.std.specs.Prelude.{ℕ, ◌+◌, ◌-◌, ◌*◌, ◌==◌, Bool, ◌&&◌, Option, Some, None, List, [], ◌∷◌, length, slice_index, nat_le, if◌then◌else◌, codes, is_some, unwrap_or}
use Rattle.std.specs.List.{list_all}
use Rattle.std.specs.Option.{option_and_then, option_map}
use Rattle.std.specs.Result.{result_ok}
use Rattle.hex.specs.Hex.{decode_of}
use Rattle.serde_json.specs.Data.{Data}
use Rattle.serde_json.specs.Find.{get, as_str, as_bool}
use Rattle.strict.specs.Strict.{strict, at_most_one, list_in, path_in, short_number_in}
use Rattle.trees.specs.TreeMap.{directory_meta, file_meta}
use Rattle.trees.specs.declared.meta.Meta.{Meta}
use Rattle.trees.specs.declared.entry.Entry.TheVariants.{Directory, File}
use Rattle.trees.specs.Row.{Row}

-- a digit from 0 to 7, as its character: 48 is `0`
abbrev pub is_octal : ℕ → Bool
is_octal digit = nat_le 48 digit && nat_le digit 55

-- the value of the digit at a position
abbrev pub digit_at : List ℕ → ℕ → ℕ
digit_at text n = slice_index text n - 48

-- the mode that a text spells: it is four octal digits
abbrev pub mode_of : List ℕ → Option ℕ
mode_of text =
    if (length text == 4) && list_all is_octal text then Some (512 * digit_at text 0 + (64 * digit_at text 1 + (8 * digit_at text 2 + digit_at text 3))) else None

unfoldable pub mode_in : Data → Option ℕ
mode_in d = option_and_then mode_of (as_str d)

-- a mode, a user and a group; what isn't told is as in `default`
abbrev pub meta_with : Meta → Option ℕ → Option ℕ → Option ℕ → Meta
meta_with default mode uid gid = record { mode = unwrap_or mode default.mode; uid = unwrap_or uid default.uid; gid = unwrap_or gid default.gid }

-- the same, by what stands at their keys: the numbers are of 32 bits, and what isn't there is as in `default`
abbrev pub meta_at : Meta → Option Data → Option Data → Option Data → Option Meta
meta_at default mode uid gid =
    option_and_then (λ mode. option_and_then (λ uid. option_map (λ gid. meta_with default mode uid gid) (at_most_one short_number_in gid)) (at_most_one short_number_in uid)) (at_most_one mode_in mode)

unfoldable pub meta_in : Meta → Data → Option Meta
meta_in default d = meta_at default (get (codes "mode") d) (get (codes "uid") d) (get (codes "gid") d)

-- the bytes that a text spells in hexadecimal, whose letters are of either case
abbrev pub bytes_of : List ℕ → Option (List ℕ)
bytes_of text = result_ok (decode_of text)

-- bytes, that stand as a text or in hexadecimal, but not both
abbrev pub content_of : Option Data → Option Data → Option (List ℕ)
content_of None None = None
content_of (Some text) None = as_str text
content_of None (Some hex) = option_and_then bytes_of (as_str hex)
content_of (Some text) (Some hex) = None

unfoldable pub content_in : Data → Option (List ℕ)
content_in d = content_of (get (codes "text") d) (get (codes "hex") d)

-- a directory with its path, by what stands at `dir` and `path`, and its mode and owner
abbrev pub directory_at : Option Data → Option Data → Option Meta → Option Row
directory_at dir path meta =
    option_and_then (λ flag. if flag then option_and_then (λ path. option_map (λ meta. (path, Directory meta)) meta) (option_and_then path_in path) else None) (option_and_then as_bool dir)

unfoldable pub directory_in : Data → Option Row
directory_in d =
    if is_some (strict (codes "dir" ∷ codes "gid" ∷ codes "mode" ∷ codes "path" ∷ codes "uid" ∷ []) d)
    then directory_at (get (codes "dir") d) (get (codes "path") d) (meta_in directory_meta d)
    else None

-- a file with its path, by what stands at `path`, its mode and owner, and its bytes
abbrev pub file_at : Option Data → Option Meta → Option (List ℕ) → Option Row
file_at path meta content = option_and_then (λ path. option_and_then (λ meta. option_map (λ content. (path, File meta content)) content) meta) (option_and_then path_in path)

unfoldable pub file_in : Data → Option Row
file_in d =
    if is_some (strict (codes "gid" ∷ codes "hex" ∷ codes "mode" ∷ codes "path" ∷ codes "text" ∷ codes "uid" ∷ []) d)
    then file_at (get (codes "path") d) (meta_in file_meta d) (content_in d)
    else None

-- an entry with its path: a directory where `dir` is there, else a file
abbrev pub row_in : Data → Option Row
row_in d = if is_some (get (codes "dir") d) then directory_in d else file_in d

-- a list of entries with their paths, as they are written
abbrev pub rows_of : Data → Option (List Row)
rows_of d = list_in row_in d
