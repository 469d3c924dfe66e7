-- Which lists of entries are those of a tree (own): no path stands in a list twice, no file stands on the way to another entry, and the root
-- is no file.
use Rattle.std.specs.Prelude.{ℕ, Bool, true, false, not, ◌&&◌, ◌||◌, Option, Some, None, List, [], ◌∷◌, if◌then◌else◌}
use Rattle.std.specs.List.{list_any}
use Rattle.std.specs.Option.{option_and_then}
use Rattle.serde_json.specs.Data.{Data}
use Rattle.paths.specs.Fronts.{is_front}
use Rattle.paths.specs.Order.{path_eq}
use Rattle.trees.specs.TreeMap.{is_file}
use Rattle.trees.specs.Row.{Row}
use Rattle.entries.specs.Reading.{rows_of}

-- a file stands on the way to what another row is of
abbrev pub is_in_way : Row → Row → Bool
is_in_way row other = is_file (Some row.1) && is_front row.0 other.0

-- two rows can't stand in one list: they are of one path, or one of them is a file on the way to the other
abbrev pub clash : Row → Row → Bool
clash row other = path_eq row.0 other.0 || (is_in_way row other || is_in_way other row)

-- no two rows clash
abbrev pub are_apart : List Row → Bool
are_apart [] = true
are_apart (row ∷ rows) = not (list_any (clash row) rows) && are_apart rows

-- the root's path
abbrev pub is_root : List (List ℕ) → Bool
is_root [] = true
is_root (name ∷ names) = false

-- a file that is to be the root
abbrev pub is_root_file : Row → Bool
is_root_file row = is_file (Some row.1) && is_root row.0

-- the rows are a list of a tree's entries
unfoldable pub is_listing : List Row → Bool
is_listing rows = not (list_any is_root_file rows) && are_apart rows

-- a list of a tree's entries with their paths, as they are written
unfoldable pub listing_in : Data → Option (List Row)
listing_in d = option_and_then (λ rows. if is_listing rows then Some rows else None) (rows_of d)
