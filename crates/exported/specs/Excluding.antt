-- What BuildKit is told of the files that a build isn't given: a list of patterns, each of which relates to one path and so leaves out what lies below
-- it too (own; BuildKit, the attribute `local.excludepatterns`). BuildKit reads a pattern as Docker does one line of an ignore file: it cuts off blanks
-- at the ends, takes a `!` at the beginning for an exception, and makes a regular expression of the rest, in which `.` and `$` alone mean themselves
-- (moby, `patternmatcher`).
use Rattle.std.specs.Prelude.{ℕ, Bool, true, false, ◌&&◌, ◌||◌, Option, Some, None, List, [], ◌∷◌, ◌++◌, length, drop, map, ◌==◌, if◌then◌else◌}
use Rattle.std.specs.Str.{chars, encode_utf8_all}
use Rattle.serde_json.specs.Data.{string}
use Rattle.serde_json.specs.Written.{compact_text}
use Rattle.strict.specs.Written.{list_data}
use Rattle.paths.specs.Path.{text_of}
use Rattle.exported.specs.Patterns.{is_sign}

-- a character that means more in a pattern than itself: a sign, or one of `(`, `)`, `+`, `\`, `]`, `^`, `{`, `|` and `}`
unfoldable pub is_meant : ℕ → Bool
is_meant c = is_sign c || (c == 40 || (c == 41 || (c == 43 || (c == 92 || (c == 93 || (c == 94 || (c == 123 || (c == 124 || c == 125))))))))

-- a character of a path in a pattern that relates to it alone, by whether the path begins with it and ends with it: a class for a blank that would be
-- cut off, and a `\` before what means more than itself
unfoldable pub as_plain : Bool → Bool → ℕ → List ℕ
as_plain begins ends c =
    if c == 32 && (begins || ends) then 91 ∷ 32 ∷ 93 ∷ []
    else (if is_meant c || (c == 33 && begins) then 92 ∷ c ∷ [] else c ∷ [])

-- characters of a path to its end in such a pattern
abbrev pub plain_from : Bool → List ℕ → List ℕ
plain_from begins [] = []
plain_from begins (c ∷ cs) = as_plain begins (length cs == 0) c ++ plain_from false cs

-- the pattern that relates to a path alone: BuildKit's paths have no `/` at the beginning
unfoldable pub pattern_of : List (List ℕ) → List ℕ
pattern_of path = encode_utf8_all (plain_from true (drop 1 (chars (text_of path))))

-- a list of patterns as JSON; nothing where there are none
abbrev pub patterns_text : List (List ℕ) → Option (List ℕ)
patterns_text [] = None
patterns_text (pattern ∷ patterns) = Some (compact_text (list_data string (pattern ∷ patterns)))

-- the list of the patterns of some paths
abbrev pub exclude_list : List (List (List ℕ)) → Option (List ℕ)
exclude_list paths = patterns_text (map pattern_of paths)
