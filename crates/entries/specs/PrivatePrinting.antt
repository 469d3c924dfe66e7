-- How an entry's text begins and ends.
use Rattle.std.specs.Prelude.{ℕ, Bool, true, ◌++◌, List, [], ◌∷◌, drop, codes, decimal}
use Rattle.json.specs.Print.{escape}
use Rattle.paths.specs.Path.{rooted, text_of}
use Rattle.serde_json.specs.Written.{comma_if, compact_text}
use Rattle.trees.specs.declared.meta.Meta.{Meta}
use Rattle.trees.specs.declared.entry.Entry.{Entry}
use Rattle.trees.specs.Row.{Row}
use Rattle.entries.specs.Written.{mode_text, entry_data}

-- what a directory's text has before its mode's digits, behind a comma where others stand before
abbrev pub directory_start : Bool → ℕ → List ℕ
directory_start later gid = comma_if later ++ (codes "{\"dir\":true,\"gid\":" ++ (decimal gid ++ codes ",\"mode\":\""))

-- what a file's text has before its bytes, behind a comma where others stand before
abbrev pub file_start : Bool → ℕ → List ℕ
file_start later gid = comma_if later ++ (codes "{\"gid\":" ++ (decimal gid ++ codes ",\"hex\":\""))

-- a mode's digits, and what stands between them and the path
abbrev pub mode_and_key : ℕ → List ℕ
mode_and_key mode = mode_text mode ++ codes "\",\"path\":\""

-- what stands behind the path
abbrev pub user_end : ℕ → List ℕ
user_end uid = codes "\",\"uid\":" ++ (decimal uid ++ codes "}")

-- what directories and files end with, from the mode's digits on: mode, path and user
abbrev pub end_text : List (List ℕ) → Meta → List ℕ
end_text path meta =
    mode_text meta.mode ++ (codes "\",\"path\":\"" ++ (escape (text_of path) ++ (codes "\",\"uid\":" ++ (decimal meta.uid ++ codes "}"))))

-- what the text of a path has behind its first names, as it stands in a JSON string: of the root's path it is the whole text
abbrev pub text_behind : ℕ → List (List ℕ) → List ℕ
text_behind first [] = codes "/"
text_behind first (name ∷ names) = escape (rooted (drop first (name ∷ names)))

-- an entry as text
unfoldable pub entry_text : List (List ℕ) → Entry → List ℕ
entry_text path entry = compact_text (entry_data path entry)

-- entries as text, each behind a comma, but for the first where none stands before
abbrev pub rows_text : Bool → List Row → List ℕ
rows_text later [] = []
rows_text later (row ∷ rows) = (comma_if later ++ entry_text row.0 row.1) ++ rows_text true rows

-- the same with the closing bracket
abbrev pub rest_text : Bool → List Row → List ℕ
rest_text later rows = rows_text later rows ++ codes "]"
