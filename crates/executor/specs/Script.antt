-- How the words of a run become commands (own): a script is cut into lines, and a line into words.
use Rattle.std.specs.Prelude.{ℕ, Bool, true, false, ◌==◌, List, [], ◌∷◌, ◌++◌, map, filter, codes, nat_eq, if◌then◌else◌, Option, Some, None}
use Rattle.std.specs.List.{slice_split}
use Rattle.std.specs.Cmp.Lexicographic.{pointwise}
use Rattle.ascii.specs.Pieces.{pieces}
use Rattle.runs.specs.declared.run.RunRequest.{RunRequest}

-- at which bytes a script is cut into lines
abbrev pub is_line_feed : ℕ → Bool
is_line_feed byte = byte == 10

-- whether a line has a word
abbrev pub has_word : List (List ℕ) → Bool
has_word [] = false
has_word (word ∷ words) = true

-- the commands of a script, each as its words: one for each line that has a word. A line's words are its pieces between blanks
abbrev pub commands : List ℕ → List (List (List ℕ))
commands script = filter has_word (map pieces (slice_split is_line_feed script))

-- whether two texts have the same bytes
abbrev pub is_text : List ℕ → List ℕ → Bool
is_text = pointwise nat_eq

-- the script that a run's words hold, if they do: the last word, where the last word but one is `-c`, as a shell takes it
abbrev pub script_of : List (List ℕ) → Option (List ℕ)
script_of [] = None
script_of (word ∷ []) = None
script_of (flag ∷ script ∷ []) = if is_text flag (codes "-c") then Some script else None
script_of (first ∷ flag ∷ script ∷ rest) = script_of (flag ∷ script ∷ rest)

-- the commands that a script gives, or where there is none the words as one command
abbrev pub commands_or : Option (List ℕ) → List (List ℕ) → List (List (List ℕ))
commands_or None words = words ∷ []
commands_or (Some script) words = commands script

-- the commands that a run's words hold, in order
abbrev pub commands_of : List (List ℕ) → List (List (List ℕ))
commands_of words = commands_or (script_of words) words

-- the request with the words of a shell that is handed a script
abbrev pub with_script : RunRequest → List (List ℕ) → List ℕ → RunRequest
with_script request front script = record request { words = front ++ codes "-c" ∷ script ∷ [] }
