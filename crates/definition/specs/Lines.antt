-- The lines of the Dockerfile that an operation comes from, at the key `places` beside what the operation says (own). They are no part of
-- the operation: its text, by which it has its address, is that without them.
use Rattle.std.specs.Prelude.{ℕ, ◌&&◌, Bool, true, false, List, [], ◌∷◌, Option, Some, None, if◌then◌else◌, codes, nat_lt, nat_le}
use Rattle.std.specs.Ordering.{nat_cmp, match_ordering}
use Rattle.std.specs.Cmp.Lexicographic.{slice_cmp}
use Rattle.std.specs.Option.{option_and_then}
use Rattle.serde_json.specs.Data.{Data, null, boolean, number, unsigned, string, array, object, Members, no_members, member, put}
use Rattle.serde_json.specs.Find.{get}
use Rattle.plain.specs.Limits.{most_line_number}
use Rattle.strict.specs.Strict.{list_in, short_number_in}
use Rattle.strict.specs.Written.{list_data}

-- whether numbers are those of lines in ascending order, all after `low`
abbrev pub ascend : ℕ → List ℕ → Bool
ascend low [] = true
ascend low (line ∷ lines) = nat_lt low line && (nat_le line most_line_number && ascend line lines)

-- numbers of lines in ascending order, each once; none if they are others
abbrev pub as_lines : List ℕ → Option (List ℕ)
as_lines numbers = if ascend 0 numbers then Some numbers else None

-- the lines that an operation says; none if it says none, or what it says are no lines
unfoldable pub lines_in : Data → Option (List ℕ)
lines_in d = option_and_then as_lines (option_and_then (list_in short_number_in) (get (codes "places") d))

-- members but that of a key
abbrev pub without : List ℕ → Members → Members
without key no_members = no_members
without key (member k d members) =
    match_ordering (slice_cmp nat_cmp key k) (member k d (without key members)) members (member k d (without key members))

-- an operation without its lines
abbrev pub unlined : Data → Data
unlined null = null
unlined (boolean b) = boolean b
unlined (number n) = number n
unlined (string s) = string s
unlined (array ds) = array ds
unlined (object members) = object (without (codes "places") members)

abbrev pub line_data : ℕ → Data
line_data line = number (unsigned line)

-- an operation with its lines
abbrev pub lined : List ℕ → Data → Data
lined lines null = null
lined lines (boolean b) = boolean b
lined lines (number n) = number n
lined lines (string s) = string s
lined lines (array ds) = array ds
lined lines (object members) = object (put (codes "places") (list_data line_data lines) members)

-- operations with their lines, in one order; one for which there are none left has the empty list
abbrev pub lined_all : List (List ℕ) → List Data → List Data
lined_all places [] = []
lined_all [] (d ∷ ds) = lined [] d ∷ lined_all [] ds
lined_all (lines ∷ places) (d ∷ ds) = lined lines d ∷ lined_all places ds

-- an operation and the lines that it says. If it says none, a value that is no operation stands for it
abbrev pub apart : Option (List ℕ) → Data → Data × List ℕ
apart None d = (null, [])
apart (Some lines) d = (unlined d, lines)

-- an operation and its lines, by whether operations have to say their lines: if not, it is as it stands and has none
abbrev pub operation_in : Bool → Data → Data × List ℕ
operation_in false d = (d, [])
operation_in true d = apart (lines_in d) d
