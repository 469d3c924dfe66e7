-- The stages that the lines of a file begin, by the lines as they stand (Dockerfile reference, FROM).
use Rattle.std.specs.Prelude.{◌&&◌, ℕ, Bool, List, [], ◌∷◌, Option, Some, None, codes, if◌then◌else◌}
use Rattle.std.specs.List.{filter_map, list_any}
use Rattle.std.specs.Str.{str_eq_ignore_ascii_case}
use Rattle.ascii.specs.Pieces.{first_piece, behind_piece}
use Rattle.meant.specs.Escapes.{before_escape, may_go_on}

-- a line begins a stage: its first word is FROM, in any case
abbrev pub begins_stage : List ℕ → Bool
begins_stage line = str_eq_ignore_ascii_case (first_piece line) (codes "from")

-- the name that a line gives to a stage: that of `FROM image AS name`, in any case of FROM and AS
abbrev pub stage_in : List ℕ → Option (List ℕ)
stage_in line =
    if str_eq_ignore_ascii_case (first_piece line) (codes "from") && str_eq_ignore_ascii_case (first_piece (behind_piece (behind_piece line))) (codes "as")
    then Some (first_piece (behind_piece (behind_piece (behind_piece line)))) else None

-- the names that the lines of a file give to stages
abbrev pub stages_in : List (List ℕ) → List (List ℕ)
stages_in lines = filter_map stage_in lines

-- the lines before the last one that begins a stage; none if none does
abbrev pub before_last : List (List ℕ) → List (List ℕ)
before_last [] = []
before_last (line ∷ lines) = if list_any begins_stage lines then line ∷ before_last lines else []

-- the names of those stages that end on these lines: another one begins on a later of them
abbrev pub ended_stages : List (List ℕ) → List (List ℕ)
ended_stages lines = stages_in (before_last lines)

-- a line begins a FROM that may go on in the next line: its stage may have a name that this line doesn't show (own)
abbrev pub is_unfinished : List ℕ → Bool
is_unfinished line = str_eq_ignore_ascii_case (before_escape (first_piece line)) (codes "from") && may_go_on line
