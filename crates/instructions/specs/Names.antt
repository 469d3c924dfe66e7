-- Names of stages.
use Rattle.std.specs.Prelude.{◌==◌, ◌||◌, ◌&&◌, ℕ, Bool, false, not, List, [], ◌∷◌, codes}
use Rattle.std.specs.List.{list_all}
use Rattle.std.specs.Str.{str_eq_ignore_ascii_case}
use Rattle.ascii.specs.Names.{is_letter, is_digit}

-- the characters that a stage's name may have beside letters and digits

abbrev pub dash : ℕ
dash = 45

abbrev pub dot : ℕ
dot = 46

abbrev pub underscore : ℕ
underscore = 95

-- what may stand behind the first letter of a stage's name
abbrev pub is_in_stage_name : ℕ → Bool
is_in_stage_name c = (is_letter c || is_digit c) || ((c == dash) || ((c == underscore) || (c == dot)))

-- a letter followed by letters, digits, `-`, `_` and `.`
abbrev pub has_stage_form : List ℕ → Bool
has_stage_form [] = false
has_stage_form (c ∷ cs) = is_letter c && list_all is_in_stage_name cs

-- the name of a stage: a letter followed by letters, digits, `-`, `_` and `.` (as BuildKit's parser takes them, in lower case), and
-- not `scratch` in any case of letters (own)
abbrev pub is_stage_name : List ℕ → Bool
is_stage_name name = has_stage_form name && not (str_eq_ignore_ascii_case name (codes "scratch"))
