-- What the name of an environment's variable is (POSIX.1-2017, section 8.1: names hold no `=`).
use Rattle.std.specs.Prelude.{◌≡◌, ◌==◌, ℕ, Bool, true, List, length, not, ◌&&◌}
use Rattle.std.specs.List.{list_any}

-- the code of `=`
abbrev pub equals_sign : ℕ
equals_sign = 61

-- a variable's name isn't empty and holds no `=`, so that NAME=VALUE is cut at the right place
abbrev pub is_variable_name : List ℕ → Bool
is_variable_name name = not (length name == 0) && not (list_any (λ byte. byte == equals_sign) name)

-- a text is the name of a variable
abbrev pub IsVariableName : List ℕ → Type 0
IsVariableName name = is_variable_name name ≡ true
