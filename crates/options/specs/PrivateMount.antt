-- How the items of a mount are cut off one after another.
use Rattle.std.specs.Prelude.{ℕ, suc, ◌==◌, List, [], Option, Some, None, length}
use Rattle.std.specs.List.{slice_split}

-- the parts of what is left of a list, between its commas
abbrev pub parts : Option (List ℕ) → List (List ℕ)
parts None = []
parts (Some list) = slice_split (λ c. c == 44) list

-- how much is left of a list: one more than its bytes, and nothing where no part is left
abbrev pub bytes_left : Option (List ℕ) → ℕ
bytes_left None = 0
bytes_left (Some list) = suc (length list)
