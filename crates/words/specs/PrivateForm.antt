-- Which texts can't be a list in JSON, told by their beginning.
use Rattle.std.specs.Prelude.{ℕ, Bool, false, List, [], ◌∷◌, ◌==◌, ◌||◌, ◌&&◌}
use Rattle.json.specs.Word.{is_space}

-- behind JSON's white space a text goes on with `[`, the first byte of each list (RFC 8259, sections 2 and 5)
abbrev pub begins_list : List ℕ → Bool
begins_list [] = false
begins_list (byte ∷ bytes) = (byte == 91) || (is_space byte && begins_list bytes)
