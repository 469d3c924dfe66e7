-- Quoted strings (Graphviz, The DOT Language, on ID, and escString). A quoted string ends at the first `"` that no `\` escapes. In a label `\l`
-- ends a row, which is set on the left, `\\` is a backslash, and a name between `&` and `;`, as `&amp;`, is a character of HTML.
use Rattle.std.specs.Prelude.{ℕ, ◌-◌, ◌/◌, ◌%◌, ◌==◌, ◌&&◌, Bool, false, Option, Some, None, List, [], ◌∷◌, ◌++◌, codes, nat_le, if◌then◌else◌}
use Rattle.std.specs.Fmt.{digit_glyph}
use Rattle.std.specs.List.{flat_map}

-- what follows the `"` at which a quoted string ends; nothing if it doesn't end. `escaped` says whether a `\` escapes the first character
abbrev pub after_quote : Bool → List ℕ → Option (List ℕ)
after_quote escaped [] = None
after_quote escaped (b ∷ bs) = if escaped then after_quote false bs else (if b == 34 then Some bs else after_quote (b == 92) bs)

-- a character of ASCII that is printed
abbrev pub is_printed : ℕ → Bool
is_printed b = nat_le 32 b && nat_le b 126

-- the number of a byte, with two hexadecimal digits, as `\x1b` (own, as `check` shows it); its backslash is escaped here
abbrev pub numbered : ℕ → List ℕ
numbered b = codes "\\\\x" ++ (digit_glyph false (b / 16) ∷ (digit_glyph false (b % 16) ∷ []))

-- a byte in a quoted string: `"` and `\` after a `\`, `&` by its name in HTML, another byte that is printed as it is, and the rest by its number
unfoldable pub shown_byte : ℕ → List ℕ
shown_byte b =
    if b == 34 then 92 ∷ (34 ∷ []) else
    (if b == 92 then 92 ∷ (92 ∷ []) else
    (if b == 38 then codes "&amp;" else
    (if is_printed b then b ∷ [] else numbered b)))

-- a text in a quoted string
abbrev pub shown : List ℕ → List ℕ
shown text = flat_map shown_byte text

-- after so many characters of a row the next blank ends it (own)
abbrev pub row_width : ℕ
row_width = 60

-- a text in rows of a label, of whose first row so much is left; the blank at which a row ends is dropped
abbrev pub in_rows : ℕ → List ℕ → List ℕ
in_rows room [] = []
in_rows room (b ∷ bs) = if b == 32 && room == 0 then codes "\\l" ++ in_rows row_width bs else shown_byte b ++ in_rows (room - 1) bs

-- a text in rows of a label, each of which ends; the empty text has none
abbrev pub rows : List ℕ → List ℕ
rows [] = []
rows (b ∷ bs) = in_rows row_width (b ∷ bs) ++ codes "\\l"
