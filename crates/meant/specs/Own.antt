-- The lines of an instruction, by the lines of its file as they stand (Dockerfile reference, `escape`).
use Rattle.std.specs.Prelude.{◌-◌, ◌||◌, ◌&&◌, ℕ, Bool, true, false, List, [], ◌∷◌, Option, Some, None, bytes_eq, codes, drop, length, nat_eq, if◌then◌else◌}
use Rattle.std.specs.List.{flat_map, starts_with}
use Rattle.std.specs.Option.{option_and_then}
use Rattle.std.specs.Str.{str_eq_ignore_ascii_case}
use Rattle.ascii.specs.Blanks.{trimmed}
use Rattle.lines.specs.Escape.{byte_of}
use Rattle.lines.specs.File.{goes_on, part_of}
use Rattle.lines.specs.declared.escape.Escape.{Escape}
use Rattle.lines.specs.declared.escape.Escape.TheVariants.{Backslash, Backtick}
use Rattle.words.specs.Pairs.{pair}

-- a key is that of a directive (Dockerfile reference, parser directives)
abbrev pub is_directive_key : List ℕ → Bool
is_directive_key key = str_eq_ignore_ascii_case key (codes "escape") || (str_eq_ignore_ascii_case key (codes "syntax") || str_eq_ignore_ascii_case key (codes "check"))

-- a directive of this key and this value makes a backtick the escape character
abbrev pub says_backtick : List ℕ → List ℕ → Bool
says_backtick key value = str_eq_ignore_ascii_case key (codes "escape") && bytes_eq value (codes "`")

-- the same of a line that is a directive, by what stands after its `#`
abbrev pub directive_cut : Option (List ℕ × List ℕ) → Option Bool
directive_cut None = None
directive_cut (Some cut) = if is_directive_key (trimmed cut.0) then Some (says_backtick (trimmed cut.0) (trimmed cut.1)) else None

unfoldable pub after_sharp : List ℕ → Option (List ℕ)
after_sharp line = if starts_with nat_eq line (codes "#") then Some (drop 1 line) else None

unfoldable pub directive : List ℕ → Option Bool
directive line = option_and_then (λ rest. directive_cut (pair rest)) (after_sharp line)

abbrev pub escape_by : Option Bool → Escape → Escape
escape_by None below = Backslash
escape_by (Some true) below = Backtick
escape_by (Some false) below = below

-- the file's escape character, by the directives at its top
abbrev pub escape_in : List (List ℕ) → Escape
escape_in [] = Backslash
escape_in (line ∷ lines) = escape_by (directive line) (escape_in lines)

-- the lines of the logical line that begins here
abbrev pub own_lines : Escape → List (List ℕ) → List (List ℕ)
own_lines escape [] = []
own_lines escape (line ∷ lines) = line ∷ (if goes_on (byte_of escape) line then own_lines escape lines else [])

-- the lines of the instruction that begins on the line of this number
abbrev pub own_of : List (List ℕ) → ℕ → List (List ℕ)
own_of lines number = own_lines (escape_in lines) (drop (number - 1) lines)

-- the lines below those of the instruction that begins on the line of this number
abbrev pub lines_below : List (List ℕ) → List (List ℕ) → ℕ → List (List ℕ)
lines_below lines own number = drop (length own) (drop (number - 1) lines)

-- the text of the instruction of these lines
abbrev pub joined : Escape → List (List ℕ) → List ℕ
joined escape own = flat_map (part_of (byte_of escape)) own
