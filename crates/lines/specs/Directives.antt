-- Which lines are directives: `#`, a key, `=` and a value (own, but where a definition names its source).
use Rattle.std.specs.Prelude.{ℕ, List, [], ◌∷◌, ◌==◌, if◌then◌else◌, Option, Some, None, length, codes}
use Rattle.std.specs.List.{position_or_len, before_first, after_first}
use Rattle.std.specs.Str.{str_eq_ignore_ascii_case}
use Rattle.ascii.specs.Blanks.{trimmed}
use Rattle.lines.specs.Escape.{escape_named}
use Rattle.lines.specs.declared.directives.Directive.{Directive}
use Rattle.lines.specs.declared.directives.Directive.TheVariants.{Escape, Syntax, Check}

-- the directive of a key and a value, both without blanks around them: the keys `escape`, `syntax` and `check`
-- are known, in any case of letters, and the value isn't empty (Dockerfile reference, parser directives)
abbrev pub directive_named : List ℕ → List ℕ → Option Directive
directive_named key [] = None
directive_named key (c ∷ cs) = if str_eq_ignore_ascii_case key (codes "escape") then Some (Escape (escape_named (c ∷ cs)))
    else (if str_eq_ignore_ascii_case key (codes "syntax") then Some Syntax
    else (if str_eq_ignore_ascii_case key (codes "check") then Some Check else None))

-- the directive of what stands after a line's `#`: it is cut at its first `=` (Dockerfile reference, parser directives)
abbrev pub directive_in : List ℕ → Option Directive
directive_in rest = if position_or_len (λ b. b == 61) rest == length rest then None
    else directive_named (trimmed (before_first (λ b. b == 61) rest)) (trimmed (after_first (λ b. b == 61) rest))

-- what stands after the `#` with which a line begins
abbrev pub after_sharp : List ℕ → Option (List ℕ)
after_sharp [] = None
after_sharp (c ∷ cs) = if c == 35 then Some cs else None

-- the directive of what stands after a line's `#`, if the line has one there
abbrev pub directive_after : Option (List ℕ) → Option Directive
directive_after None = None
directive_after (Some rest) = directive_in rest

-- a line's directive: `#` stands first in the line, with no blank before it (own)
abbrev pub directive_of : List ℕ → Option Directive
directive_of line = directive_after (after_sharp line)
