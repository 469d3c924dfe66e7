-- Continued lines, for the law of what they join to (own, but where a definition names its source).
use Rattle.std.specs.Prelude.{◌≡◌, ℕ, List, [], ◌∷◌, Some}
use Rattle.lines.specs.Blanks.{continued_part}
use Rattle.lines.specs.File.{IsKept}
use Rattle.lines.specs.declared.escape.Escape.{Escape}
use Rattle.lines.specs.declared.line.Line.{Line}

-- each of these lines is kept and continues by this escape character, and adds the part beside it (Dockerfile reference, `escape`)
abbrev pub AreContinued : ℕ → List (List ℕ) → List (List ℕ) → Type 0
AreContinued e [] [] = Unit {0}
AreContinued e [] (part ∷ parts) = ⊥
AreContinued e (line ∷ lines) [] = ⊥
AreContinued e (line ∷ lines) (part ∷ parts) = IsKept line × (continued_part e line ≡ Some part) × AreContinued e lines parts

-- the logical line of this text, without heredocs
abbrev pub plain_line : ℕ → Escape → List ℕ → Line
plain_line number escape text = record { number = number; text = text; heredocs = []; escape = escape }
