-- Variables and escape characters in texts that BuildKit reads otherwise: it expands a mount, which is never expanded
-- here, and takes each escape character away from a heredoc that it expands, which here acts before `$` and itself
-- alone (BuildKit, `shellWord.processStopOn`; what stays here: own).
use Rattle.std.specs.Prelude.{◌==◌, ◌&&◌, ◌||◌, ℕ, Bool, false, not, List, [], ◌∷◌}
use Rattle.ascii.specs.Names.{is_in_name}
use Rattle.lines.specs.Escape.{byte_of}
use Rattle.lines.specs.declared.escape.Escape.{Escape}
use Rattle.expand.specs.Scan.{is_freed}
use Rattle.expand.specs.Syntax.{dollar, open_brace}

-- the special parameters: `@`, `*`, `#`, `?`, `-`, `$` and `!` (BuildKit, `isSpecialParam`; it has `0` too, which is a
-- digit)
abbrev pub is_special : ℕ → Bool
is_special c = (c == 64) || ((c == 42) || ((c == 35) || ((c == 63) || ((c == 45) || ((c == dollar) || (c == 33))))))

-- a variable goes on with this character after its `$`: a letter, a digit, `_`, `{` or a special parameter (BuildKit,
-- `shellWord.processDollar`; that letters are those of ASCII: own)
abbrev pub begins_variable : ℕ → Bool
begins_variable c = is_in_name c || ((c == open_brace) || is_special c)

-- a text has a variable, after a text that ends with an escape character that acts on what comes, or with a `$` on
-- which none acts
abbrev pub varies_after : Escape → Bool → Bool → List ℕ → Bool
varies_after escape acts opens [] = false
varies_after escape acts opens (c ∷ text) =
    (opens && begins_variable c) || varies_after escape (not acts && (c == byte_of escape)) (not acts && (c == dollar)) text

-- a text has a variable: a `$` on which no escape character acts, with what a variable goes on with after it
-- (Dockerfile reference, environment replacement)
abbrev pub has_variable : Escape → List ℕ → Bool
has_variable escape text = varies_after escape false false text

-- the same of an escape character that is idle here: one that acts on what comes in BuildKit, and before which there is
-- neither `$` nor itself. At the end of a text it is idle too
abbrev pub is_idle_after : Escape → Bool → List ℕ → Bool
is_idle_after escape acts [] = acts
is_idle_after escape acts (c ∷ text) = (acts && not (is_freed escape c)) || is_idle_after escape (not acts && (c == byte_of escape)) text

-- the body of a heredoc has an escape character that BuildKit takes away and that stays here
abbrev pub has_idle_escape : Escape → List ℕ → Bool
has_idle_escape escape body = is_idle_after escape false body
