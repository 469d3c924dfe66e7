-- What a character is where a text is cut: a blank, a quote, a dollar, an equals sign, the escape character, or any other.
use Rattle.std.specs.Prelude.{ℕ, ◌==◌, if◌then◌else◌}
use Rattle.ascii.specs.Blanks.{is_blank}
use Rattle.lines.specs.Escape.{byte_of}
use Rattle.lines.specs.declared.escape.Escape.{Escape}
use Rattle.words.specs.declared.class.Class.{Class}
use Rattle.words.specs.declared.class.Class.TheVariants.{Blank, SingleQuote, DoubleQuote, Dollar, Equals, EscapeCharacter, Other}

-- what a character is where a text is cut; the escape character is the file's (Dockerfile reference, `escape`)
unfoldable pub class_of : Escape → ℕ → Class
class_of escape character = if is_blank character then Blank
    else (if character == 39 then SingleQuote
    else (if character == 34 then DoubleQuote
    else (if character == 36 then Dollar
    else (if character == 61 then Equals
    else (if character == byte_of escape then EscapeCharacter else Other)))))
