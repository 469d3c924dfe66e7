-- Whether a text's next character is in quotes, and behind an escape character: all that cutting a text has to know of what is before it.
use Rattle.std.specs.Prelude.{Bool, true, false}
use Rattle.words.specs.declared.class.Class.{Class}
use Rattle.words.specs.declared.class.Class.TheVariants.{SingleQuote, DoubleQuote, EscapeCharacter}
use Rattle.words.specs.declared.quote.QuoteState.{QuoteState}
use Rattle.words.specs.declared.quote.QuoteState.TheVariants.{Outside, Escaped, Single, Double, DoubleEscaped}

-- the state behind a character of a class
abbrev pub state_after : QuoteState → Class → QuoteState
state_after Outside SingleQuote = Single
state_after Outside DoubleQuote = Double
state_after Outside EscapeCharacter = Escaped
state_after Outside _ = Outside
state_after Escaped _ = Outside
state_after Single SingleQuote = Outside
state_after Single _ = Single
state_after Double DoubleQuote = Outside
state_after Double EscapeCharacter = DoubleEscaped
state_after Double _ = Double
state_after DoubleEscaped _ = Double

-- whether a state is in quotes
abbrev pub is_in_quotes : QuoteState → Bool
is_in_quotes Outside = false
is_in_quotes Escaped = false
is_in_quotes _ = true
