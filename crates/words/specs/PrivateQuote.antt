-- What a character does where quotes stand so (own).
use Rattle.std.specs.Prelude.{Bool, true, false}
use Rattle.words.specs.declared.class.Class.{Class}
use Rattle.words.specs.declared.class.Class.TheVariants.{Blank, Equals}
use Rattle.words.specs.declared.quote.QuoteState.{QuoteState}
use Rattle.words.specs.declared.quote.QuoteState.TheVariants.{Outside}

-- whether a character of a class ends a word there: a blank outside quotes does
abbrev pub cuts : QuoteState → Class → Bool
cuts Outside Blank = true
cuts _ _ = false

-- whether a character of a class splits a word into a key and a value there: an `=` outside quotes does
abbrev pub splits : QuoteState → Class → Bool
splits Outside Equals = true
splits _ _ = false
