-- What a word is, and its value under a scope.
use Rattle.std.specs.Prelude.{ℕ, Bool, true, false, List, [], ◌∷◌, ◌++◌, Option, Some, None, is_some}
use Rattle.std.specs.Option.{unwrap_or}
use Rattle.expand.specs.declared.operator.Operator.{Operator}
use Rattle.expand.specs.declared.operator.Operator.TheVariants.{Default, Alternative, Required}
use Rattle.expand.specs.declared.operator.Test.{Test}
use Rattle.expand.specs.declared.operator.Test.TheVariants.{IsSet, IsFilled}
use Rattle.expand.specs.declared.operator.Choice.{Choice}
use Rattle.expand.specs.declared.operator.Choice.TheVariants.{Own, Word, Nothing, Refusal}

-- a word: a list of parts. A part is a byte of plain text, a variable (`$v` or `${v}`), or a variable with an operator, a
-- test and a word of its own (`${v-word}` or `${v:-word}`, and so with `+` and `?`); each is followed by the rest
-- (Dockerfile reference, environment replacement; POSIX shell, parameter expansion)
pub data Parts : Type 0 where
  no_part : Parts
  byte : ℕ → Parts → Parts
  variable : List ℕ → Parts → Parts
  with_word : Operator → Test → List ℕ → Parts → Parts → Parts

-- a word with a plain text before it, byte by byte
abbrev pub with_text : List ℕ → Parts → Parts
with_text [] word = word
with_text (b ∷ bs) word = byte b (with_text bs word)

-- a variable is filled where it is set and not empty
abbrev pub is_filled : Option (List ℕ) → Bool
is_filled None = false
is_filled (Some []) = false
is_filled (Some (c ∷ cs)) = true

-- a variable passes a test: it is set, perhaps to the empty text, or it is filled (POSIX shell, parameter expansion)
abbrev pub passes : Test → Option (List ℕ) → Bool
passes IsSet text = is_some text
passes IsFilled text = is_filled text

-- what a variable with a word stands for, by whether it passes its test. A default word stands in for a variable that
-- doesn't, and an alternative word for one that does; for one that doesn't, an alternative leaves nothing. For one that is
-- required and doesn't, the text is refused (Dockerfile reference, environment replacement; POSIX shell, parameter expansion)
abbrev pub choice_of : Operator → Bool → Choice
choice_of Default true = Own
choice_of Default false = Word
choice_of Alternative true = Word
choice_of Alternative false = Nothing
choice_of Required true = Own
choice_of Required false = Refusal

-- the text that is chosen, of the variable's own and the value of its word; none of a word that is refused
abbrev pub chosen : Choice → List ℕ → List ℕ → List ℕ
chosen Own own word = own
chosen Word own word = word
chosen Nothing own word = []
chosen Refusal own word = []

-- an unset variable has the empty text
abbrev pub text_of : Option (List ℕ) → List ℕ
text_of None = []
text_of (Some text) = text

-- the value of a word under a scope, which gives each name a value or none: the values of its parts, joined. The value of
-- a word within it counts only where that word is chosen (Dockerfile reference, environment replacement). Of a word that is
-- refused it says nothing
abbrev pub value : (List ℕ → Option (List ℕ)) → Parts → List ℕ
value s no_part = []
value s (byte b rest) = b ∷ value s rest
value s (variable v rest) = text_of (s v) ++ value s rest
value s (with_word operator test v word rest) = chosen (choice_of operator (passes test (s v))) (text_of (s v)) (value s word) ++ value s rest

-- the first of two texts that is there
abbrev pub first_of : Option (List ℕ) → Option (List ℕ) → Option (List ℕ)
first_of (Some text) other = Some text
first_of None other = other

-- the text with which a variable with a word is refused, by the text with which its word is refused itself, if it is, and
-- the word's value. A word is evaluated only where it is chosen, or is the word of a variable that is required and doesn't
-- pass its test; such a variable is refused with the value of its word, but with a refusal within that word if there is one
-- (POSIX shell, parameter expansion; of the refusal within: own)
abbrev pub chosen_refusal : Choice → Option (List ℕ) → List ℕ → Option (List ℕ)
chosen_refusal Own inner word = None
chosen_refusal Word inner word = inner
chosen_refusal Nothing inner word = None
chosen_refusal Refusal inner word = Some (unwrap_or inner word)

-- the text with which a word is refused under a scope, if it is: of several, the first in reading order (own)
abbrev pub refusal : (List ℕ → Option (List ℕ)) → Parts → Option (List ℕ)
refusal s no_part = None
refusal s (byte b rest) = refusal s rest
refusal s (variable v rest) = refusal s rest
refusal s (with_word operator test v word rest) =
    first_of (chosen_refusal (choice_of operator (passes test (s v))) (refusal s word) (value s word)) (refusal s rest)
