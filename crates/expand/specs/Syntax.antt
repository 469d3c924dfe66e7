-- The syntax of a word: what stands in it, how that is written in marked characters, and which parts it is.
use Rattle.std.specs.Prelude.{◌≡◌, ◌<◌, ℕ, suc, Bool, true, false, List, [], ◌∷◌, ◌++◌, ◌==◌, map, encode_utf8}
use Rattle.ascii.specs.Names.{begins_name, is_in_name, is_name}
use Rattle.expand.specs.Value.{Parts, no_part, variable, with_word, with_text}
use Rattle.expand.specs.declared.character.Character.{Character}
use Rattle.expand.specs.declared.character.Character.TheVariants.{Active, Literal}
use Rattle.expand.specs.declared.operator.Operator.{Operator}
use Rattle.expand.specs.declared.operator.Operator.TheVariants.{Default, Alternative, Required}
use Rattle.expand.specs.declared.operator.Test.{Test}
use Rattle.expand.specs.declared.operator.Test.TheVariants.{IsSet, IsFilled}

-- the characters of the syntax

abbrev pub dollar : ℕ
dollar = 36

abbrev pub open_brace : ℕ
open_brace = 123

abbrev pub close_brace : ℕ
close_brace = 125

abbrev pub colon : ℕ
colon = 58

abbrev pub dash : ℕ
dash = 45

abbrev pub plus : ℕ
plus = 43

abbrev pub question : ℕ
question = 63

-- what is written in a word: a character that stands for itself, `$v`, `${v}`, or `${v-word}` or `${v:-word}` and so with `+`
-- and `?`, each followed by the rest; the words within it are such syntax too (Dockerfile reference, environment replacement;
-- POSIX shell, parameter expansion)
pub data Syntax : Type 0 where
  ended : Syntax
  standing : Character → Syntax → Syntax
  bare_name : List ℕ → Syntax → Syntax
  braced_name : List ℕ → Syntax → Syntax
  braced_word : Operator → Test → List ℕ → Syntax → Syntax → Syntax

-- a text of the syntax: each of its characters is active, the name's too (own)
abbrev pub active : List ℕ → List Character
active characters = map (λ character. Active character) characters

-- the sign of an operator (POSIX shell, parameter expansion)
abbrev pub sign_text : Operator → ℕ
sign_text Default = dash
sign_text Alternative = plus
sign_text Required = question

-- an operator and a test as they are written: a `:` before the sign asks whether the variable is filled, and without one
-- it has to be set alone (POSIX shell, parameter expansion)
abbrev pub operator_text : Operator → Test → List Character
operator_text operator IsSet = Active (sign_text operator) ∷ []
operator_text operator IsFilled = Active colon ∷ Active (sign_text operator) ∷ []

-- a word as it is written, the `}` of a word within it behind that word (Dockerfile reference, environment replacement)
abbrev pub written : Syntax → List Character
written ended = []
written (standing character rest) = character ∷ written rest
written (bare_name name rest) = Active dollar ∷ (active name ++ written rest)
written (braced_name name rest) = Active dollar ∷ Active open_brace ∷ (active name ++ Active close_brace ∷ written rest)
written (braced_word operator test name word rest) = Active dollar ∷ Active open_brace ∷ (active name ++ (operator_text operator test ++ (written word ++ Active close_brace ∷ written rest)))

-- what follows begins with a character that goes on with a name
abbrev pub goes_on : List Character → Bool
goes_on [] = false
goes_on (Active character ∷ characters) = is_in_name character
goes_on (Literal character ∷ characters) = false

-- a `$` before what follows stands for itself: neither a name nor `{` follows (own)
abbrev pub IsDollarAlone : List Character → Type 0
IsDollarAlone [] = Unit {0}
IsDollarAlone (Active character ∷ characters) = (begins_name character ≡ false) × ((character == open_brace) ≡ false)
IsDollarAlone (Literal character ∷ characters) = Unit {0}

-- a character stands for itself before what follows, within so many words: a plain one anywhere; an active `$` where it stands
-- alone; an active `}` where there is nothing to close (own)
abbrev pub StandsForItself : ℕ → Character → List Character → Type 0
StandsForItself depth (Literal character) behind = Unit {0}
StandsForItself depth (Active character) behind = (character ≡ dollar → IsDollarAlone behind) × (character ≡ close_brace → depth ≡ 0)

-- so many `${` may stand within one another (own)
abbrev pub most_nested : ℕ
most_nested = 32

-- within so many words another `${` may stand
abbrev pub MayNest : ℕ → Type 0
MayNest depth = depth < most_nested

-- what is written may stand so within so many words: a name is a letter or `_` followed by letters, digits or `_`, that of `$v`
-- the longest (own). What follows a word within a word is its `}`, which neither goes on with a name nor is a `{`, so it
-- matters as little as the end of the text
abbrev pub Stands : ℕ → Syntax → Type 0
Stands depth ended = Unit {0}
Stands depth (standing character rest) = StandsForItself depth character (written rest) × Stands depth rest
Stands depth (bare_name name rest) = (is_name name ≡ true) × (goes_on (written rest) ≡ false) × Stands depth rest
Stands depth (braced_name name rest) = (is_name name ≡ true) × MayNest depth × Stands depth rest
Stands depth (braced_word operator test name word rest) = (is_name name ≡ true) × MayNest depth × Stands (suc depth) word × Stands depth rest

-- the bytes of a character, whether it is active or not
abbrev pub character_bytes : Character → List ℕ
character_bytes (Active character) = encode_utf8 character
character_bytes (Literal character) = encode_utf8 character

-- the parts that are written so: of a character that stands for itself each byte is plain text
abbrev pub parts_of : Syntax → Parts
parts_of ended = no_part
parts_of (standing character rest) = with_text (character_bytes character) (parts_of rest)
parts_of (bare_name name rest) = variable name (parts_of rest)
parts_of (braced_name name rest) = variable name (parts_of rest)
parts_of (braced_word operator test name word rest) = with_word operator test name (parts_of word) (parts_of rest)

-- marked characters are read as a word: they are what some syntax is written as, and it may stand within no word
-- (Dockerfile reference, environment replacement; own in details). Where they are read as none, there is a bad substitution
abbrev pub IsRead : List Character → Parts → Type 0
IsRead characters word = (syntax : Syntax) × Stands 0 syntax × (characters ≡ written syntax) × (word ≡ parts_of syntax)
