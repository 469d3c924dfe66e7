-- The parts of a text, read from its front on: the only ones that it is made of (`parts_are_unique`).
use Rattle.std.specs.Prelude.{ℕ, List, [], ◌∷◌, ◌++◌}
use Rattle.lines.specs.Escape.{byte_of}
use Rattle.lines.specs.declared.escape.Escape.{Escape}
use Rattle.words.specs.declared.class.Class.{Class}
use Rattle.words.specs.declared.class.Class.TheVariants.{Blank, SingleQuote, DoubleQuote, Dollar, Equals, EscapeCharacter, Other}
use Rattle.words.specs.Class.{class_of}
use Rattle.words.specs.Parts.{Held, kept, freed, Part, blank, plain, escaped, single, double, open_single, open_double}

-- what was begun: nothing, an escape character, or quotes with what they hold so far
pub data Begun : Type 0 where
  nothing : Begun
  escaping : Begun
  in_single : List ℕ → Begun
  in_double : List Held → Begun
  in_double_escaping : List Held → Begun

-- the parts that one more character ends, by what was begun and what the character is
abbrev pub ended_by : Begun → Class → ℕ → List Part
ended_by nothing Blank character = blank character ∷ []
ended_by nothing Dollar character = plain character ∷ []
ended_by nothing Equals character = plain character ∷ []
ended_by nothing Other character = plain character ∷ []
ended_by nothing _ character = []
ended_by escaping class character = escaped character ∷ []
ended_by (in_single characters) SingleQuote character = single characters ∷ []
ended_by (in_single characters) _ character = []
ended_by (in_double held) DoubleQuote character = double held ∷ []
ended_by (in_double held) _ character = []
ended_by (in_double_escaping held) class character = []

-- what is begun then
abbrev pub begun_by : Escape → Begun → Class → ℕ → Begun
begun_by escape nothing SingleQuote character = in_single []
begun_by escape nothing DoubleQuote character = in_double []
begun_by escape nothing EscapeCharacter character = escaping
begun_by escape nothing _ character = nothing
begun_by escape escaping class character = nothing
begun_by escape (in_single characters) SingleQuote character = nothing
begun_by escape (in_single characters) _ character = in_single (characters ++ character ∷ [])
begun_by escape (in_double held) DoubleQuote character = nothing
begun_by escape (in_double held) EscapeCharacter character = in_double_escaping held
begun_by escape (in_double held) _ character = in_double (held ++ kept character ∷ [])
begun_by escape (in_double_escaping held) DoubleQuote character = in_double (held ++ freed character ∷ [])
begun_by escape (in_double_escaping held) Dollar character = in_double (held ++ freed character ∷ [])
begun_by escape (in_double_escaping held) EscapeCharacter character = in_double (held ++ freed character ∷ [])
begun_by escape (in_double_escaping held) _ character = in_double ((held ++ kept (byte_of escape) ∷ []) ++ kept character ∷ [])

-- the parts that the end of the text ends
abbrev pub ended_at_end : Escape → Begun → List Part
ended_at_end escape nothing = []
ended_at_end escape escaping = plain (byte_of escape) ∷ []
ended_at_end escape (in_single characters) = open_single characters ∷ []
ended_at_end escape (in_double held) = open_double held ∷ []
ended_at_end escape (in_double_escaping held) = open_double (held ++ kept (byte_of escape) ∷ []) ∷ []

-- the parts of a text behind what was begun
abbrev pub parts_from : Escape → Begun → List ℕ → List Part
parts_from escape begun [] = ended_at_end escape begun
parts_from escape begun (character ∷ characters) = ended_by begun (class_of escape character) character ++ parts_from escape (begun_by escape begun (class_of escape character) character) characters

-- the parts of a text, the only ones that it is made of
unfoldable pub parts : Escape → List ℕ → List Part
parts escape text = parts_from escape nothing text
