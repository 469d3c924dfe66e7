-- The pieces of a word in a row, as reading it from the front finds them.
use Rattle.std.specs.Prelude.{ℕ, List, [], ◌∷◌, ◌++◌, map}
use Rattle.expand.specs.Syntax.{character_bytes}
use Rattle.expand.specs.declared.character.Character.{Character}
use Rattle.expand.specs.declared.token.Token.{Token}
use Rattle.expand.specs.declared.token.Token.TheVariants.{Plain, Variable, Open, Close}
use Rattle.expand.specs.declared.operator.Operator.{Operator}
use Rattle.expand.specs.declared.operator.Test.{Test}

-- a piece of a word: a character that stands for itself, `$v`, `${v}`, the opening of a word within the word (`${v-` or
-- `${v:-`, and so with `+` and `?`), or the `}` that closes the one that was opened last
pub data Piece : Type 0 where
  itself : Character → Piece
  bare : List ℕ → Piece
  braced : List ℕ → Piece
  opening : Operator → Test → List ℕ → Piece
  close : Piece

-- the tokens of plain text, one for each byte
abbrev pub plain_bytes : List ℕ → List Token
plain_bytes bs = map (λ b. Plain (b ∷ [])) bs

-- the tokens that a piece stands for; of a character that stands for itself each byte is plain text
abbrev pub piece_tokens : Piece → List Token
piece_tokens (itself c) = plain_bytes (character_bytes c)
piece_tokens (bare v) = Variable v ∷ []
piece_tokens (braced v) = Variable v ∷ []
piece_tokens (opening o t v) = Open o t v ∷ []
piece_tokens close = Close ∷ []

-- the tokens that pieces stand for, one after another
abbrev pub tokens : List Piece → List Token
tokens [] = []
tokens (p ∷ ps) = piece_tokens p ++ tokens ps
