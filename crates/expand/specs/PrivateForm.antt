-- How a word is kept, and which texts are kept as they are.
use Rattle.std.specs.Prelude.{◌≡◌, ℕ, Bool, true, false, List, [], ◌∷◌, if◌then◌else◌}
use Rattle.lines.specs.declared.escape.Escape.{Escape}
use Rattle.expand.specs.Value.{Parts, no_part, with_text}
use Rattle.expand.specs.PrivateTokens.{around, levels, word_of}
use Rattle.expand.specs.Word.{is_ordinary}
use Rattle.expand.specs.declared.form.Form.{Form}
use Rattle.expand.specs.declared.form.Form.TheVariants.{Plain, Tokens}
use Rattle.expand.specs.declared.kind.Kind.{Kind}

-- the word that is kept so: a plain text byte by byte
abbrev pub kept_word : Form → Parts
kept_word (Plain text) = with_text text no_part
kept_word (Tokens tokens) = word_of tokens

-- each word within it is closed
abbrev pub IsClosed : Form → Type 0
IsClosed (Plain text) = Unit {0}
IsClosed (Tokens tokens) = around (levels tokens) ≡ []

-- the bytes are ordinary
abbrev pub are_ordinary : Kind → Escape → List ℕ → Bool
are_ordinary kind escape [] = true
are_ordinary kind escape (c ∷ cs) = if is_ordinary kind escape c then are_ordinary kind escape cs else false
