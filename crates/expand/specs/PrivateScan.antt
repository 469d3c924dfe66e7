-- How a text is scanned character by character: what the private functions of src/scan.rt say.
use Rattle.std.specs.Prelude.{ℕ, Bool, true, false, List, [], ◌∷◌, ◌++◌, ◌==◌, if◌then◌else◌, Option, Some, None, option_map}
use Rattle.lines.specs.Escape.{byte_of}
use Rattle.lines.specs.declared.escape.Escape.{Escape}
use Rattle.words.specs.Class.{class_of}
use Rattle.words.specs.Parts.{acts_before}
use Rattle.words.specs.Cutting.{has_open}
use Rattle.words.specs.Quote.{state_after}
use Rattle.words.specs.ReadParts.{parts}
use Rattle.words.specs.declared.class.Class.{Class}
use Rattle.words.specs.declared.class.Class.TheVariants.{SingleQuote, DoubleQuote, EscapeCharacter}
use Rattle.words.specs.declared.quote.QuoteState.{QuoteState}
use Rattle.words.specs.declared.quote.QuoteState.TheVariants.{Outside, Escaped, Single, Double, DoubleEscaped}
use Rattle.expand.specs.Scan.{marked, is_freed}
use Rattle.expand.specs.declared.character.Character.{Character}
use Rattle.expand.specs.declared.character.Character.TheVariants.{Active, Literal}
use Rattle.expand.specs.declared.kind.Kind.{Kind}
use Rattle.expand.specs.declared.kind.Kind.TheVariants.{Quoted, Unquoted}

-- what one more character of a class leaves. An escape character is held back until it is known whether it acts
abbrev pub emitted : Escape → QuoteState → Class → ℕ → List Character
emitted e Outside SingleQuote c = []
emitted e Outside DoubleQuote c = []
emitted e Outside EscapeCharacter c = []
emitted e Outside _ c = Active c ∷ []
emitted e Escaped _ c = Literal c ∷ []
emitted e Single SingleQuote c = []
emitted e Single _ c = Literal c ∷ []
emitted e Double DoubleQuote c = []
emitted e Double EscapeCharacter c = []
emitted e Double _ c = Active c ∷ []
emitted e DoubleEscaped k c = if acts_before k then Literal c ∷ [] else Active (byte_of e) ∷ Active c ∷ []

-- what the end of the text leaves; none in a quote
abbrev pub emitted_at_end : Escape → QuoteState → Option (List Character)
emitted_at_end e Outside = Some []
emitted_at_end e Escaped = Some (Active (byte_of e) ∷ [])
emitted_at_end e _ = None

-- what a text leaves
abbrev pub quoted_from : Escape → QuoteState → List ℕ → Option (List Character)
quoted_from e p [] = emitted_at_end e p
quoted_from e p (c ∷ cs) = option_map (λ found. emitted e p (class_of e c) c ++ found) (quoted_from e (state_after p (class_of e c)) cs)

-- an escape character at the end of a text stands for itself (own)
abbrev pub bare_at_end : Escape → Bool → List Character
bare_at_end e false = []
bare_at_end e true = Active (byte_of e) ∷ []

-- the marked characters of a text without quotes, behind an escape character or not
abbrev pub bare_from : Escape → Bool → List ℕ → List Character
bare_from e b [] = bare_at_end e b
bare_from e false (c ∷ cs) = if c == byte_of e then bare_from e true cs else Active c ∷ bare_from e false cs
bare_from e true (c ∷ cs) = if is_freed e c then Literal c ∷ bare_from e false cs else Active (byte_of e) ∷ Active c ∷ bare_from e false cs

-- the marked characters of a text with quotes, none where one of them is open
abbrev pub quoted_unless : Bool → List Character → Option (List Character)
quoted_unless true cs = None
quoted_unless false cs = Some cs

-- the marked characters of a text, the only ones that `IsScanned` means
unfoldable pub scanned : Kind → Escape → List ℕ → Option (List Character)
scanned Quoted e text = quoted_unless (has_open (parts e text)) (marked (parts e text))
scanned Unquoted e text = Some (bare_from e false text)
