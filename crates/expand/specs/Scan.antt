-- The scan of a text: which of its characters are active, and which text is left.
use Rattle.std.specs.Prelude.{◌≡◌, ℕ, Bool, true, false, List, [], ◌∷◌, ◌++◌, ◌==◌, ◌||◌, map}
use Rattle.lines.specs.Escape.{byte_of}
use Rattle.lines.specs.declared.escape.Escape.{Escape}
use Rattle.words.specs.Parts.{Held, kept, freed, Part, blank, plain, escaped, single, double, open_single, open_double, held_text, IsMadeOf}
use Rattle.words.specs.Cutting.{has_open}
use Rattle.expand.specs.Syntax.{dollar}
use Rattle.expand.specs.declared.character.Character.{Character}
use Rattle.expand.specs.declared.character.Character.TheVariants.{Active, Literal}
use Rattle.expand.specs.declared.kind.Kind.{Kind}
use Rattle.expand.specs.declared.kind.Kind.TheVariants.{Quoted, Unquoted}

-- a character that an escape character frees is plain; one that is kept is active
abbrev pub marked_held : Held → Character
marked_held (kept character) = Active character
marked_held (freed character) = Literal character

-- a word with quotes: they are removed, a character in single quotes or after an acting escape is plain, all others are
-- active (Dockerfile reference, escaping and quoting; in double quotes what isn't freed is active: own)
abbrev pub marked_part : Part → List Character
marked_part (blank character) = Active character ∷ []
marked_part (plain character) = Active character ∷ []
marked_part (escaped character) = Literal character ∷ []
marked_part (single characters) = map (λ character. Literal character) characters
marked_part (double units) = map marked_held units
marked_part (open_single characters) = []
marked_part (open_double units) = []

-- the characters that parts leave, those of one part behind those of the other
abbrev pub marked : List Part → List Character
marked [] = []
marked (part ∷ parts) = marked_part part ++ marked parts

-- in a string of the JSON form and in a heredoc's body there are no quotes: the escape character acts before `$` and
-- itself (own)
abbrev pub is_freed : Escape → ℕ → Bool
is_freed escape character = (character == dollar) || (character == byte_of escape)

-- the escape character doesn't act before what follows (own)
abbrev pub IsIdleBefore : Escape → List ℕ → Type 0
IsIdleBefore escape [] = Unit {0}
IsIdleBefore escape (character ∷ characters) = is_freed escape character ≡ false

-- characters are freed where the escape character acts, and the escape character is kept only where it doesn't
abbrev pub AreFreed : Escape → List Held → Type 0
AreFreed escape [] = Unit {0}
AreFreed escape (kept character ∷ units) = (character ≡ byte_of escape → IsIdleBefore escape (held_text escape units)) × AreFreed escape units
AreFreed escape (freed character ∷ units) = (is_freed escape character ≡ true) × AreFreed escape units

-- the marked characters of a text without quotes
abbrev pub IsScannedBare : Escape → List ℕ → List Character → Type 0
IsScannedBare escape text found = (units : List Held) × AreFreed escape units × (text ≡ held_text escape units) × (found ≡ map marked_held units)

-- the marked characters of a text with quotes, none of them open
abbrev pub IsScannedQuoted : Escape → List ℕ → List Character → Type 0
IsScannedQuoted escape text found = (parts : List Part) × IsMadeOf escape text parts × (has_open parts ≡ false) × (found ≡ marked parts)

-- the marked characters of a text
abbrev pub IsScanned : Kind → Escape → List ℕ → List Character → Type 0
IsScanned Quoted escape text found = IsScannedQuoted escape text found
IsScanned Unquoted escape text found = IsScannedBare escape text found
