-- Which word a text is, and what reading one gives.
use Rattle.std.specs.Prelude.{◌≡◌, ℕ, ◌==◌, ◌||◌, not, Bool, true, List, [], ◌∷◌, Option, Some, None, option_map, option_and_then, Result, Ok, Err}
use Rattle.std.specs.Str.{chars}
use Rattle.lines.specs.Escape.{byte_of}
use Rattle.lines.specs.declared.escape.Escape.{Escape}
use Rattle.plain.specs.declared.refusal.Code.TheVariants.{R09}
use Rattle.plain.specs.declared.fault.Fault.{Fault}
use Rattle.plain.specs.declared.refusal.Code.{Code}
use Rattle.plain.specs.declared.fault.Fault.TheVariants.{Because, Memory}
use Rattle.expand.specs.PrivatePieces.{tokens}
use Rattle.expand.specs.PrivateReading.{pieces}
use Rattle.expand.specs.PrivateScan.{scanned}
use Rattle.expand.specs.PrivateTokens.{word_of}
use Rattle.expand.specs.Scan.{IsScanned}
use Rattle.expand.specs.Syntax.{dollar, IsRead}
use Rattle.expand.specs.Value.{Parts}
use Rattle.expand.specs.declared.character.Character.{Character}
use Rattle.expand.specs.declared.kind.Kind.{Kind}
use Rattle.expand.specs.declared.kind.Kind.TheVariants.{Quoted, Unquoted}

-- a text is a word: its characters are scanned, and what is left is read
abbrev pub IsWord : Kind → Escape → List ℕ → Parts → Type 0
IsWord kind escape text word = (found : List Character) × IsScanned kind escape (chars text) found × IsRead found word

-- the word that a text is, where it is one: the one for which `IsWord` holds, by the law `words_are_unique`. It is found by
-- reading the text from its front on
unfoldable pub word : Kind → Escape → List ℕ → Option Parts
word kind escape text = option_map (λ ps. word_of (tokens ps)) (option_and_then pieces (scanned kind escape (chars text)))

-- what reading gives where it can find this, or nothing: what is found, or R09; want of memory says nothing of what was read
abbrev pub Finds : {X : Type 0} → Option X → Result X (Fault Code) → Type 0
Finds found (Ok value) = found ≡ Some value
Finds found (Err (Because code)) = (code ≡ R09) × (found ≡ None)
Finds found (Err Memory) = Unit {0}

-- what reading a text gives: its word; R09 where it is none, since a quote is open or a substitution is bad
abbrev pub Reads : Kind → Escape → List ℕ → Result Parts (Fault Code) → Type 0
Reads kind escape text (Ok word) = IsWord kind escape text word
Reads kind escape text (Err (Because code)) = (code ≡ R09) × ((word : Parts) → ¬ (IsWord kind escape text word))
Reads kind escape text (Err Memory) = Unit {0}

-- the quotes of the shell

abbrev pub single_quote : ℕ
single_quote = 39

abbrev pub double_quote : ℕ
double_quote = 34

-- an ordinary character of a text of a kind stands for itself wherever it stands: it is no `$` and not the escape
-- character, and where there are quotes it is none (Dockerfile reference, environment replacement and escaping)
abbrev pub is_ordinary : Kind → Escape → ℕ → Bool
is_ordinary Quoted escape c = not (((c == dollar) || (c == byte_of escape)) || ((c == single_quote) || (c == double_quote)))
is_ordinary Unquoted escape c = not ((c == dollar) || (c == byte_of escape))

-- a text of ordinary characters alone. Its bytes are tested: what isn't ordinary is ASCII, and so no byte of a longer
-- character
abbrev pub AreOrdinary : Kind → Escape → List ℕ → Type 0
AreOrdinary kind escape [] = Unit {0}
AreOrdinary kind escape (c ∷ cs) = (is_ordinary kind escape c ≡ true) × AreOrdinary kind escape cs
