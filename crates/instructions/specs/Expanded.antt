-- Texts that are expanded (Dockerfile reference, environment replacement; the defaults of ARG as in BuildKit's parser), and which
-- texts those of VOLUME and COPY are.
use Rattle.std.specs.Prelude.{ℕ, Bool, true, false, not, List, Option, Some, None, is_some, map}
use Rattle.lines.specs.declared.escape.Escape.{Escape}
use Rattle.words.specs.Form.{json_form}
use Rattle.words.specs.Cutting.{words}
use Rattle.expand.specs.Value.{Parts}
use Rattle.expand.specs.Word.{word}
use Rattle.expand.specs.declared.kind.Kind.{Kind}
use Rattle.expand.specs.declared.kind.Kind.TheVariants.{Quoted, Unquoted}
use Rattle.options.specs.Lists.{all_some}

-- whether something is there, and can't be read: a text in it is no word, since a quote is open in it or a substitution is bad.
-- R09 is due for it, whatever values its variables have (own)
abbrev pub has_no_word : {X Y : Type 0} → (X → Option Y) → Option X → Bool
has_no_word read None = false
has_no_word read (Some x) = not (is_some (read x))

-- the words that texts are, where each is one
abbrev pub all_words : Kind → Escape → List (List ℕ) → Option (List Parts)
all_words kind escape texts = all_some (map (word kind escape) texts)

-- VOLUME and COPY have a list in JSON (Dockerfile reference), and any other text is words (own)

-- whether a text is a list in JSON
abbrev pub is_list : List ℕ → Bool
is_list text = is_some (json_form text)

-- the strings of a list in JSON, else the words of the text
abbrev pub texts_by : Escape → List ℕ → Option (List (List ℕ)) → List (List ℕ)
texts_by escape text None = words escape text
texts_by escape text (Some strings) = strings

-- the texts that a text is
abbrev pub texts : Escape → List ℕ → List (List ℕ)
texts escape text = texts_by escape text (json_form text)

-- the strings of a list in JSON know no quotes, words do
abbrev pub kind_of : Bool → Kind
kind_of false = Quoted
kind_of true = Unquoted
