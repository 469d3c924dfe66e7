-- USER, WORKDIR and STOPSIGNAL: just one word, which is expanded (Dockerfile reference; that a second one is refused: own).
use Rattle.std.specs.Prelude.{ℕ, ◌||◌, Bool, false, not, List, [], ◌∷◌, Option, Some, None, is_some, option_and_then}
use Rattle.plain.specs.declared.refusal.Code.{Code}
use Rattle.plain.specs.declared.refusal.Code.TheVariants.{R06, R09}
use Rattle.lines.specs.declared.escape.Escape.{Escape}
use Rattle.words.specs.Cutting.{words, ends_open}
use Rattle.expand.specs.Value.{Parts}
use Rattle.expand.specs.Word.{word}
use Rattle.expand.specs.declared.kind.Kind.TheVariants.{Quoted}
use Rattle.instructions.specs.Expanded.{has_no_word}

-- the text of which there is just one
abbrev pub only_text : List (List ℕ) → Option (List ℕ)
only_text [] = None
only_text (text ∷ []) = Some text
only_text (text ∷ second ∷ more) = None

-- the argument of an instruction of one word, as it is written
abbrev pub only_argument : Escape → List ℕ → Option (List ℕ)
only_argument escape text = only_text (words escape text)

-- what a text behind an instruction of one word is read as
abbrev pub one_word_read : Escape → List ℕ → Option Parts
one_word_read escape text = option_and_then (word Quoted escape) (only_argument escape text)

-- the codes that are due for an instruction of one word and what stands behind it
abbrev pub one_word_due : Escape → List ℕ → Code → Bool
one_word_due escape text R06 = not (is_some (only_argument escape text))
one_word_due escape text R09 = ends_open escape text || has_no_word (word Quoted escape) (only_argument escape text)
one_word_due escape text code = false
