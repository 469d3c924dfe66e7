-- LABEL: words `key=value`, cut at the first `=` outside quotes and escapes (Dockerfile reference; `LABEL key value` is left
-- out: own).
use Rattle.std.specs.Prelude.{ℕ, ◌||◌, Bool, false, not, List, Option, Some, None, is_some, option_map, option_and_then, map}
use Rattle.plain.specs.declared.refusal.Code.{Code}
use Rattle.plain.specs.declared.refusal.Code.TheVariants.{R06, R09}
use Rattle.lines.specs.declared.escape.Escape.{Escape}
use Rattle.words.specs.Cutting.{words, ends_open}
use Rattle.words.specs.Pairs.{label_pair}
use Rattle.expand.specs.Value.{Parts}
use Rattle.expand.specs.Word.{word}
use Rattle.expand.specs.declared.kind.Kind.TheVariants.{Quoted}
use Rattle.options.specs.Lists.{all_some}
use Rattle.instructions.specs.Env.{pairs_among}
use Rattle.instructions.specs.Expanded.{has_no_word}
use Rattle.instructions.specs.declared.instruction.Label as label
use Rattle.instructions.specs.declared.instruction.InstructionKind.{InstructionKind}
use Rattle.instructions.specs.declared.instruction.InstructionKind.TheVariants.{Label}

-- the keys and values of a text behind LABEL, as they are written
abbrev pub label_pairs : Escape → List ℕ → Option (List (List ℕ × List ℕ))
label_pairs escape text = pairs_among (label_pair escape) (words escape text)

-- the label of a key and a value that are words
abbrev pub label_from : Option Parts → Option Parts → Option label.Label
label_from None value = None
label_from (Some key) None = None
label_from (Some key) (Some value) = Some (record { key = key; value = value })

-- the label of a key and a value, where both are words
abbrev pub label_of : Escape → List ℕ × List ℕ → Option label.Label
label_of escape pair = label_from (word Quoted escape pair.0) (word Quoted escape pair.1)

-- the labels of keys and values, where all of them are words
abbrev pub labels_of : Escape → List (List ℕ × List ℕ) → Option (List label.Label)
labels_of escape pairs = all_some (map (label_of escape) pairs)

-- what a text behind LABEL is read as
abbrev pub label_read : Escape → List ℕ → Option InstructionKind
label_read escape text = option_map (λ labels. Label labels) (option_and_then (labels_of escape) (label_pairs escape text))

-- the codes that are due for LABEL and what stands behind it
abbrev pub label_due : Escape → List ℕ → Code → Bool
label_due escape text R06 = not (is_some (label_pairs escape text))
label_due escape text R09 = ends_open escape text || has_no_word (labels_of escape) (label_pairs escape text)
label_due escape text code = false
