-- VOLUME: a list in JSON, or words, one text or more, all expanded (Dockerfile reference; that any text but a list of texts is
-- words: own).
use Rattle.std.specs.Prelude.{ℕ, ◌==◌, ◌||◌, ◌&&◌, Bool, false, not, List, Option, Some, option_map, length}
use Rattle.plain.specs.declared.refusal.Code.{Code}
use Rattle.plain.specs.declared.refusal.Code.TheVariants.{R06, R09}
use Rattle.lines.specs.declared.escape.Escape.{Escape}
use Rattle.words.specs.Cutting.{ends_open}
use Rattle.instructions.specs.Expanded.{has_no_word, all_words, is_list, texts, kind_of}
use Rattle.instructions.specs.declared.instruction.InstructionKind.{InstructionKind}
use Rattle.instructions.specs.declared.instruction.InstructionKind.TheVariants.{Volume}

-- what a text behind VOLUME is read as
abbrev pub volume_read : Escape → List ℕ → Option InstructionKind
volume_read escape text = option_map (λ paths. Volume paths) (all_words (kind_of (is_list text)) escape (texts escape text))

-- the codes that are due for VOLUME and what stands behind it
abbrev pub volume_due : Escape → List ℕ → Code → Bool
volume_due escape text R06 = length (texts escape text) == 0
volume_due escape text R09 = (not (is_list text) && ends_open escape text) || has_no_word (all_words (kind_of (is_list text)) escape) (Some (texts escape text))
volume_due escape text code = false
