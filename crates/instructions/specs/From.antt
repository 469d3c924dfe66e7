-- FROM: `image`, or `image AS name`; it knows no flag (Dockerfile reference; `--platform` is left out: own).
use Rattle.std.specs.Prelude.{ℕ, ◌==◌, ◌||◌, Bool, false, not, List, [], ◌∷◌, Option, Some, None, is_some, option_map, option_and_then, length, if◌then◌else◌, codes}
use Rattle.std.specs.Str.{str_eq_ignore_ascii_case}
use Rattle.plain.specs.declared.refusal.Code.{Code}
use Rattle.plain.specs.declared.refusal.Code.TheVariants.{R06, R07, R09, R10}
use Rattle.lines.specs.declared.escape.Escape.{Escape}
use Rattle.words.specs.Cutting.{words, ends_open}
use Rattle.words.specs.Flag.{flags, behind_flags}
use Rattle.expand.specs.Word.{word}
use Rattle.expand.specs.declared.kind.Kind.TheVariants.{Quoted}
use Rattle.instructions.specs.Expanded.{has_no_word}
use Rattle.instructions.specs.Names.{is_stage_name}
use Rattle.instructions.specs.declared.instruction.InstructionKind.{InstructionKind}
use Rattle.instructions.specs.declared.instruction.InstructionKind.TheVariants.{From}

-- the image and the stage's name of these words: one, or three of which the second is AS in any case of letters
abbrev pub stage_words : List (List ℕ) → Option (List ℕ × Option (List ℕ))
stage_words [] = None
stage_words (image ∷ []) = Some (image, None)
stage_words (image ∷ second ∷ []) = None
stage_words (image ∷ second ∷ name ∷ []) = if str_eq_ignore_ascii_case second (codes "as") then Some (image, Some name) else None
stage_words (image ∷ second ∷ name ∷ fourth ∷ more) = None

-- whether a name is there, and is none of a stage
abbrev pub is_bad_name : Option (List ℕ) → Bool
is_bad_name None = false
is_bad_name (Some name) = not (is_stage_name name)

-- whether a stage has a name that is none
abbrev pub has_bad_name : Option (List ℕ × Option (List ℕ)) → Bool
has_bad_name None = false
has_bad_name (Some stage) = is_bad_name stage.1

-- the image and the stage's name of a text behind FROM, where its words are as FROM wants them
abbrev pub stage_in : Escape → List ℕ → Option (List ℕ × Option (List ℕ))
stage_in escape text = stage_words (words escape (behind_flags text))

-- the instruction of an image and a stage's name, where the image is a word
abbrev pub stage_from : Escape → List ℕ × Option (List ℕ) → Option InstructionKind
stage_from escape stage = option_map (λ image. From image stage.1) (word Quoted escape stage.0)

-- what a text behind FROM is read as
abbrev pub from_read : Escape → List ℕ → Option InstructionKind
from_read escape text = option_and_then (stage_from escape) (stage_in escape text)

-- the codes that are due for FROM and what stands behind it; of its words the image alone is expanded
abbrev pub from_due : Escape → List ℕ → Code → Bool
from_due escape text R06 = not (is_some (stage_in escape text))
from_due escape text R07 = not (length (flags text) == 0)
from_due escape text R09 = ends_open escape (behind_flags text) || has_no_word (stage_from escape) (stage_in escape text)
from_due escape text R10 = has_bad_name (stage_in escape text)
from_due escape text code = false
