-- EXPOSE: one word or more, all expanded (Dockerfile reference; what a port is, is judged once the words have values).
use Rattle.std.specs.Prelude.{ℕ, ◌==◌, ◌||◌, Bool, false, List, Option, Some, option_map, length}
use Rattle.plain.specs.declared.refusal.Code.{Code}
use Rattle.plain.specs.declared.refusal.Code.TheVariants.{R06, R09}
use Rattle.lines.specs.declared.escape.Escape.{Escape}
use Rattle.words.specs.Cutting.{words, ends_open}
use Rattle.expand.specs.declared.kind.Kind.TheVariants.{Quoted}
use Rattle.instructions.specs.Expanded.{has_no_word, all_words}
use Rattle.instructions.specs.declared.instruction.InstructionKind.{InstructionKind}
use Rattle.instructions.specs.declared.instruction.InstructionKind.TheVariants.{Expose}

-- what a text behind EXPOSE is read as
abbrev pub expose_read : Escape → List ℕ → Option InstructionKind
expose_read escape text = option_map (λ ports. Expose ports) (all_words Quoted escape (words escape text))

-- the codes that are due for EXPOSE and what stands behind it
abbrev pub expose_due : Escape → List ℕ → Code → Bool
expose_due escape text R06 = length (words escape text) == 0
expose_due escape text R09 = ends_open escape text || has_no_word (all_words Quoted escape) (Some (words escape text))
expose_due escape text code = false
