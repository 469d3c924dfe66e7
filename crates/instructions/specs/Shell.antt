-- SHELL: a list in JSON with one word at least (Dockerfile reference).
use Rattle.std.specs.Prelude.{ℕ, ◌==◌, Bool, false, not, List, Option, Some, None, is_some, length, if◌then◌else◌}
use Rattle.plain.specs.declared.refusal.Code.{Code}
use Rattle.plain.specs.declared.refusal.Code.TheVariants.{R06}
use Rattle.words.specs.Form.{json_form}
use Rattle.instructions.specs.declared.instruction.InstructionKind.{InstructionKind}
use Rattle.instructions.specs.declared.instruction.InstructionKind.TheVariants.{Shell}

-- the SHELL of a list in JSON, where there is one with a word
abbrev pub shell_words : Option (List (List ℕ)) → Option InstructionKind
shell_words None = None
shell_words (Some words) = if length words == 0 then None else Some (Shell words)

-- what a text behind SHELL is read as
abbrev pub shell_read : List ℕ → Option InstructionKind
shell_read text = shell_words (json_form text)

-- the codes that are due for SHELL and what stands behind it
abbrev pub shell_due : List ℕ → Code → Bool
shell_due text R06 = not (is_some (shell_read text))
shell_due text code = false
