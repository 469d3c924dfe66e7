-- COPY of what its text is cut into: whether it is a list in JSON, what stands behind the flags, the texts of that, and the flags.
use Rattle.std.specs.Prelude.{ℕ, ◌||◌, ◌&&◌, Bool, false, not, List, Option, Some, is_some, length, nat_lt}
use Rattle.plain.specs.declared.refusal.Code.{Code}
use Rattle.plain.specs.declared.refusal.Code.TheVariants.{R06, R07, R08, R09, R16}
use Rattle.lines.specs.declared.escape.Escape.{Escape}
use Rattle.lines.specs.declared.line.Heredoc.{Heredoc}
use Rattle.words.specs.Cutting.{ends_open}
use Rattle.words.specs.declared.flag.Flag.{Flag}
use Rattle.options.specs.Copy.{are_copy_flags, copy_flags}
use Rattle.instructions.specs.Copy.{arguments_of, are_refused, copy_from}
use Rattle.instructions.specs.Expanded.{has_no_word}
use Rattle.instructions.specs.declared.instruction.InstructionKind.{InstructionKind}

-- what the parts are read as
abbrev pub parts_read : Bool → Escape → List Heredoc → List (List ℕ) → List Flag → Option InstructionKind
parts_read listed escape heredocs texts flags = copy_from (arguments_of listed escape heredocs texts) (copy_flags flags)

-- the codes that are due for them
abbrev pub parts_due : Bool → Escape → List Heredoc → List ℕ → List (List ℕ) → List Flag → Code → Bool
parts_due listed escape heredocs rest texts flags R06 = nat_lt (length texts) 2
parts_due listed escape heredocs rest texts flags R07 = not (are_copy_flags flags)
parts_due listed escape heredocs rest texts flags R08 = are_refused listed heredocs texts flags
parts_due listed escape heredocs rest texts flags R09 = (not listed && ends_open escape rest) || has_no_word (arguments_of listed escape heredocs) (Some texts)
parts_due listed escape heredocs rest texts flags R16 = not (is_some (copy_flags flags))
parts_due listed escape heredocs rest texts flags code = false
