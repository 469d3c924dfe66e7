-- CMD and ENTRYPOINT: a command, which is a list in JSON or a text for the shell.
use Rattle.std.specs.Prelude.{ℕ, ◌==◌, Bool, false, List, [], ◌∷◌, ◌++◌, Option, Some, None, length}
use Rattle.plain.specs.declared.refusal.Code.{Code}
use Rattle.plain.specs.declared.refusal.Code.TheVariants.{R06}
use Rattle.words.specs.Form.{json_form}
use Rattle.instructions.specs.declared.instruction.Command.{Command}
use Rattle.instructions.specs.declared.instruction.Command.TheVariants.{Exec, Shell as Script}

-- the exec form is a list in JSON (Dockerfile reference); any other text is the shell form, one that begins as a list too (own)

-- the command of a text and the list in JSON that it is, if it is one
abbrev pub command_by : List ℕ → Option (List (List ℕ)) → Command
command_by text None = Script text
command_by text (Some ws) = Exec ws

-- the command that a text is
abbrev pub command_of : List ℕ → Command
command_of text = command_by text (json_form text)

-- what a text behind CMD or ENTRYPOINT is read as: a command, whatever the text is
abbrev pub command_read : List ℕ → Option Command
command_read text = Some (command_of text)

-- the codes that are due for CMD or ENTRYPOINT and what stands behind it: nothing behind it is refused, and a list without a
-- word is fine, and unsets (own)
abbrev pub command_due : List ℕ → Code → Bool
command_due text R06 = length text == 0
command_due text code = false

-- the words that are run: those of a list in JSON; a text for the shell is one word after the shell's own (Dockerfile reference, SHELL)
abbrev pub words_of : List (List ℕ) → Command → List (List ℕ)
words_of shell (Exec words) = words
words_of shell (Script text) = shell ++ text ∷ []
