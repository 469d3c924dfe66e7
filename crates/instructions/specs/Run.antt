-- RUN: flags `--mount=..`, then one heredoc's mark, or a list in JSON, or a text for the shell (Dockerfile reference, RUN; that a
-- mark stands alone, that no body is empty or begins with `#!`, and that there is something to run: own).
use Rattle.std.specs.Prelude.{ℕ, ◌==◌, ◌||◌, ◌&&◌, Bool, true, false, not, List, [], ◌∷◌, Option, Some, None, is_some, option_map, length, nat_lt}
use Rattle.std.specs.List.{list_any}
use Rattle.plain.specs.Limits.{most_mounts}
use Rattle.plain.specs.declared.refusal.Code.{Code}
use Rattle.plain.specs.declared.refusal.Code.TheVariants.{R06, R07, R08, R17, R18}
use Rattle.lines.specs.declared.line.Heredoc.{Heredoc}
use Rattle.words.specs.Flag.{flags, behind_flags}
use Rattle.words.specs.Form.{json_form}
use Rattle.ascii.specs.Pieces.{behind_piece}
use Rattle.options.specs.Mount.{are_mount_flags, mounts}
use Rattle.instructions.specs.Command.{command_of}
use Rattle.instructions.specs.declared.instruction.InstructionKind.{InstructionKind}
use Rattle.instructions.specs.declared.instruction.InstructionKind.TheVariants.{Run}
use Rattle.instructions.specs.declared.instruction.Command.{Command}
use Rattle.instructions.specs.declared.instruction.Command.TheVariants.{Shell as Script}

-- the command

-- the body of the heredoc, else what the rest is
abbrev pub run_command : List Heredoc → List ℕ → Command
run_command [] rest = command_of rest
run_command (h ∷ hs) rest = Script h.body

-- a list in JSON without a word
abbrev pub is_wordless : Option (List (List ℕ)) → Bool
is_wordless None = false
is_wordless (Some ws) = length ws == 0

-- whether a mark stands beside another, or beside other pieces (own)
abbrev pub is_mark_beside : List Heredoc → List ℕ → Bool
is_mark_beside [] rest = false
is_mark_beside (h ∷ []) rest = not (length (behind_piece rest) == 0)
is_mark_beside (h ∷ second ∷ hs) rest = true

-- the two characters with which a script names its interpreter (Linux, execve)

abbrev pub hash : ℕ
hash = 35

abbrev pub exclamation_mark : ℕ
exclamation_mark = 33

-- whether a text begins with `#!`
abbrev pub names_interpreter : List ℕ → Bool
names_interpreter [] = false
names_interpreter (c ∷ []) = false
names_interpreter (c ∷ d ∷ rest) = (c == hash) && (d == exclamation_mark)

-- what a text behind RUN is read as, in a line with these heredocs
abbrev pub run_read : List Heredoc → List ℕ → Option InstructionKind
run_read hs text = option_map (λ ms. Run ms (run_command hs (behind_flags text))) (mounts (flags text))

-- the codes that are due for RUN with these heredocs and what stands behind it; its flags are all mounts where R07 isn't due
abbrev pub run_due : List Heredoc → List ℕ → Code → Bool
run_due hs text R06 = (length (behind_flags text) == 0) || (is_wordless (json_form (behind_flags text)) || list_any (λ h. length h.body == 0) hs)
run_due hs text R07 = not (are_mount_flags (flags text))
run_due hs text R08 = is_mark_beside hs (behind_flags text) || list_any (λ h. names_interpreter h.body) hs
run_due hs text R17 = not (is_some (mounts (flags text)))
run_due hs text R18 = nat_lt most_mounts (length (flags text))
run_due hs text code = false
