-- What a logical line spells.
use Rattle.std.specs.Prelude.{◌≡◌, ℕ, Bool, true, false, List, Option, Some, None, Result, Ok, Err, option_map}
use Rattle.plain.specs.declared.refusal.Code.{Code}
use Rattle.plain.specs.declared.refusal.Refusal.{Refusal}
use Rattle.plain.specs.declared.refusal.Code.TheVariants.{R04}
use Rattle.lines.specs.declared.line.Line.{Line}
use Rattle.ascii.specs.Pieces.{first_piece, behind_piece}
use Rattle.instructions.specs.Arg.{arg_read, arg_due}
use Rattle.instructions.specs.Command.{command_read, command_due}
use Rattle.instructions.specs.Copy.{copy_read, copy_due}
use Rattle.instructions.specs.Env.{env_read, env_due}
use Rattle.instructions.specs.Expose.{expose_read, expose_due}
use Rattle.instructions.specs.From.{from_read, from_due}
use Rattle.instructions.specs.Keyword.{keyword_of}
use Rattle.instructions.specs.Label.{label_read, label_due}
use Rattle.instructions.specs.Least.{least}
use Rattle.instructions.specs.Run.{run_read, run_due}
use Rattle.instructions.specs.OneWord.{one_word_read, one_word_due}
use Rattle.instructions.specs.Shell.{shell_read, shell_due}
use Rattle.instructions.specs.Volume.{volume_read, volume_due}
use Rattle.plain.specs.declared.fault.Fault.{Fault}
use Rattle.plain.specs.declared.fault.Fault.TheVariants.{Because, Memory}
use Rattle.instructions.specs.Instruction.{Instruction}
use Rattle.instructions.specs.declared.instruction.InstructionKind.{InstructionKind}
use Rattle.instructions.specs.declared.instruction.InstructionKind.TheVariants as instruction
use Rattle.instructions.specs.declared.keyword.Keyword.{Keyword}
use Rattle.instructions.specs.declared.keyword.Keyword.TheVariants.{From, Arg, Env, Label, Expose, User, Workdir, StopSignal, Volume, Shell, Cmd, Entrypoint, Run, Copy}

-- the instruction of a line's name and what stands behind it, by the rules of that name
abbrev pub named_read : Option Keyword → Line → List ℕ → Option InstructionKind
named_read None line rest = None
named_read (Some From) line rest = from_read line.escape rest
named_read (Some Arg) line rest = arg_read line.escape rest
named_read (Some Env) line rest = env_read line.escape rest
named_read (Some Label) line rest = label_read line.escape rest
named_read (Some Expose) line rest = expose_read line.escape rest
named_read (Some User) line rest = option_map (λ t. instruction.User t) (one_word_read line.escape rest)
named_read (Some Workdir) line rest = option_map (λ t. instruction.Workdir t) (one_word_read line.escape rest)
named_read (Some StopSignal) line rest = option_map (λ t. instruction.StopSignal t) (one_word_read line.escape rest)
named_read (Some Volume) line rest = volume_read line.escape rest
named_read (Some Shell) line rest = shell_read rest
named_read (Some Cmd) line rest = option_map (λ c. instruction.Cmd c) (command_read rest)
named_read (Some Entrypoint) line rest = option_map (λ c. instruction.Entrypoint c) (command_read rest)
named_read (Some Run) line rest = run_read line.heredocs rest
named_read (Some Copy) line rest = copy_read line.escape line.heredocs rest

-- an unknown name is R04
abbrev pub unknown_due : Code → Bool
unknown_due R04 = true
unknown_due code = false

-- the codes that are due for a line, by the rules of its name
abbrev pub named_due : Option Keyword → Line → List ℕ → Code → Bool
named_due None line rest = unknown_due
named_due (Some From) line rest = from_due line.escape rest
named_due (Some Arg) line rest = arg_due line.escape rest
named_due (Some Env) line rest = env_due line.escape rest
named_due (Some Label) line rest = label_due line.escape rest
named_due (Some Expose) line rest = expose_due line.escape rest
named_due (Some User) line rest = one_word_due line.escape rest
named_due (Some Workdir) line rest = one_word_due line.escape rest
named_due (Some StopSignal) line rest = one_word_due line.escape rest
named_due (Some Volume) line rest = volume_due line.escape rest
named_due (Some Shell) line rest = shell_due rest
named_due (Some Cmd) line rest = command_due rest
named_due (Some Entrypoint) line rest = command_due rest
named_due (Some Run) line rest = run_due line.heredocs rest
named_due (Some Copy) line rest = copy_due line.escape line.heredocs rest

-- a line's first piece is its name
abbrev pub keyword_in : Line → Option Keyword
keyword_in line = keyword_of (first_piece line.text)

-- whether a code is due for a line
abbrev pub is_due : Line → Code → Bool
is_due line = named_due (keyword_in line) line (behind_piece line.text)

-- a line spells an instruction: it has the line's number, its kind is made so, and no code is due
abbrev pub Spells : Line → Instruction → Type 0
Spells line i = (named_read (keyword_in line) line (behind_piece line.text) ≡ Some i.kind) × (i.line ≡ line.number) × (least (is_due line) ≡ None)

-- what reading a line answers: the instruction that it spells, or the least code that is due with the line's number; want of
-- memory says nothing of the line
abbrev pub IsParsed : Line → Result Instruction (Fault Refusal) → Type 0
IsParsed line (Ok i) = Spells line i
IsParsed line (Err (Because f)) = (f.line ≡ line.number) × (least (is_due line) ≡ Some f.code)
IsParsed line (Err Memory) = Unit {0}
