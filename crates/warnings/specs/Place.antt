-- Where an instruction stands: the FROM of its stage, and the user whose folders a WORKDIR makes in BuildKit.
use Rattle.std.specs.Prelude.{◌==◌, ◌||◌, ℕ, Bool, false, not, List, bytes_eq, codes}
use Rattle.std.specs.List.{before_first}
use Rattle.ascii.specs.Pieces.{behind_piece}
use Rattle.lines.specs.declared.line.Line.{Line}
use Rattle.instructions.specs.Instruction.{Instruction}
use Rattle.instructions.specs.declared.instruction.InstructionKind.{InstructionKind}
use Rattle.instructions.specs.declared.instruction.InstructionKind.TheVariants.{From, User}
use Rattle.warnings.specs.declared.place.Place.{Place}

-- a user's text up to the first colon, after which its group stands (Dockerfile reference, USER)
abbrev pub before_colon : List ℕ → List ℕ
before_colon text = before_first (λ c. c == 58) text

-- the text of a USER is root's, as it is written: one with a variable isn't known to be, nor one in quotes (own)
abbrev pub is_root : List ℕ → Bool
is_root text = bytes_eq (before_colon text) (codes "root") || bytes_eq (before_colon text) (codes "0")

-- before the first instruction
abbrev pub first_place : Place
first_place = record { stage = 0; is_users = false }

-- after an instruction of this kind, on the line of this number
abbrev pub place_by : Place → Line → ℕ → InstructionKind → Place
place_by place line number (From image name) = record { stage = number; is_users = false }
place_by place line number (User user) = record { stage = place.stage; is_users = not (is_root (behind_piece line.text)) }
place_by place line number kind = place

-- after an instruction, which this line spells: a FROM begins a stage, whose user isn't looked at in what it begins
-- with, and a USER sets it (Dockerfile reference, FROM and USER; that a base's user isn't looked at: own)
abbrev pub place_after : Place → Line → Instruction → Place
place_after place line i = place_by place line i.line i.kind
