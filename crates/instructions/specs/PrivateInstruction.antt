-- How an instruction is stored.
use Rattle.std.specs.Prelude.{ℕ, refl}
use Rattle.std.specs.Coded.{Coded, code_by, coded×, coded_ℕ}
use Rattle.instructions.specs.Instruction.{Instruction}
use Rattle.instructions.specs.declared.instruction.InstructionKind.{InstructionKind}
use Rattle.instructions.specs.contracts.instruction.InstructionKind as kind

-- an instruction is stored as the pair of its line's number and its kind
abbrev pub instruction_code : Coded Instruction
instruction_code =
    code_by (ℕ × InstructionKind) (coded× coded_ℕ kind.the_row.coded) (λ i. (i.line, i.kind)) (λ p. record { line = p.0; kind = p.1 }) (λ _. refl)
