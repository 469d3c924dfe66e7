-- What the function that reads a file's lines one by one answers (own).
use Rattle.std.specs.Prelude.{◌≡◌, ◌≢◌, ◌++◌, ℕ, List, [], ◌∷◌, Result, Ok, Err}
use Rattle.plain.specs.declared.fault.Fault.{Fault}
use Rattle.plain.specs.declared.fault.Fault.TheVariants.{Because, Memory}
use Rattle.plain.specs.declared.refusal.Refusal.{Refusal}
use Rattle.lines.specs.Text.{AreLines}
use Rattle.lines.specs.declared.line.Line.{Line}
use Rattle.std.specs.declared.vec.Vec.{Vec}
use Rattle.instructions.specs.Instruction.{Instruction}
use Rattle.dockerfile.specs.Dockerfile.{AreSpelled, IsFirstDue}
use Rattle.dockerfile.specs.Faults.{refusals_of, AreFaults}

-- what reading lines answers: their instructions, or the refusal of the first that spells none; want of memory says nothing of them
abbrev pub AreParsed : List Line → Result (List Instruction) (Fault Refusal) → Type 0
AreParsed lines (Ok instructions) = AreSpelled lines instructions
AreParsed lines (Err (Because refusal)) = IsFirstDue lines refusal
AreParsed lines (Err Memory) = Unit {0}

-- what reading all lines answers: their instructions, or the refusals of those that spell none
abbrev pub AreAllParsed : List Line → Result (List Instruction) (Fault (List Refusal)) → Type 0
AreAllParsed lines (Ok instructions) = AreSpelled lines instructions
AreAllParsed lines (Err (Because refusals)) = (refusals ≡ refusals_of lines) × (refusals ≢ [])
AreAllParsed lines (Err Memory) = Unit {0}

-- what adding a parsed line leaves of the instructions and the refusals so far: one more of one of them; want of memory is handed on
abbrev pub Adds : Result Instruction (Fault Refusal) → List Instruction → List Refusal → List Instruction → List Refusal → Type 0
Adds (Ok instruction) found refusals more_found more = (more_found ≡ found ++ instruction ∷ []) × (more ≡ refusals)
Adds (Err (Because refusal)) found refusals more_found more = (more_found ≡ found) × (more ≡ refusals ++ refusal ∷ [])
Adds (Err Memory) found refusals more_found more = ⊥

-- what reading a text's lines answers: these, or the faults that there are where it has none
abbrev pub AreLinesOrFaults : {A : Type 0} → List ℕ → Result (Vec Line A) (Fault (List Refusal)) → Type 0
AreLinesOrFaults text (Ok lines) = AreLines text lines.items
AreLinesOrFaults text (Err (Because faults)) = AreFaults text faults × (faults ≢ [])
AreLinesOrFaults text (Err Memory) = Unit {0}
