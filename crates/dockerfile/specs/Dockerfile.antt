-- What a whole text gives: its instructions, or why it is refused.
use Rattle.std.specs.Prelude.{◌≡◌, ◌<◌, ◌≤◌, ◌⊎◌, ℕ, List, [], ◌∷◌, ◌++◌, length, None, Some, Result, Ok, Err}
use Rattle.std.specs.List.{All, AllZip}
use Rattle.std.specs.declared.vec.Vec.{Vec}
use Rattle.plain.specs.Limits.{most_lines, most_line_number}
use Rattle.plain.specs.declared.fault.Fault.{Fault}
use Rattle.plain.specs.declared.fault.Fault.TheVariants.{Because, Memory}
use Rattle.plain.specs.declared.refusal.Refusal.{Refusal}
use Rattle.lines.specs.Text.{AreLines}
use Rattle.lines.specs.Text as lines_of
use Rattle.lines.specs.declared.line.Line.{Line}
use Rattle.instructions.specs.Instruction.{IsInstruction}
use Rattle.instructions.specs.Least.{least}
use Rattle.instructions.specs.Parsing.{is_due, Spells}
use Rattle.instructions.specs.Instruction.{Instruction}

-- these lines spell these instructions, one each, in their order (Dockerfile reference)
abbrev pub AreSpelled : List Line → List Instruction → Type 0
AreSpelled lines instructions = AllZip Spells lines instructions

-- no code is due for the line
abbrev pub IsSound : Line → Type 0
IsSound line = least (is_due line) ≡ None

-- the refusal is that of the first of these lines for which a code is due, with the least of its codes (own)
pub record IsFirstDue (lines : List Line) (refusal : Refusal) : Type 0 where
  pub before : List Line
  pub line : Line
  pub after : List Line
  pub cut : lines ≡ before ++ line ∷ after
  pub sound : All IsSound before
  pub number : refusal.line ≡ line.number
  pub due : least (is_due line) ≡ Some refusal.code

-- these are the instructions of a text: those that its logical lines spell (Dockerfile reference)
abbrev pub AreInstructions : List ℕ → List Instruction → Type 0
AreInstructions text instructions = (lines : List Line) × AreLines text lines × AreSpelled lines instructions

-- a text is refused for what is wrong with it as a whole or with its lines, and where nothing is, for the first line that spells no
-- instruction (own)
abbrev pub IsRefused : List ℕ → Refusal → Type 0
IsRefused text refusal = lines_of.IsRefused text refusal ⊎ ((lines : List Line) × AreLines text lines × IsFirstDue lines refusal)

-- what reading a text answers: its instructions, or why there are none; where memory is out, nothing is said of the text
abbrev pub IsRead : List ℕ → Result (List Instruction) (Fault Refusal) → Type 0
IsRead text (Ok instructions) = AreInstructions text instructions
IsRead text (Err (Because refusal)) = IsRefused text refusal
IsRead text (Err Memory) = Unit {0}

-- what reading a text with its lines answers: its instructions and the logical lines that spell them, or why there are none
abbrev pub IsReadWithLines : List ℕ → Result (List Instruction × List Line) (Fault Refusal) → Type 0
IsReadWithLines text (Ok read) = AreLines text read.1 × AreSpelled read.1 read.0
IsReadWithLines text (Err (Because refusal)) = IsRefused text refusal
IsReadWithLines text (Err Memory) = Unit {0}

-- these instructions stand on ascending lines below the line of this number
abbrev pub AscendBelow : ℕ → List Instruction → Type 0
AscendBelow number [] = Unit {0}
AscendBelow number (i ∷ more) = (number < i.line) × (i.line ≤ most_line_number) × AscendBelow i.line more

-- what the instructions of each Dockerfile keep that isn't refused: each is whole, their lines ascend from 1 on, and there are no
-- more of them than a Dockerfile may have lines (own)
pub record IsDockerfile (instructions : List Instruction) : Type 0 where
  pub whole : All (λ i. IsInstruction i.kind) instructions
  pub ascend : AscendBelow 0 instructions
  pub few : length instructions ≤ most_lines

-- instructions stand as those of a Dockerfile do: their lines ascend from 1 on, and there are no more of them than it may have lines (own)
abbrev pub StandInOrder : List Instruction → Type 0
StandInOrder instructions = AscendBelow 0 instructions × (length instructions ≤ most_lines)

-- what making a Dockerfile of instructions answers: they are its instructions if they stand so, and are given back if they don't
abbrev pub IsMade : {A : Type 0} → List Instruction → Result (List Instruction) (Vec Instruction A) → Type 0
IsMade instructions (Ok made) = (made ≡ instructions) × StandInOrder instructions
IsMade instructions (Err back) = (back.items ≡ instructions) × (¬ (StandInOrder instructions))
