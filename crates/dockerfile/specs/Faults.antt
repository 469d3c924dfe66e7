-- All faults of a text: where `read` answers the first line that spells no instruction, these are of each such line (own).
use Rattle.std.specs.Prelude.{◌≡◌, ◌≢◌, ◌<◌, ◌⊎◌, ℕ, List, [], ◌∷◌, Option, option_map, Result, Ok, Err}
use Rattle.std.specs.List.{filter_map}
use Rattle.plain.specs.declared.fault.Fault.{Fault}
use Rattle.plain.specs.declared.fault.Fault.TheVariants.{Because, Memory}
use Rattle.plain.specs.declared.refusal.Refusal.{Refusal}
use Rattle.lines.specs.Text.{AreLines}
use Rattle.lines.specs.Text as lines_of
use Rattle.lines.specs.declared.line.Line.{Line}
use Rattle.instructions.specs.Least.{least}
use Rattle.instructions.specs.Parsing.{is_due}
use Rattle.instructions.specs.Instruction.{Instruction}
use Rattle.dockerfile.specs.Dockerfile.{AreInstructions}

-- the refusal that is due for a line, where it spells no instruction: the line's number, with the least of the codes that are due for it
abbrev pub refusal_of : Line → Option Refusal
refusal_of line = option_map (λ code. record { code = code; line = line.number }) (least (is_due line))

-- the refusals that are due for some lines: one for each line that spells no instruction, in the order of the lines
abbrev pub refusals_of : List Line → List Refusal
refusals_of lines = filter_map refusal_of lines

-- these are all faults of a text in the first phase that has one: what is wrong with it as a whole or with its lines, which is one refusal;
-- where nothing is, the refusals that are due for its lines; and none where each line spells an instruction (own)
abbrev pub AreFaults : List ℕ → List Refusal → Type 0
AreFaults text faults = ((refusal : Refusal) × lines_of.IsRefused text refusal × (faults ≡ refusal ∷ []))
    ⊎ ((lines : List Line) × AreLines text lines × (faults ≡ refusals_of lines))

-- what checking a text answers: its instructions, or all its faults, of which there is one at least; where memory is out, nothing is said
-- of the text
abbrev pub IsChecked : List ℕ → Result (List Instruction) (Fault (List Refusal)) → Type 0
IsChecked text (Ok instructions) = AreInstructions text instructions
IsChecked text (Err (Because faults)) = AreFaults text faults × (faults ≢ [])
IsChecked text (Err Memory) = Unit {0}

-- the lines of these refusals ascend, and all are below the line of this number
abbrev pub RefusalsBelow : ℕ → List Refusal → Type 0
RefusalsBelow number [] = Unit {0}
RefusalsBelow number (refusal ∷ more) = (number < refusal.line) × RefusalsBelow refusal.line more

-- refusals stand in the order of their lines, and no two of them on one line
abbrev pub AreInOrder : List Refusal → Type 0
AreInOrder [] = Unit {0}
AreInOrder (refusal ∷ more) = RefusalsBelow refusal.line more
