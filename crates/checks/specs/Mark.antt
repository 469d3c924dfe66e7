-- The word that a fault is about, as a person or a program reads it (own).
use Rattle.std.specs.Prelude.{◌++◌, ◌+◌, ◌==◌, ℕ, List, [], ◌∷◌, Option, Some, None, chars, codes, option_map, if◌then◌else◌}
use Rattle.std.specs.List.{flat_map}
use Rattle.std.specs.Option.{option_or}
use Rattle.ascii.specs.Pieces.{behind_piece}
use Rattle.plain.specs.declared.refusal.Code.{Code}
use Rattle.plain.specs.declared.refusal.Code.TheVariants.{R17}
use Rattle.expand.specs.declared.reason.Reason.{Reason}
use Rattle.expand.specs.declared.reason.Reason.TheVariants.{Coded, Required}
use Rattle.meant.specs.Mounts.{faulty_item}
use Rattle.meant.specs.WordFaults.{word_fault}
use Rattle.meant.specs.declared.mounts.FaultyItem.{FaultyItem}
use Rattle.meant.specs.declared.word_faults.FaultyWord.{FaultyWord}
use Rattle.pointed.specs.Pointing.{are_flags_alone, pointed, pointed_later, spotted}
use Rattle.pointed.specs.Spot.{Spot, spot}
use Rattle.pointed.specs.declared.spot.Pointed as lent
use Rattle.sentences.specs.Subject.{subject_of}
use Rattle.sentences.specs.declared.subject.Subject.{Subject}
use Rattle.sentences.specs.declared.subject.Subject.TheVariants.{Run}
use Rattle.checks.specs.Visible.{visible}
use Rattle.checks.specs.declared.mark.Marked.{Marked}

-- what stands under a character that is shown before a word: a tab under a tab, since that is as wide as the one above it wherever a terminal stops, and a
-- blank under any other character
abbrev pub blank_under : ℕ → List ℕ
blank_under c = if c == 9 then 9 ∷ [] else codes " "

-- what stands under a character that is shown of a word
abbrev pub caret_under : ℕ → List ℕ
caret_under c = codes "^"

-- the mark under a word, after what stands before it in its line, where a person gets both as a terminal may have them
unfoldable pub mark_under : List ℕ → List ℕ → List ℕ
mark_under before word = flat_map blank_under (chars (visible before)) ++ flat_map caret_under (chars (visible word))

-- a word of an instruction's lines, with how many of them stand above its own
abbrev pub PlacedSpot : Type 0
PlacedSpot = ℕ × Spot

-- the same of a word that is lent
abbrev pub placed_spot : ℕ × lent.Pointed → PlacedSpot
placed_spot it = (it.0, spot it.1)

-- the word of the later lines of an instruction that a refusal by this code is about, below so many lines: there is one only where the lines above have
-- flags alone. `front` is what the one above has of them
abbrev pub later_spot : Code → Subject → ℕ → List ℕ → List (List ℕ) → Option PlacedSpot
later_spot code subject above front [] = None
later_spot code subject above front (line ∷ later) = if are_flags_alone front
    then option_or (option_map (λ it. (above, it)) (pointed_later code subject line)) (later_spot code subject (above + 1) line later) else None

-- the same of an instruction that takes flags in several lines
abbrev pub later_of : Code → Subject → List ℕ → List (List ℕ) → Option PlacedSpot
later_of code Run line later = later_spot code Run 1 (behind_piece line) later
later_of code subject line later = None

abbrev pub later_by : Code → List ℕ → List (List ℕ) → Option PlacedSpot
later_by code line later = later_of code (subject_of line) line later

-- the word that a refusal by this code is about, of the lines of an instruction
abbrev pub spot_in : Code → List (List ℕ) → Option PlacedSpot
spot_in code [] = None
spot_in code (line ∷ later) = option_or (option_map (λ it. (0, it)) (pointed code line)) (later_by code line later)

-- the first of some lines that has this word, by how many stand above it, with where the word stands in it
abbrev pub spotted_in : ℕ → List ℕ → List (List ℕ) → Option PlacedSpot
spotted_in above word [] = None
spotted_in above word (line ∷ lines) = option_or (option_map (λ it. (above, it)) (spotted word line)) (spotted_in (above + 1) word lines)

-- the same of a word with something wrong
abbrev pub faulty_spot : Option FaultyWord → List (List ℕ) → Option PlacedSpot
faulty_spot None own = None
faulty_spot (Some found) own = spotted_in 0 found.word own

-- the word that the lines of an instruction tell by themselves; by R21 they don't
abbrev pub told_spot : Reason → List (List ℕ) → Option PlacedSpot
told_spot (Coded code) own = spot_in code own
told_spot (Required text) own = None

-- the word that a refusal for this reason is about, of an instruction of the lines `own` of a file of these lines, of which the first has this number: the
-- one that they tell, else the one that is wrong
abbrev pub spot_by : Reason → List (List ℕ) → List (List ℕ) → ℕ → Option PlacedSpot
spot_by reason lines own number = option_or (told_spot reason own) (faulty_spot (word_fault lines own reason number) own)

-- a word with where it stands
abbrev pub marked_whole : PlacedSpot → Marked
marked_whole it = record { above = it.0; before = it.1.before; word = it.1.word }

-- the item of a mount that is marked in place of its flag
abbrev pub marked_within : PlacedSpot → Option FaultyItem → Marked
marked_within it None = marked_whole it
marked_within it (Some found) = record { above = it.0; before = it.1.before ++ found.front; word = found.item }

-- the first item of a mount with which something is wrong, if there is one
abbrev pub marked_item : PlacedSpot → Marked
marked_item it = marked_within it (faulty_item it.1.word)

-- what is marked of the word that a refusal for this reason is about
abbrev pub marked_for : Reason → PlacedSpot → Marked
marked_for (Coded R17) it = marked_item it
marked_for (Coded code) it = marked_whole it
marked_for (Required text) it = marked_whole it

abbrev pub marked_by : Reason → Option PlacedSpot → Option Marked
marked_by reason found = option_map (marked_for reason) found
