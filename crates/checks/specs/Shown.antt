-- What a person or a program reads of faults, with the lines that they are about (own).
use Rattle.std.specs.Prelude.{◌++◌, ◌-◌, ◌==◌, ℕ, Option, Some, None, List, [], ◌∷◌, codes, option_map, slice_get, unwrap_or, if◌then◌else◌}
use Rattle.std.specs.List.{flat_map}
use Rattle.std.specs.Str.Lossy.{utf8_lossy}
use Rattle.plain.specs.declared.refusal.Code.TheVariants.{R01, R02, R03, R19, R20}
use Rattle.expand.specs.declared.reason.Reason.{Reason}
use Rattle.expand.specs.declared.reason.Reason.TheVariants.{Coded, Required}
use Rattle.expand.specs.declared.reason.Rejection.{Rejection}
use Rattle.lines.specs.Text.{text_lines}
use Rattle.sentences.specs.Json.{place_line}
use Rattle.sentences.specs.Message.{code_of}
use Rattle.sentences.specs.Showing.{headed, noted}
use Rattle.sentences.specs.Subject.{subject_of}
use Rattle.sentences.specs.Table.{remedy, sentence}
use Rattle.sentences.specs.declared.message.Message.{Message}
use Rattle.flaws.specs.Places.{place_text}
use Rattle.flaws.specs.declared.flaw.Flaw.{Flaw}
use Rattle.meant.specs.Own.{own_of}
use Rattle.meant.specs.Told.{message_by}
use Rattle.checks.specs.Layout.{shown_json, shown_plain}
use Rattle.checks.specs.Mark.{PlacedSpot, marked_by, spot_by}
use Rattle.checks.specs.Visible.{visible}
use Rattle.checks.specs.declared.form.Form.{Form}
use Rattle.checks.specs.declared.form.Form.TheVariants.{Plain, Json}
use Rattle.checks.specs.declared.mark.Marked.{Marked}

-- what a line is in that is refused for this reason: the ignore file, the whole input, or the Dockerfile, which is called so
abbrev pub place_of : List ℕ → Reason → List ℕ
place_of file (Coded R19) = codes ".dockerignore"
place_of file (Coded R20) = codes "bundle"
place_of file (Coded code) = file
place_of file (Required text) = file

-- the lines of a text that need not be UTF-8: what isn't is replaced by U+FFFD
abbrev pub readable_lines : List ℕ → List (List ℕ)
readable_lines text = text_lines (utf8_lossy text)

-- the line of this number, counted from 1; the empty line where there is none, as of a file without lines
abbrev pub line_at : List (List ℕ) → ℕ → List ℕ
line_at lines number = unwrap_or (slice_get lines (number - 1)) []

-- the lines that a refusal for this reason is about: those of the instruction that begins on the line of this number. One alone is it of an ignore file, of
-- what isn't UTF-8, and of a directive
abbrev pub own_by : Reason → List (List ℕ) → ℕ → List (List ℕ)
own_by (Coded R01) lines number = line_at lines number ∷ []
own_by (Coded R02) lines number = line_at lines number ∷ []
own_by (Coded R03) lines number = line_at lines number ∷ []
own_by (Coded R19) lines number = line_at lines number ∷ []
own_by (Coded code) lines number = own_of lines number
own_by (Required text) lines number = own_of lines number

-- the same; none if it is about no line, having number 0
abbrev pub own_in : Reason → List (List ℕ) → ℕ → List (List ℕ)
own_in reason lines number = if number == 0 then [] else own_by reason lines number

-- the word of what is found
abbrev pub word_in : Option PlacedSpot → Option (List ℕ)
word_in found = option_map (λ it. it.1.word) found

-- what is shown of a fault that is about these lines of a Dockerfile that is called so, with what is said of it and the word that is marked: a person gets
-- all texts as a terminal may have them, and a program as they stand
abbrev pub shown_told : List ℕ → Form → Rejection → List (List ℕ) → Message → Option Marked → List ℕ
shown_told file Plain fault own message marked = shown_plain (place_of file fault.reason) (code_of fault.reason) fault.line own message marked
shown_told file Json fault own message marked = shown_json (place_of file fault.reason) (code_of fault.reason) fault.line own message marked

-- what is said of a fault of a build of this target with these images, in a file of these lines, of which these are its own
abbrev pub message_in : Option (List ℕ) → List (List ℕ) → List (List ℕ) → List (List ℕ) → Rejection → Message
message_in target images lines own fault = message_by target images None lines own fault.reason fault.line (word_in (spot_by fault.reason lines own fault.line))

abbrev pub shown_own : List ℕ → Form → Option (List ℕ) → List (List ℕ) → List (List ℕ) → List (List ℕ) → Rejection → List ℕ
shown_own file form target images lines own fault =
    shown_told file form fault own (message_in target images lines own fault) (marked_by fault.reason (spot_by fault.reason lines own fault.line))

-- what is shown of a fault of a build of this target with these images, in a text with these lines
abbrev pub shown_fault : List ℕ → Form → Option (List ℕ) → List (List ℕ) → List (List ℕ) → Rejection → List ℕ
shown_fault file form target images lines fault = shown_own file form target images lines (own_in fault.reason lines fault.line) fault

-- what is shown of faults of a Dockerfile that is called so, one after another
abbrev pub shown_faults : List ℕ → Form → Option (List ℕ) → List (List ℕ) → List (List ℕ) → List Rejection → List ℕ
shown_faults file form target images lines faults = flat_map (shown_fault file form target images lines) faults

-- what is shown to a person of bytes that are no bundle, being wrong in this place
abbrev pub shown_place : List ℕ → List ℕ
shown_place place = headed (codes "bundle") (codes "R20") (sentence R20 (subject_of []) ++ (codes ": " ++ place)) ++ noted [] (remedy R20 (subject_of []))

-- the same in a form, where the place is written as `flaws` writes it
abbrev pub shown_flaw : Form → List ℕ → List ℕ
shown_flaw Plain place = shown_place (visible place)
shown_flaw Json place = place_line (codes "bundle") R20 place

-- what is shown of a bundle's faults: bytes that are no bundle are shown with where they are wrong
abbrev pub shown_check : List ℕ → Form → Option Flaw → Option (List ℕ) → List (List ℕ) → List (List ℕ) → List Rejection → List ℕ
shown_check file form None target images lines faults = shown_faults file form target images lines faults
shown_check file form (Some flaw) target images lines faults = shown_flaw form (place_text flaw)
