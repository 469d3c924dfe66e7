-- What is said of an instruction that failed: a sentence and a remedy for each cause (own).
use Rattle.std.specs.Prelude.{◌++◌, ◌==◌, ℕ, Bool, true, false, List, codes, if◌then◌else◌}
use Rattle.std.specs.Fmt.{decimal}
use Rattle.trees.specs.declared.cause.Cause.{Cause}
use Rattle.trees.specs.declared.cause.Cause.TheVariants.{F1, F2, F3, F4, F5, Exit}
use Rattle.sentences.specs.declared.message.Message.{Message}

-- why an instruction failed
abbrev pub cause_sentence : Cause → List ℕ
cause_sentence F1 = codes "a source isn't there"
cause_sentence F2 = codes "a file stands where a directory is needed"
cause_sentence F3 = codes "two entries are placed onto one path, and they aren't both directories"
cause_sentence F4 = codes "a directory stands where a file is needed"
cause_sentence F5 = codes "a path would have more than 64 components"
cause_sentence (Exit status) = codes "the command ended with status " ++ decimal status

-- what helps against a status of a command: by 127 what runs it doesn't know it, as a shell says
abbrev pub status_remedy : ℕ → List ℕ
status_remedy status = if status == 127
    then codes "dfsolve runs seven commands of its own in place of real ones; make real builds by dfsolve llb (see docs/BUILDKIT.md)"
    else codes "see the command"

-- what helps against F2, where an instruction that binds folders has it or another one
abbrev pub file_remedy : Bool → List ℕ
file_remedy true = codes "a bind takes a folder here: bind the folder that has the file, or COPY the file"
file_remedy false = codes "remove the file, or choose another path"

-- what helps against a cause, where an instruction that binds folders has it or another one
abbrev pub cause_remedy : Cause → Bool → List ℕ
cause_remedy F1 binds = codes "name a file that the context, the stage or the image has"
cause_remedy F2 binds = file_remedy binds
cause_remedy F3 binds = codes "end the destination in /"
cause_remedy F4 binds = codes "choose another name"
cause_remedy F5 binds = codes "copy it nearer to the root"
cause_remedy (Exit status) binds = status_remedy status

-- both
abbrev pub cause_message : Cause → Bool → Message
cause_message cause binds = record { wrong = cause_sentence cause; helps = cause_remedy cause binds }

-- why a COPY failed that misses this source
abbrev pub missing_sentence : List ℕ → List ℕ
missing_sentence source = cause_sentence F1 ++ (codes ": " ++ source)

-- what is said of it
abbrev pub missing_message : List ℕ → Message
missing_message source = record { wrong = missing_sentence source; helps = cause_remedy F1 false }

-- what helps against a line of the ignore file that leaves a source out, by its number and its text
abbrev pub left_out_remedy : ℕ → List ℕ → List ℕ
left_out_remedy number text = codes ".dockerignore:" ++ (decimal number ++ (codes " leaves it out: " ++ text))

-- the same of a source that the ignore file leaves out
abbrev pub left_out_message : List ℕ → ℕ → List ℕ → Message
left_out_message source number text = record { wrong = missing_sentence source; helps = left_out_remedy number text }
