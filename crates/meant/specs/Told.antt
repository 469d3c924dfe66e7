-- What is said of a refusal, by the lines of its file (own).
use Rattle.std.specs.Prelude.{ℕ, List, [], ◌∷◌, Option, Some, None, option_map, unwrap_or}
use Rattle.plain.specs.declared.refusal.Code.{Code}
use Rattle.plain.specs.declared.refusal.Code.TheVariants.{R04, R06, R07, R08, R09, R10, R12, R13, R15, R17}
use Rattle.expand.specs.declared.reason.Reason.{Reason}
use Rattle.expand.specs.declared.reason.Reason.TheVariants.{Coded, Required}
use Rattle.sentences.specs.Message.{message_of}
use Rattle.sentences.specs.Subject.{subject_of}
use Rattle.sentences.specs.WordCause.{word_message as faulty_message}
use Rattle.sentences.specs.declared.message.Message.{Message}
use Rattle.sentences.specs.declared.subject.Subject.{Subject}
use Rattle.sentences.specs.declared.subject.Subject.TheVariants.{Copy, Run}
use Rattle.meant.specs.FirstWord.{word_message}
use Rattle.meant.specs.Flags.{copy_flag, run_flag}
use Rattle.meant.specs.MountTexts.{mount_message}
use Rattle.meant.specs.Named.{source_message, target_message}
use Rattle.meant.specs.Own.{escape_in, joined}
use Rattle.meant.specs.WordFaults.{line_fault}
use Rattle.meant.specs.declared.word_faults.FaultyWord.{FaultyWord}

-- the first of some lines; the empty one if there is none
abbrev pub first_line : List (List ℕ) → List ℕ
first_line [] = []
first_line (line ∷ lines) = line

-- what is said of the flag that an instruction doesn't take, if it is known
abbrev pub flag_told : Subject → Option (List ℕ) → Option Message
flag_told Copy (Some flag) = Some (copy_flag flag)
flag_told Run (Some flag) = Some (run_flag flag)
flag_told subject flag = None

-- what is said of the mounts of a RUN of these lines
abbrev pub mounts_told : List (List ℕ) → List (List ℕ) → Message
mounts_told lines own = mount_message (joined (escape_in lines) own)

-- what is said of a word with something wrong
abbrev pub word_told : Option FaultyWord → Option Message
word_told found = option_map (λ it. faulty_message it.cause it.word) found

-- what is said of a refusal by this code beyond what the table says, if there is more to say
abbrev pub told : Option (List ℕ) → List (List ℕ) → Option (List ℕ) → List (List ℕ) → List (List ℕ) → Code → ℕ → Option (List ℕ) → Option Message
told target images base lines own R04 number word = word_message (subject_of (first_line own)) (first_line own)
told target images base lines own R07 number word = flag_told (subject_of (first_line own)) word
told target images base lines own R12 number word = source_message images base lines number (first_line own)
told target images base lines own R13 number word = target_message target lines
told target images base lines own R17 number word = Some (mounts_told lines own)
told target images base lines own R06 number word = word_told (line_fault lines own R06 number)
told target images base lines own R08 number word = word_told (line_fault lines own R08 number)
told target images base lines own R09 number word = word_told (line_fault lines own R09 number)
told target images base lines own R10 number word = word_told (line_fault lines own R10 number)
told target images base lines own R15 number word = word_told (line_fault lines own R15 number)
told target images base lines own code number word = None

-- the same for a reason
abbrev pub told_by : Option (List ℕ) → List (List ℕ) → Option (List ℕ) → List (List ℕ) → List (List ℕ) → Reason → ℕ → Option (List ℕ) → Option Message
told_by target images base lines own (Coded code) number word = told target images base lines own code number word
told_by target images base lines own (Required text) number word = None

-- what is said of a refusal for this reason in a build of this target with these images, in a file of these lines: of the instruction of the lines `own`, of
-- which the first has this number, and about this word of it, if that is known; if it asks for an image that there isn't, and its name is known as its
-- variables have it, that is `base`. What isn't told otherwise is said by the table
abbrev pub message_by : Option (List ℕ) → List (List ℕ) → Option (List ℕ) → List (List ℕ) → List (List ℕ) → Reason → ℕ → Option (List ℕ) → Message
message_by target images base lines own reason number word =
    unwrap_or (told_by target images base lines own reason number word) (message_of reason (subject_of (first_line own)))
