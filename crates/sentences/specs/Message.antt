-- What is said of a refusal by the table (own).
use Rattle.std.specs.Prelude.{◌++◌, List, ℕ, codes}
use Rattle.plain.specs.Codes.{code_text}
use Rattle.expand.specs.declared.reason.Reason.{Reason}
use Rattle.expand.specs.declared.reason.Reason.TheVariants.{Coded, Required}
use Rattle.sentences.specs.Table.{sentence, remedy, required_sentence, required_remedy}
use Rattle.sentences.specs.declared.message.Message.{Message}
use Rattle.sentences.specs.declared.subject.Subject.{Subject}

-- the code of a refusal
abbrev pub code_of : Reason → List ℕ
code_of (Coded code) = code_text code
code_of (Required text) = codes "R21"

-- what is wrong with a line of this instruction; if a variable is required in it, it ends with the text that it is refused with
abbrev pub wrong_of : Reason → Subject → List ℕ
wrong_of (Coded code) subject = sentence code subject
wrong_of (Required text) subject = required_sentence ++ (codes ": " ++ text)

-- what helps against it
abbrev pub remedy_of : Reason → Subject → List ℕ
remedy_of (Coded code) subject = remedy code subject
remedy_of (Required text) subject = required_remedy

-- both
abbrev pub message_of : Reason → Subject → Message
message_of reason subject = record { wrong = wrong_of reason subject; helps = remedy_of reason subject }
