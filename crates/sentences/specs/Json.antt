-- A refusal as a program reads it (own): a line of compact JSON, the keys in the order of their bytes.
use Rattle.std.specs.Prelude.{◌++◌, ℕ, List, [], Option, Some, None, codes}
use Rattle.serde_json.specs.Data.{Data, number as numeral, unsigned, string, object, no_members, member}
use Rattle.serde_json.specs.Written.{compact_text}
use Rattle.plain.specs.Codes.{code_text}
use Rattle.plain.specs.declared.refusal.Code.{Code}
use Rattle.sentences.specs.Showing.{Pointer}
use Rattle.sentences.specs.Subject.{subject_of}
use Rattle.sentences.specs.Table.{sentence, remedy}
use Rattle.sentences.specs.declared.message.Message.{Message}

-- a value as a line: its compact JSON, with the LF that ends it
abbrev pub written_line : Data → List ℕ
written_line value = compact_text value ++ codes "\n"

-- a refusal by its parts
unfoldable pub refusal_data : List ℕ → List ℕ → ℕ → Message → List ℕ → Data
refusal_data code file line message text = object (member (codes "code") (string code)
    (member (codes "file") (string file)
    (member (codes "line") (numeral (unsigned line))
    (member (codes "message") (string message.wrong)
    (member (codes "remedy") (string message.helps)
    (member (codes "text") (string text) no_members))))))

-- the same of a refusal that is about a word of its text, which has the number of the word's first byte in the text and the word
unfoldable pub pointed_data : Pointer → List ℕ → List ℕ → ℕ → Message → List ℕ → Data
pointed_data pointed code file line message text = object (member (codes "code") (string code)
    (member (codes "column") (numeral (unsigned pointed.0))
    (member (codes "file") (string file)
    (member (codes "line") (numeral (unsigned line))
    (member (codes "message") (string message.wrong)
    (member (codes "remedy") (string message.helps)
    (member (codes "text") (string text)
    (member (codes "word") (string pointed.1) no_members))))))))

-- a refusal by its parts, with the word that it is about, if there is one
abbrev pub data_with : Option Pointer → List ℕ → List ℕ → ℕ → Message → List ℕ → Data
data_with None code file line message text = refusal_data code file line message text
data_with (Some pointed) code file line message text = pointed_data pointed code file line message text

-- its line of JSON: the file, the code, the line's number, what is said, the text that it is about, and the word
abbrev pub json_line : List ℕ → List ℕ → ℕ → Message → List ℕ → Option Pointer → List ℕ
json_line file code number message text pointed = written_line (data_with pointed code file number message text)

-- a refusal that is about no line but about a place in the file, by its parts
unfoldable pub place_data : List ℕ → List ℕ → List ℕ → List ℕ → List ℕ → Data
place_data code file message place helps = object (member (codes "code") (string code)
    (member (codes "file") (string file)
    (member (codes "line") (numeral (unsigned 0))
    (member (codes "message") (string message)
    (member (codes "place") (string place)
    (member (codes "remedy") (string helps)
    (member (codes "text") (string []) no_members)))))))

-- its line of JSON: that of the file of this name, and one key more
abbrev pub place_line : List ℕ → Code → List ℕ → List ℕ
place_line file code place =
    written_line (place_data (code_text code) file (sentence code (subject_of [])) place (remedy code (subject_of [])))
