-- The texts that a build answers (own): one line of compact JSON, the keys of each object in the order of their bytes.
use Rattle.std.specs.Prelude.{ℕ, List, codes}
use Rattle.serde_json.specs.Data.{Data, number, unsigned, string, object, no_members, member}
use Rattle.serde_json.specs.Written.{compact_text}
use Rattle.plain.specs.Codes.{code_text}
use Rattle.plain.specs.declared.refusal.Code.{Code}
use Rattle.expand.specs.declared.reason.Reason.{Reason}
use Rattle.expand.specs.declared.reason.Reason.TheVariants.{Coded, Required}
use Rattle.expand.specs.declared.reason.Rejection.{Rejection}
use Rattle.trees.specs.Cause.{cause_text}
use Rattle.trees.specs.declared.entry.Entry.{Entry}
use Rattle.trees.specs.declared.cause.Cause.{Cause}
use Rattle.entries.specs.Written.{tree_data}

-- the answer of a build that gave a tree of these entries, with its configuration
unfoldable pub built_data : Data → List (List (List ℕ) × Entry) → Data
built_data config entries = object (member (codes "config") config
    (member (codes "result") (string (codes "built"))
    (member (codes "tree") (tree_data entries) no_members)))

-- the answer of a build in which the instruction on a line failed
unfoldable pub failed_data : ℕ → Cause → Data
failed_data line cause = object (member (codes "cause") (string (cause_text cause))
    (member (codes "line") (number (unsigned line))
    (member (codes "result") (string (codes "failed")) no_members)))

-- the answer for an input that is refused by a code alone: the code, and the line that it is about
unfoldable pub coded_data : Code → ℕ → Data
coded_data code line = object (member (codes "code") (string (code_text code))
    (member (codes "line") (number (unsigned line))
    (member (codes "result") (string (codes "refused")) no_members)))

-- the answer for an input with a line in which a variable is required that doesn't pass its test: R21, and the value of the word after the `?`
unfoldable pub required_data : List ℕ → ℕ → Data
required_data text line = object (member (codes "code") (string (codes "R21"))
    (member (codes "line") (number (unsigned line))
    (member (codes "result") (string (codes "refused"))
    (member (codes "text") (string text) no_members))))

-- the answer for an input that is refused for this reason at this line
abbrev pub refused_by : Reason → ℕ → Data
refused_by (Coded code) line = coded_data code line
refused_by (Required text) line = required_data text line

-- the answer for an input that is refused
abbrev pub refused_data : Rejection → Data
refused_data refusal = refused_by refusal.reason refusal.line

-- the text of the answer of a build that gave a tree of these entries, with its configuration
abbrev pub built_text : Data → List (List (List ℕ) × Entry) → List ℕ
built_text config entries = compact_text (built_data config entries)

-- the text of the answer of a build in which the instruction on a line failed
abbrev pub failed_text : ℕ → Cause → List ℕ
failed_text line cause = compact_text (failed_data line cause)

-- the text of the answer for an input that is refused
abbrev pub refused_text : Rejection → List ℕ
refused_text refusal = compact_text (refused_data refusal)
