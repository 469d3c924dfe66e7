-- What a person reads of an instruction that failed, with its lines (own).
use Rattle.std.specs.Prelude.{ℕ, List, None}
use Rattle.std.specs.Str.Lossy.{utf8_lossy}
use Rattle.trees.specs.Cause.{cause_text}
use Rattle.trees.specs.declared.cause.Cause.{Cause}
use Rattle.trees.specs.declared.cause.Cause.TheVariants.{F1}
use Rattle.meant.specs.Mounts.{has_bind}
use Rattle.meant.specs.Own.{own_of}
use Rattle.sentences.specs.Failing.{cause_message, left_out_message, missing_message}
use Rattle.sentences.specs.declared.message.Message.{Message}
use Rattle.checks.specs.Layout.{shown_plain}

-- what is shown of an instruction of these lines of a Dockerfile that is called so, which failed with this cause, with what is said of it
abbrev pub shown_cause : List ℕ → ℕ → Cause → List (List ℕ) → Message → List ℕ
shown_cause file number cause own message = shown_plain file (cause_text cause) number own message None

-- what is shown of an instruction of a Dockerfile with these lines that failed with this cause, by the number of its first line
abbrev pub shown_failure : List ℕ → List (List ℕ) → ℕ → Cause → List ℕ
shown_failure file lines number cause = shown_cause file number cause (own_of lines number) (cause_message cause (has_bind (own_of lines number)))

-- the same of a COPY that misses this source
abbrev pub shown_missing : List ℕ → List (List ℕ) → ℕ → List ℕ → List ℕ
shown_missing file lines number source = shown_cause file number F1 (own_of lines number) (missing_message source)

-- the same if a line of the ignore file leaves the source out, by its number and its bytes, which need not be UTF-8
abbrev pub shown_left_out : List ℕ → List (List ℕ) → ℕ → List ℕ → ℕ → List ℕ → List ℕ
shown_left_out file lines number source ignoring ignored =
    shown_cause file number F1 (own_of lines number) (left_out_message source ignoring (utf8_lossy ignored))
