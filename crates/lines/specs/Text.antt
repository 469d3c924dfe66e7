-- What a whole text gives: its logical lines, or why it is refused (own).
use Rattle.std.specs.Prelude.{◌≡◌, ◌≤◌, ◌⊎◌, ◌+◌, ℕ, List, [], ◌∷◌, ◌==◌, if◌then◌else◌, Result, Ok, Err, length, take, drop, bytes_eq, count_by, IsUtf8}
use Rattle.std.specs.Str.Lines.{lines}
use Rattle.std.specs.Str.Lossy.{utf8_valid_len}
use Rattle.std.specs.declared.vec.Vec.{Vec}
use Rattle.plain.specs.Limits.{most_dockerfile_bytes}
use Rattle.plain.specs.declared.fault.Fault.{Fault}
use Rattle.plain.specs.declared.fault.Fault.TheVariants.{Because, Memory}
use Rattle.plain.specs.declared.refusal.Code.TheVariants.{R01, R18}
use Rattle.plain.specs.declared.refusal.Refusal.{Refusal}
use Rattle.lines.specs.Faults.{refusal, IsLeast}
use Rattle.lines.specs.File.{IsFile}
use Rattle.lines.specs.declared.line.Line.{Line}

-- a text without its leading byte order mark (as BuildKit's parser drops it)
abbrev pub without_byte_order_mark : List ℕ → List ℕ
without_byte_order_mark text = if bytes_eq (take 3 text) (239 ∷ 187 ∷ 191 ∷ []) then drop 3 text else text

-- a text's lines: they end by LF, a CR just before that LF is dropped, and an empty part after the last LF is none (own)
abbrev pub text_lines : List ℕ → List (List ℕ)
text_lines text = lines (without_byte_order_mark text)

-- a text of at most as many bytes as a Dockerfile may have (own)
abbrev pub IsShort : List ℕ → Type 0
IsShort text = length text ≤ most_dockerfile_bytes

-- the line of the first byte with which a text stops being UTF-8
abbrev pub first_bad_line : List ℕ → ℕ
first_bad_line text = count_by (λ b. b == 10) (take (utf8_valid_len text) text) + 1

-- these are the text's logical lines: it is short and UTF-8, and its lines have the structure of a file with these logical lines and
-- nothing wrong (own, over the Dockerfile reference's rules for lines)
abbrev pub AreLines : List ℕ → List Line → Type 0
AreLines text found = IsShort text × IsUtf8 text × IsFile (text_lines text) found []

-- the text is refused so: it is too long, which is a fault of line 0, else not UTF-8, at the line of the first bad byte, else its lines
-- have the structure of a file with something wrong, of which it is the least by line, then by number (own)
abbrev pub IsRefused : List ℕ → Refusal → Type 0
IsRefused text answer = ((¬ (IsShort text)) × (answer ≡ refusal R18 0))
    ⊎ ((IsShort text × (¬ (IsUtf8 text)) × (answer ≡ refusal R01 (first_bad_line text)))
    ⊎ (IsShort text × IsUtf8 text × ((found : List Line) × (faults : List Refusal) × IsFile (text_lines text) found faults × IsLeast faults answer)))

-- what reading a text answers: its logical lines, or why there are none; where memory is out, nothing is said of the text
abbrev pub ReadsText : {A : Type 0} → List ℕ → Result (Vec Line A) (Fault Refusal) → Type 0
ReadsText text (Ok found) = AreLines text found.items
ReadsText text (Err (Because answer)) = IsRefused text answer
ReadsText text (Err Memory) = Unit {0}
