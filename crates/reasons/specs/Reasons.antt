-- What is told of paths of a context: whether each is kept, and which line of the ignore file decided (own, after `git check-ignore -v`).
use Rattle.std.specs.Prelude.{◌≡◌, ◌-◌, ◌++◌, ℕ, Bool, true, false, Option, Some, None, Result, Ok, Err, List, [], ◌∷◌, codes, slice_get}
use Rattle.std.specs.Fmt.{decimal}
use Rattle.std.specs.Str.Lines.{lines}
use Rattle.serde_json.specs.Data.{Data}
use Rattle.plain.specs.declared.fault.Fault.{Fault}
use Rattle.plain.specs.declared.fault.Fault.TheVariants.{Because, Memory}
use Rattle.plain.specs.declared.refusal.Refusal.{Refusal}
use Rattle.counted.specs.Edges.{line_of}
use Rattle.paths.specs.Reading.{read_from, limit_of}
use Rattle.paths.specs.declared.fault.PathLimit.{PathLimit}
use Rattle.ignorefile.specs.declared.line.Line.{Line}
use Rattle.ignorefile.specs.File.{numbers_of, without_byte_order_mark}
use Rattle.ignorefile.specs.Kept.{IsDeciding}
use Rattle.bundle.specs.IgnoreFile.{HasIgnoreFile}
use Rattle.bundle.specs.Reading.{ReadsBundle}
use Rattle.bundle.specs.declared.whole.IgnoreFile.{IgnoreFile}

-- what is told first of a path that a line decides: an exception keeps it
abbrev pub verdict : Bool → List ℕ
verdict true = codes "kept"
verdict false = codes "left out"

-- what is told of a path that no line decides
abbrev pub undecided : List ℕ → List ℕ
undecided word = codes "kept\t" ++ word

-- what is told of a text that is no path, as it breaks a limit of paths
abbrev pub no_path : List ℕ → List ℕ
no_path word = codes "bad path\t" ++ word

-- what is told first, the path, and the number of a line, counted from 1
abbrev pub numbered : List ℕ → List ℕ → ℕ → List ℕ
numbered verdict word number = verdict ++ (codes "\t" ++ (word ++ (codes "\t.dockerignore:" ++ (decimal number ++ codes ":"))))

-- what is told of a path that a line decides, which is an exception or not, and has this number and this text
abbrev pub decided : Bool → List ℕ → ℕ → List ℕ → List ℕ
decided exception word number text = numbered (verdict exception) word number ++ text

-- The line of an ignore file at this position among those that have a pattern, with its number in the file and its own text, which is without
-- what ends it.
pub record StandsAt (file : IgnoreFile) (position : ℕ) (line : Line) (number : ℕ) (text : List ℕ) : Type 0 where
  pub has : slice_get file.lines position ≡ Some line
  pub numbered : slice_get (numbers_of file.bytes) position ≡ Some number
  pub reads : slice_get (lines (without_byte_order_mark file.bytes)) (number - 1) ≡ Some text

-- what is told of a path by the line that decides, if one does
abbrev pub TellsLine : IgnoreFile → List ℕ → Option ℕ → List ℕ → Type 0
TellsLine file word None told = told ≡ undecided word
TellsLine file word (Some position) told =
    (line : Line) × (number : ℕ) × (text : List ℕ) × StandsAt file position line number text × (told ≡ decided line.exception word number text)

-- what is told of a word that leads to these names: of one within the limits of paths by the line that decides of that path
abbrev pub TellsPath : IgnoreFile → List ℕ → Option PathLimit → List ℕ → Type 0
TellsPath file word (Some limit) told = told ≡ no_path word
TellsPath file word None told = (deciding : Option ℕ) × IsDeciding file.lines (read_from word []) deciding × TellsLine file word deciding told

-- what is told of a word, which is read as a path from the root of the context, as the sources of a COPY are
abbrev pub IsReason : IgnoreFile → List ℕ → List ℕ → Type 0
IsReason file word told = TellsPath file word (limit_of (read_from word [])) told

-- what is told of some words: a line for each, in their order
abbrev pub AreReasons : IgnoreFile → List (List ℕ) → List ℕ → Type 0
AreReasons file [] told = told ≡ []
AreReasons file (word ∷ words) told =
    (reason : List ℕ) × (rest : List ℕ) × IsReason file word reason × AreReasons file words rest × (told ≡ line_of reason ++ rest)

-- What a bundle's bytes tell of some words, or the refusal that reading the bundle gives; want of memory tells nothing.
abbrev pub TellsReasons : {C : Type 0} → (Data → Option C) → List ℕ → List (List ℕ) → Result (List ℕ) (Fault Refusal) → Type 0
TellsReasons {C} config bytes words (Ok told) = (file : IgnoreFile) × HasIgnoreFile config bytes file × AreReasons file words told
TellsReasons {C} config bytes words (Err (Because refusal)) = ReadsBundle config bytes (Err (Because refusal))
TellsReasons {C} config bytes words (Err Memory) = Unit {0}
