-- How a build ends: what it leaves of its reader and its writer, for each of its results (own).
use Rattle.std.specs.Prelude.{◌≡◌, ◌⊎◌, ℕ, ◌+◌, List, Option, Some, None, Result, Ok, Err, ⊤}
use Rattle.std.specs.Io.KnownBytes.{Appends}
use Rattle.counted.specs.Edges.{AppendsBeginning, IsUnwritten, line_of}
use Rattle.plans.specs.Value.{Out}
use Rattle.answering.specs.declared.status.Status.{Status}
use Rattle.answering.specs.declared.status.BuildFault.{BuildFault}
use Rattle.answering.specs.declared.status.BuildFault.TheVariants.{Memory, Device, Clash}
use Rattle.build.specs.Meaning.{Answers}
use Rattle.build.specs.Graph.{GraphAnswers, GraphClashes}

-- A reader and a writer: the bytes that are left to be read and those that were written, where they are known, and how many calls
-- of each failed. Those in memory (std's `Cursor` and `Vec<u8>`) tell their bytes. Of standard input and output std says only how many
-- bytes a call read or wrote at most, so there the counts are all that is said; the body is the same one.
pub record Devices : Type 0 where
  pub left : Option (List ℕ)
  pub written : Option (List ℕ)
  pub failed_reads : ℕ
  pub failed_writes : ℕ

-- the two, by what a reader tells and what a writer tells
abbrev pub devices : Option (List ℕ) → ℕ → Option (List ℕ) → ℕ → Devices
devices left failed_reads written failed_writes =
    record { left = left; written = written; failed_reads = failed_reads; failed_writes = failed_writes }

-- the bundle is all that there was to read; where that isn't known, some bytes
abbrev pub IsAllLeft : Option (List ℕ) → List ℕ → Type 0
IsAllLeft None bundle = ⊤
IsAllLeft (Some all) bundle = bundle ≡ all

-- nothing was written, and no write failed
abbrev pub LeavesWriter : Devices → Devices → Type 0
LeavesWriter old new = IsUnwritten old.written old.failed_writes new.written new.failed_writes

-- what a call may answer: which statuses and texts are answers to a bundle of these bytes
abbrev pub Answering : Type 1
Answering = List ℕ → Status → List ℕ → Type 0

-- an answer to the bundle was written, with the LF that ends it, and no call failed
pub record HasAnswered (Said : Answering) (old new : Devices) (status : Status) : Type 0 where
  pub bundle : List ℕ
  pub is : IsAllLeft old.left bundle
  pub text : List ℕ
  pub answers : Said bundle status text
  pub written : Appends old.written new.written (line_of text)
  pub failed_reads : new.failed_reads ≡ old.failed_reads
  pub failed_writes : new.failed_writes ≡ old.failed_writes

-- a write failed, and a beginning of an answer to the bundle, with its LF, was written
pub record HasBegun (Said : Answering) (old new : Devices) : Type 0 where
  pub bundle : List ℕ
  pub is : IsAllLeft old.left bundle
  pub status : Status
  pub text : List ℕ
  pub answers : Said bundle status text
  pub written : AppendsBeginning old.written new.written (line_of text)
  pub failed_reads : new.failed_reads ≡ old.failed_reads
  pub failed_writes : new.failed_writes ≡ old.failed_writes + 1

-- no answer was written, since two different operations of what would have been drawn have one address
pub record HasClashed (Collides : List ℕ → Type 0) (old new : Devices) : Type 0 where
  pub bundle : List ℕ
  pub is : IsAllLeft old.left bundle
  pub clash : Collides bundle
  pub unwritten : LeavesWriter old new
  pub failed_reads : new.failed_reads ≡ old.failed_reads

-- How a call that reads a bundle and writes one answer ends, by its result: an answer was written; there was no memory, and nothing was
-- written; a read failed, and nothing was written, or a write failed; or two operations clash, and nothing was written. No such call writes for
-- BuildKit, so to none of them anything is unspeakable.
abbrev pub EndsBy : Answering → (List ℕ → Type 0) → Devices → Devices → Result Status BuildFault → Type 0
EndsBy Said Collides old new (Ok status) = HasAnswered Said old new status
EndsBy Said Collides old new (Err Memory) = LeavesWriter old new × (new.failed_reads ≡ old.failed_reads)
EndsBy Said Collides old new (Err Device) = (LeavesWriter old new × (new.failed_reads ≡ old.failed_reads + 1)) ⊎ HasBegun Said old new
EndsBy Said Collides old new (Err Clash) = HasClashed Collides old new

-- the answers to a bundle under an executor
abbrev pub AnswersUnder : Out → Answering
AnswersUnder out bundle status text = Answers bundle out status text

-- how a build ends: it never clashes
abbrev pub Ends : Out → Devices → Devices → Result Status BuildFault → Type 0
Ends out old new result = EndsBy (AnswersUnder out) (λ bundle. ⊥) old new result

-- how drawing the graph of what a bundle asks for ends
abbrev pub GraphEnds : Devices → Devices → Result Status BuildFault → Type 0
GraphEnds old new result = EndsBy GraphAnswers GraphClashes old new result
