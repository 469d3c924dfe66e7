-- How a call ends that reads a bundle and writes something of it: what it leaves of its reader and its writer (own).
use Rattle.std.specs.Prelude.{◌≡◌, ◌⊎◌, ℕ, ◌+◌, List, Result, Ok, Err}
use Rattle.std.specs.Io.KnownBytes.{Appends}
use Rattle.counted.specs.Edges.{AppendsBeginning}
use Rattle.answering.specs.declared.status.Status.{Status}
use Rattle.program.specs.declared.fault.TellFault.{TellFault}
use Rattle.program.specs.declared.fault.TellFault.TheVariants.{Memory, Device, Clash, Unspeakable}
use Rattle.build.specs.Ends.{Answering, Devices, IsAllLeft, LeavesWriter}

-- what is due of a bundle was written, and no call failed
pub record HasTold (Tells : Answering) (old new : Devices) (status : Status) : Type 0 where
  pub bundle : List ℕ
  pub is : IsAllLeft old.left bundle
  pub text : List ℕ
  pub tells : Tells bundle status text
  pub written : Appends old.written new.written text
  pub failed_reads : new.failed_reads ≡ old.failed_reads
  pub failed_writes : new.failed_writes ≡ old.failed_writes

-- a write failed, and a beginning of what is due of a bundle was written
pub record HasBegunTelling (Tells : Answering) (old new : Devices) : Type 0 where
  pub bundle : List ℕ
  pub is : IsAllLeft old.left bundle
  pub status : Status
  pub text : List ℕ
  pub tells : Tells bundle status text
  pub written : AppendsBeginning old.written new.written text
  pub failed_reads : new.failed_reads ≡ old.failed_reads
  pub failed_writes : new.failed_writes ≡ old.failed_writes + 1

-- which bundles have nothing that is due, so that a call ends with a fault
abbrev pub Stops : Type 1
Stops = TellFault → List ℕ → Type 0

-- none has
abbrev pub never : Stops
never fault bundle = ⊥

-- nothing is due of a bundle, and nothing was written
pub record HasStopped (IsStopped : List ℕ → Type 0) (old new : Devices) : Type 0 where
  pub bundle : List ℕ
  pub is : IsAllLeft old.left bundle
  pub stops : IsStopped bundle
  pub unwritten : LeavesWriter old new
  pub failed_reads : new.failed_reads ≡ old.failed_reads

-- How such a call ends, by its result: what is due of the bundle was written; there was no memory, and nothing was written; a read failed, and
-- nothing was written, or a write failed; or nothing is due, since two operations clash or something can't be said to BuildKit, and nothing was
-- written. Unlike a build's answer, what is written gets no LF at its end.
abbrev pub TellingEnds : Answering → Stops → Devices → Devices → Result Status TellFault → Type 0
TellingEnds Tells IsStopped old new (Ok status) = HasTold Tells old new status
TellingEnds Tells IsStopped old new (Err Memory) = LeavesWriter old new × (new.failed_reads ≡ old.failed_reads)
TellingEnds Tells IsStopped old new (Err Device) = (LeavesWriter old new × (new.failed_reads ≡ old.failed_reads + 1)) ⊎ HasBegunTelling Tells old new
TellingEnds Tells IsStopped old new (Err Clash) = HasStopped (IsStopped Clash) old new
TellingEnds Tells IsStopped old new (Err Unspeakable) = HasStopped (IsStopped Unspeakable) old new
