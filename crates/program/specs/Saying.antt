-- What is said on a stream: a text, or a beginning of it where the stream's device failed (own).
use Rattle.std.specs.Prelude.{◌≡◌, ◌⊎◌, ℕ, ◌+◌, List, Option}
use Rattle.std.specs.Io.KnownBytes.{Appends}
use Rattle.counted.specs.Edges.{AppendsBeginning}

-- a writer: the bytes that were written, where they are known, and how many of its calls failed
pub record Stream : Type 0 where
  pub written : Option (List ℕ)
  pub failed : ℕ

-- a writer on which so much was written and so many calls failed (own)
abbrev pub stream : Option (List ℕ) → ℕ → Stream
stream written failed = record { written = written; failed = failed }

-- all of a text was written, and no call failed
pub record SaysAll (text : List ℕ) (old new : Stream) : Type 0 where
  pub written : Appends old.written new.written text
  pub failed : new.failed ≡ old.failed

-- a call failed, and a beginning of a text was written
pub record SaysBeginning (text : List ℕ) (old new : Stream) : Type 0 where
  pub written : AppendsBeginning old.written new.written text
  pub failed : new.failed ≡ old.failed + 1

-- a text was written, or as much of it as the device took before it failed
abbrev pub Says : List ℕ → Stream → Stream → Type 0
Says text old new = SaysAll text old new ⊎ SaysBeginning text old new
