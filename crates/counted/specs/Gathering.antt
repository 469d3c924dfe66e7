-- What it is to write a text in pieces, which are gathered before they are written (own). After a failed write nothing more is written.
use Rattle.std.specs.Prelude.{◌≡◌, ℕ, ◌+◌, ◌-◌, ◌^◌, ◌<◌, Bool, true, false, List, [], ◌++◌, Option, Result, Ok, Err}
use Rattle.std.specs.Io.KnownBytes.{Appends}
use Rattle.plain.specs.declared.fault.Fault.{Fault}
use Rattle.plain.specs.declared.fault.Fault.TheVariants.{Because, Memory}
use Rattle.counted.specs.declared.fault.Device.{Device}
use Rattle.counted.specs.Edges.{AppendsBeginning}

-- the bytes that aren't written yet, and whether a write failed
pub record Gathering : Type 0 where
  pub bytes : List ℕ
  pub failed : Bool

-- the two, in this order
abbrev pub held : List ℕ → Bool → Gathering
held bytes failed = record { bytes = bytes; failed = failed }

-- nothing is gathered, and no write failed
abbrev pub nothing : Gathering
nothing = held [] false

-- a writer and what is gathered for it: the bytes that it holds, where they are known, and how many of its calls failed
pub record Sink : Type 0 where
  pub contents : Option (List ℕ)
  pub failures : ℕ
  pub gathered : Gathering

-- the two, by what a writer tells
abbrev pub sink : Option (List ℕ) → ℕ → Gathering → Sink
sink contents failures gathered = record { contents = contents; failures = failures; gathered = gathered }

-- a front of what was gathered and then the text is written, and the rest is gathered; no call failed
pub record IsGathered (old new : Sink) (text : List ℕ) : Type 0 where
  pub front : List ℕ
  pub whole : old.gathered.bytes ++ text ≡ front ++ new.gathered.bytes
  pub grown : Appends old.contents new.contents front
  pub count : new.failures ≡ old.failures

-- a call failed, and a beginning of what was gathered and then the text was written
pub record IsBroken (old new : Sink) (text : List ℕ) : Type 0 where
  pub begun : AppendsBeginning old.contents new.contents (old.gathered.bytes ++ text)
  pub count : new.failures ≡ old.failures + 1

-- a call had failed, and none was made
pub record IsStill (old new : Sink) : Type 0 where
  pub failed : new.gathered.failed ≡ true
  pub contents : new.contents ≡ old.contents
  pub count : new.failures ≡ old.failures

-- a text is said: no call has failed by now, or one has since, or one had before
pub record Says (old new : Sink) (text : List ℕ) : Type 0 where
  pub whole : old.gathered.failed ≡ false → new.gathered.failed ≡ false → IsGathered old new text
  pub broken : old.gathered.failed ≡ false → new.gathered.failed ≡ true → IsBroken old new text
  pub still : old.gathered.failed ≡ true → IsStill old new

-- unless a call failed, there is room for one more in the count of those that did
abbrev pub HasRoom : ℕ → Gathering → Type 0
HasRoom failures gathered = gathered.failed ≡ false → failures < 2 ^ 64 - 1

-- how a text ends that was said to a writer: it was written and no call failed, or one failed and a beginning of the text was written
abbrev pub IsWritten : Option (List ℕ) → ℕ → Option (List ℕ) → ℕ → List ℕ → Result (Unit {0}) (Fault Device) → Type 0
IsWritten old before new after text (Ok _) = Appends old new text × (after ≡ before)
IsWritten old before new after text (Err (Because device)) = AppendsBeginning old new text × (after ≡ before + 1)
IsWritten old before new after text (Err Memory) = ⊥
