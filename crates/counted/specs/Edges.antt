-- What reading all and writing all do, whatever their device does (own).
use Rattle.std.specs.Prelude.{◌≡◌, ◌≤◌, ℕ, ◌+◌, List, [], ◌∷◌, ◌++◌, length, take, drop, Option, Some, None, Result, Ok, Err, ⊤}
use Rattle.std.specs.Io.KnownBytes.{Appends, Consumes}
use Rattle.plain.specs.declared.fault.Fault.{Fault}
use Rattle.plain.specs.declared.fault.Fault.TheVariants.{Because, Memory}
use Rattle.counted.specs.declared.fault.Device.{Device}

-- a text is a beginning of another, the empty one and the whole one included
abbrev pub IsBeginning : List ℕ → List ℕ → Type 0
IsBeginning front all = (rest : List ℕ) × (all ≡ front ++ rest)

-- a text as a line: with the LF that ends it
abbrev pub line_of : List ℕ → List ℕ
line_of text = text ++ 10 ∷ []

-- known bytes grow by a beginning of a text
abbrev pub AppendsBeginning : Option (List ℕ) → Option (List ℕ) → List ℕ → Type 0
AppendsBeginning old new text = (front : List ℕ) × IsBeginning front text × Appends old new front

-- a writer that holds these bytes, of whose calls so many failed, is left so: nothing was written, and no call failed
abbrev pub IsUnwritten : Option (List ℕ) → ℕ → Option (List ℕ) → ℕ → Type 0
IsUnwritten old failed new failed_then = (new ≡ old) × (failed_then ≡ failed)

-- known bytes lose a beginning of theirs, of no more bytes than these many
abbrev pub LosesBeginning : ℕ → Option (List ℕ) → Option (List ℕ) → Type 0
LosesBeginning limit old new = (front : List ℕ) × (length front ≤ limit) × Consumes old new front

-- what was read are the first bytes, `limit` of them or all where there are fewer, and what follows is left;
-- nothing is said where the bytes that were left aren't known
abbrev pub ReadsFirst : ℕ → Option (List ℕ) → Option (List ℕ) → List ℕ → Type 0
ReadsFirst limit None new bytes = ⊤
ReadsFirst limit (Some all) new bytes = (bytes ≡ take limit all) × (new ≡ Some (drop limit all))

-- the device failed, and not the memory
abbrev pub IsDevice : Fault Device → Type 0
IsDevice (Because device) = ⊤
IsDevice Memory = ⊥

-- the call met a failed call of its device exactly where it says so, and just the one at which it ended
abbrev pub CountsFault : {T : Type 0} → ℕ → ℕ → Result T (Fault Device) → Type 0
CountsFault old new (Ok _) = new ≡ old
CountsFault old new (Err Memory) = new ≡ old
CountsFault old new (Err (Because device)) = new ≡ old + 1
