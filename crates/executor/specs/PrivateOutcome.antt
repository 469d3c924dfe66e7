-- What a call inside the fixture answers (own). Want of memory says nothing of the commands.
use Rattle.std.specs.Prelude.{◌≡◌, ℕ, Result, Ok, Err, List, IsErr}
use Rattle.plain.specs.declared.fault.Fault.{Fault}
use Rattle.plain.specs.declared.fault.Fault.TheVariants.{Because, Memory}
use Rattle.trees.specs.TreeMap.{TreeMap}
use Rattle.trees.specs.Cause.{TreeOrCause}
use Rattle.executor.specs.Edits.{SightValue, SightOrStatus}

-- a call gives this value, or ends with this status
abbrev pub Gives : {X : Type 0} → Result X ℕ → Result X (Fault ℕ) → Type 0
Gives value (Ok given) = value ≡ Ok given
Gives value (Err (Because status)) = value ≡ Err status
Gives value (Err Memory) = Unit {0}

-- a call that makes a change ends with this, sight being what is seen after it
abbrev pub SeesNext : SightOrStatus → SightValue → Result (Unit {0}) (Fault ℕ) → Type 0
SeesNext after sight (Ok done) = after ≡ Ok sight
SeesNext after sight (Err (Because status)) = after ≡ Err status
SeesNext after sight (Err Memory) = Unit {0}

-- a call that changes a tree makes it this value, and ends with status 1 where there is none
abbrev pub SeesTree : TreeOrCause → TreeMap → Result (Unit {0}) (Fault ℕ) → Type 0
SeesTree value tree (Ok done) = value ≡ Ok tree
SeesTree value tree (Err (Because status)) = (status ≡ 1) × IsErr value
SeesTree value tree (Err Memory) = Unit {0}

-- A call that runs commands ends with this, and leaves this in the caches: sight and caches are what is seen and what caches hold after it.
abbrev pub RunsTo : SightOrStatus → List TreeMap → SightValue → List TreeMap → Result (Unit {0}) (Fault ℕ) → Type 0
RunsTo after held sight caches (Ok done) = (after ≡ Ok sight) × (caches ≡ held)
RunsTo after held sight caches (Err (Because status)) = (after ≡ Err status) × (caches ≡ held)
RunsTo after held sight caches (Err Memory) = Unit {0}
