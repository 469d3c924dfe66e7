-- Maps from texts: their entries in the order of their keys' bytes, each key once (own, after the writers of Protocol Buffers that write equal
-- maps as equal bytes).
use Rattle.std.specs.Prelude.{◌≡◌, ℕ, List, ◌∷◌, [], ◌++◌, map, Result, Ok, Err}
use Rattle.std.specs.List.{AllByRecursion}
use Rattle.std.specs.List.Sorted.{IsStrictlySortedBy}
use Rattle.std.specs.Ordering.{nat_cmp}
use Rattle.std.specs.Cmp.Lexicographic.{slice_cmp}
use Rattle.std.specs.declared.cmp.Ordering.TheVariants.{Less}
use Rattle.plain.specs.declared.fault.Fault.{Fault}
use Rattle.plain.specs.declared.fault.Fault.TheVariants.{Because, Memory}
use Rattle.wire.specs.declared.map.Unordered.{Unordered}

-- the keys of some entries
abbrev pub keys_of : {A : Type 0} → List (List ℕ × A) → List (List ℕ)
keys_of = map (λ entry. entry.0)

-- each key is before those that follow it
abbrev pub Ascends : {A : Type 0} → List (List ℕ × A) → Type 0
Ascends entries = IsStrictlySortedBy (slice_cmp nat_cmp) (keys_of entries)

-- a key is after those of some entries
abbrev pub IsAfter : {A : Type 0} → List ℕ → List (List ℕ × A) → Type 0
IsAfter key entries = AllByRecursion (λ other. slice_cmp nat_cmp other key ≡ Less) (keys_of entries)

-- an entry is added at the end if its key is after the others; else the map stays
abbrev pub Pushes : {A : Type 0} → List (List ℕ × A) → List (List ℕ × A) → List ℕ → A → Result (Unit {0}) (Fault Unordered) → Type 0
Pushes old new key value (Ok done) = IsAfter key old × (new ≡ old ++ (key, value) ∷ [])
Pushes old new key value (Err (Because unordered)) = (¬ IsAfter key old) × (new ≡ old)
Pushes old new key value (Err Memory) = new ≡ old
