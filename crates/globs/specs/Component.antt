-- The parts of a component's pattern, and what each holds of (Go's filepath.Match). Characters are Unicode scalar values, and case counts.
use Rattle.std.specs.Prelude.{◌≡◌, ◌↔◌, ℕ, Bool, true, false, ◌&&◌, List, [], ◌∷◌, ◌++◌, map, not, nat_le, nat_eq, if◌then◌else◌}
use Rattle.std.specs.List.{list_any}
use Rattle.std.specs.Str.{chars, IsUtf8, is_utf8}
use Rattle.globs.specs.declared.part.Range.{Range}
use Rattle.globs.specs.declared.part.Part.{Part}
use Rattle.globs.specs.declared.part.Part.TheVariants.{AnyRun, AnyOne, Exactly, Class}
use Rattle.globs.specs.Cut.{CanBeCut, can_be_cut}

-- a part that takes any run of characters: `*`
abbrev pub takes_any : Part → Bool
takes_any AnyRun = true
takes_any AnyOne = false
takes_any (Exactly own) = false
takes_any (Class negated ranges) = false

-- a character lies in one of a class's ranges; a range whose ends are reversed holds none
abbrev pub is_in : List Range → ℕ → Bool
is_in ranges c = list_any (λ range. nat_le range.low c && nat_le c range.high) ranges

-- a part that takes one character holds of this one
abbrev pub holds : Part → ℕ → Bool
holds AnyRun c = false
holds AnyOne c = true
holds (Exactly own) c = nat_eq own c
holds (Class negated ranges) c = if negated then not (is_in ranges c) else is_in ranges c

-- a component's pattern relates to a name: the name is text, and its characters can be cut so that each part relates to its piece
abbrev pub RelatesToName : List Part → List ℕ → Type 0
RelatesToName parts name = IsUtf8 name × CanBeCut takes_any (λ part c. holds part c ≡ true) parts (chars name)

-- the test of it
abbrev pub relates_to_name : List Part → List ℕ → Bool
relates_to_name parts name = is_utf8 name && can_be_cut takes_any holds parts (chars name)

-- the parts of a pattern that is a plain name: each of its characters
abbrev pub plain_parts : List ℕ → List Part
plain_parts name = map (λ c. Exactly c) (chars name)

-- a pattern stands for a name: it relates to it, and to no other one
abbrev pub RelatesOnlyTo : List Part → List ℕ → Type 0
RelatesOnlyTo parts name = (other : List ℕ) → (relates_to_name parts other ≡ true) ↔ (other ≡ name)

-- a name is the only one that a pattern relates to
abbrev pub IsOnlyName : List Part → List ℕ → Type 0
IsOnlyName parts name = (other : List ℕ) → RelatesToName parts other → other ≡ name

-- each name that a pattern relates to begins with these bytes
abbrev pub HasFront : List Part → List ℕ → Type 0
HasFront parts front = (name : List ℕ) → RelatesToName parts name → (rest : List ℕ) × (name ≡ front ++ rest)

-- each name that a pattern relates to begins with a byte
abbrev pub BeginsWith : List Part → ℕ → Type 0
BeginsWith parts byte = HasFront parts (byte ∷ [])

-- each name that a pattern relates to ends with these bytes
abbrev pub HasEnd : List Part → List ℕ → Type 0
HasEnd parts end = (name : List ℕ) → RelatesToName parts name → (front : List ℕ) × (name ≡ front ++ end)

-- each name that a pattern relates to ends with a byte
abbrev pub EndsWith : List Part → ℕ → Type 0
EndsWith parts byte = HasEnd parts (byte ∷ [])
