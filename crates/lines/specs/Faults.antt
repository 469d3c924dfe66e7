-- By which of its faults a text is refused (own): by the least, first by line and then by the number of its code.
use Rattle.std.specs.Prelude.{◌≡◌, ◌<◌, ◌≤◌, ◌⊎◌, ℕ, List, [], ◌∷◌, Option, Some, None}
use Rattle.plain.specs.Codes.{number_of}
use Rattle.plain.specs.declared.refusal.Code.{Code}
use Rattle.plain.specs.declared.refusal.Refusal.{Refusal}

-- a refusal of a line
abbrev pub refusal : Code → ℕ → Refusal
refusal c n = record { code = c; line = n }

-- f is one of these
abbrev pub IsAmong : Refusal → List Refusal → Type 0
IsAmong f [] = ⊥
IsAmong f (g ∷ gs) = (f ≡ g) ⊎ IsAmong f gs

-- f doesn't come after g: by line, then by number
abbrev pub IsNotBehind : Refusal → Refusal → Type 0
IsNotBehind f g = (f.line < g.line) ⊎ ((f.line ≡ g.line) × (number_of f.code ≤ number_of g.code))

-- f comes after none of these
abbrev pub IsBehindNone : Refusal → List Refusal → Type 0
IsBehindNone f [] = Unit {0}
IsBehindNone f (g ∷ gs) = IsNotBehind f g × IsBehindNone f gs

-- f is the least of these, by line, then by number (own)
abbrev pub IsLeast : List Refusal → Refusal → Type 0
IsLeast fs f = IsAmong f fs × IsBehindNone f fs

-- the least of these, where there are any (own)
abbrev pub IsLeastIfAny : List Refusal → Option Refusal → Type 0
IsLeastIfAny fs None = fs ≡ []
IsLeastIfAny fs (Some f) = IsLeast fs f
