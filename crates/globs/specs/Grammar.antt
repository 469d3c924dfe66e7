-- How a component's pattern is spelled, said on whole lists of characters (Go's filepath.Match, with a `^` as the one sign that negates).
-- A list of characters that spells no parts is malformed: a class that has no item, whose item isn't of this form or that isn't closed,
-- and a `\` at the end.
use Rattle.std.specs.Prelude.{◌≡◌, ℕ, Bool, true, false, List, [], ◌∷◌, ◌++◌, ◌⊎◌, not, nat_eq, codes}
use Rattle.std.specs.List.{list_any, list_all}
use Rattle.globs.specs.declared.part.Range.{Range}
use Rattle.globs.specs.declared.part.Part.{Part}
use Rattle.globs.specs.declared.part.Part.TheVariants.{AnyRun, AnyOne, Exactly, Class}

-- a character is none of these
abbrev pub is_none_of : List ℕ → ℕ → Bool
is_none_of signs c = not (list_any (λ sign. nat_eq c sign) signs)

-- characters that all stand for themselves outside of classes: there is none of `*`, `?`, `[` and `\`
abbrev pub is_spelled_out : List ℕ → Bool
is_spelled_out cs = list_all (λ c. is_none_of (codes "*?[\\") c) cs

-- a character as it stands, if it is none of the signs, or behind a `\`
abbrev pub SpellsCharacter : List ℕ → List ℕ → ℕ → Type 0
SpellsCharacter signs cs c = ((cs ≡ c ∷ []) × (is_none_of signs c ≡ true)) ⊎ (cs ≡ 92 ∷ c ∷ [])

-- an end of a range in a class: none of `\`, `-` and `]` stands there as itself
abbrev pub SpellsEnd : List ℕ → ℕ → Type 0
SpellsEnd cs c = SpellsCharacter (codes "\\-]") cs c

-- an item of a class: a character alone, or two with a `-` between them
abbrev pub SpellsRange : List ℕ → Range → Type 0
SpellsRange cs range =
    (SpellsEnd cs range.low × (range.high ≡ range.low))
    ⊎ ((low : List ℕ) × ((high : List ℕ) × ((cs ≡ low ++ 45 ∷ high) × (SpellsEnd low range.low × SpellsEnd high range.high))))

-- the items of a class, one behind another
abbrev pub SpellRanges : List ℕ → List Range → Type 0
SpellRanges cs [] = cs ≡ []
SpellRanges cs (range ∷ ranges) = (front : List ℕ) × ((rest : List ℕ) × ((cs ≡ front ++ rest) × (SpellsRange front range × SpellRanges rest ranges)))

-- what stands between the brackets of a class: a `^` and items, or items that begin with none; there is an item
abbrev pub SpellsInside : List ℕ → Bool → List Range → Type 0
SpellsInside cs negated [] = ⊥
SpellsInside cs true (range ∷ ranges) = (items : List ℕ) × ((cs ≡ 94 ∷ items) × SpellRanges items (range ∷ ranges))
SpellsInside cs false (range ∷ ranges) = ((items : List ℕ) → cs ≡ 94 ∷ items → ⊥) × SpellRanges cs (range ∷ ranges)

-- one part: `*`, `?`, a class in brackets, or a character, of which `*`, `?`, `[` and `\` don't stand as themselves
abbrev pub SpellsPart : List ℕ → Part → Type 0
SpellsPart cs AnyRun = cs ≡ 42 ∷ []
SpellsPart cs AnyOne = cs ≡ 63 ∷ []
SpellsPart cs (Exactly c) = SpellsCharacter (codes "*?[\\") cs c
SpellsPart cs (Class negated ranges) = (inside : List ℕ) × ((cs ≡ 91 ∷ (inside ++ 93 ∷ [])) × SpellsInside inside negated ranges)

-- the parts of a component's pattern, one behind another
abbrev pub Spell : List ℕ → List Part → Type 0
Spell cs [] = cs ≡ []
Spell cs (part ∷ parts) = (front : List ℕ) × ((rest : List ℕ) × ((cs ≡ front ++ rest) × (SpellsPart front part × Spell rest parts)))
