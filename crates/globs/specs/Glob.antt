-- What the text of a pattern is, and which paths it relates to (Dockerfile reference, COPY; Go's filepath.Match; own where a pattern
-- is cleaned before its classes and escapes are read, so that no class holds a `/` and no `\` escapes one).
use Rattle.std.specs.Prelude.{◌≡◌, ℕ, Bool, true, false, ◌&&◌, Option, Some, None, Result, Ok, Err, List, [], ◌∷◌, option_and_then, option_map, is_none}
use Rattle.std.specs.List.{AllZip}
use Rattle.std.specs.Str.{chars}
use Rattle.paths.specs.Reading.{pieces, cleaned}
use Rattle.plain.specs.declared.fault.Fault.{Fault}
use Rattle.plain.specs.declared.fault.Fault.TheVariants.{Because, Memory}
use Rattle.globs.specs.declared.fault.Malformed.{Malformed}
use Rattle.globs.specs.declared.part.Part.{Part}
use Rattle.globs.specs.Component.{RelatesToName, relates_to_name}
use Rattle.globs.specs.Grammar.{Spell}
use Rattle.globs.specs.Reading.{parts_of}

-- the components of a pattern's text: its pieces between slashes, in the clean form of a path's: empty ones and `.` are dropped,
-- and `..` drops the one before it
abbrev pub components_of : List ℕ → List (List ℕ)
components_of text = cleaned (pieces text)

-- the parts that each component spells; none where one is malformed
abbrev pub all_parts_of : List (List ℕ) → Option (List (List Part))
all_parts_of [] = Some []
all_parts_of (component ∷ more) =
    option_and_then (λ parts. option_map (λ others. parts ∷ others) (all_parts_of more)) (parts_of (chars component))

-- the pattern that a text spells; none where it is malformed
abbrev pub glob_of : List ℕ → Option (List (List Part))
glob_of text = all_parts_of (components_of text)

-- a text that spells no pattern
abbrev pub is_malformed : List ℕ → Bool
is_malformed text = is_none (glob_of text)

-- what a reading answers: the pattern that is spelled, or that there is none, or that there was no memory, which says nothing of the text
abbrev pub IsGlobRead : Option (List (List Part)) → Result (List (List Part)) (Fault Malformed) → Type 0
IsGlobRead spelled (Ok glob) = spelled ≡ Some glob
IsGlobRead spelled (Err (Because malformed)) = spelled ≡ None
IsGlobRead spelled (Err Memory) = Unit {0}

-- whether a pattern relates to a path: they have as many components, and each one relates to its name
abbrev pub matches : List (List Part) → List (List ℕ) → Bool
matches [] [] = true
matches [] (name ∷ names) = false
matches (parts ∷ more) [] = false
matches (parts ∷ more) (name ∷ names) = relates_to_name parts name && matches more names

-- the same where there may be no pattern
abbrev pub some_matches : Option (List (List Part)) → List (List ℕ) → Bool
some_matches None path = false
some_matches (Some glob) path = matches glob path

-- whether the pattern that a text spells relates to a path; a malformed text relates to none
abbrev pub relates : List ℕ → List (List ℕ) → Bool
relates text path = some_matches (glob_of text) path

-- The pattern relation, on whole texts: each component of the text spells parts, there are as many as the path has names, and each
-- name can be cut so that the parts of its component relate to its pieces.
abbrev pub Relates : List ℕ → List (List ℕ) → Type 0
Relates text path =
    (glob : List (List Part))
    × (AllZip (λ component parts. Spell (chars component) parts) (components_of text) glob × AllZip (λ parts name. RelatesToName parts name) glob path)
