-- What BuildKit is told of a source of a COPY, so that it takes the paths that the pattern relates to (own). BuildKit takes all that stands
-- before the first component with a sign as it is written, escapes too. So the components before it lose their escapes; one that would be
-- taken for something else without them begins the pattern, with a class of one character for each sign.
use Rattle.std.specs.Prelude.{ℕ, Bool, true, false, ◌&&◌, ◌||◌, List, [], ◌∷◌, ◌++◌, ◌==◌, if◌then◌else◌}
use Rattle.std.specs.List.{list_any}
use Rattle.std.specs.Str.{chars, encode_utf8_all}
use Rattle.paths.specs.Path.{rooted, is_normal}
use Rattle.globs.specs.Glob.{components_of}

-- a character that relates to more than itself: `*`, `?` and `[`
unfoldable pub is_sign : ℕ → Bool
is_sign c = c == 42 || (c == 63 || c == 91)

-- whether a character is a `\` that makes the next one plain
abbrev pub escapes : Bool → ℕ → Bool
escapes escaped c = if escaped then false else c == 92

-- whether characters have a sign that isn't escaped; the first one may be
abbrev pub has_active : Bool → List ℕ → Bool
has_active escaped [] = false
has_active escaped (c ∷ cs) = if (if escaped then false else is_sign c) then true else has_active (escapes escaped c) cs

-- whether a component has a sign
abbrev pub is_active : List ℕ → Bool
is_active component = has_active false (chars component)

-- characters without the `\` that make others plain
abbrev pub unescaped : Bool → List ℕ → List ℕ
unescaped escaped [] = []
unescaped escaped (c ∷ cs) = if escapes escaped c then unescaped true cs else c ∷ unescaped false cs

-- the name that a component without a sign spells
abbrev pub name_of : List ℕ → List ℕ
name_of component = encode_utf8_all (unescaped false (chars component))

-- a character of a name in a pattern that relates to it alone: a class for a sign or a `.`, and a `\` before a `\`
abbrev pub as_class : ℕ → List ℕ
as_class c = if is_sign c || c == 46 then 91 ∷ c ∷ 93 ∷ [] else (if c == 92 then 92 ∷ 92 ∷ [] else c ∷ [])

-- the characters of a name in such a pattern
abbrev pub as_classes : List ℕ → List ℕ
as_classes [] = []
as_classes (c ∷ cs) = as_class c ++ as_classes cs

-- whether a component begins the pattern: it has a sign; or its name is `.` or `..`, which BuildKit would drop from a path; or its name has a
-- sign, and some component has one
unfoldable pub begins : Bool → List ℕ → Bool
begins globs component =
    if is_active component then true
    else (if is_normal (name_of component) then globs && list_any is_sign (name_of component) else true)

-- a component that begins the pattern
unfoldable pub opening : List ℕ → List ℕ
opening component = if is_active component then component else encode_utf8_all (as_classes (chars (name_of component)))

-- a `/` before each component, of which those before the pattern are names
abbrev pub source_after : Bool → List (List ℕ) → List ℕ
source_after globs [] = []
source_after globs (component ∷ components) =
    47 ∷ (if begins globs component then opening component ++ rooted components else name_of component ++ source_after globs components)

-- whether a component of a pattern's text has a sign
abbrev pub has_globs : List ℕ → Bool
has_globs text = list_any is_active (components_of text)

-- `/` where there is no component
abbrev pub or_root : List ℕ → List ℕ
or_root [] = 47 ∷ []
or_root (byte ∷ bytes) = byte ∷ bytes

-- the path that BuildKit is told
unfoldable pub source_path : List ℕ → List ℕ
source_path text = or_root (source_after (has_globs text) (components_of text))

-- whether it is to take it for a pattern
unfoldable pub allows_wildcard : List ℕ → Bool
allows_wildcard text = list_any (begins (has_globs text)) (components_of text)
