-- The texts of a pattern's components, and what they spell, one behind another.
use Rattle.std.proofs.Common.{◌≡◌, ◌∙◌, ℕ, true, false, true≢false, suc, List, [], ◌∷◌, ◌++◌, Option, Some, None, map, length, sym, ap, refl, append_assoc}
use Rattle.std.specs.Option.{option_and_then, option_map}
use Rattle.std.specs.Str.{chars}
use Rattle.std.proofs.lemmas.Bool.{and_parts, false_from_ne_true}
use Rattle.std.proofs.lemmas.List.{map-append}
use Rattle.paths.specs.Reading.{cleaned, stepped, walked}
use Rattle.paths.proofs.ReadingLaws.{walked-append}
use Rattle.globs.specs.declared.part.Part.{Part}
use Rattle.globs.specs.Component.{relates_to_name}
use Rattle.globs.specs.Glob.{all_parts_of, matches}
use Rattle.globs.specs.Reading.{parts_of}

abbrev behind : List (List Part) → Option (List (List Part)) → Option (List (List Part))
behind front more = option_map (λ others. front ++ others) more

behind-more : (front : List (List Part)) (parts : List Part) (more : Option (List (List Part))) → behind (front ++ parts ∷ []) more ≡ behind front (option_map (λ others. parts ∷ others) more)
behind-more front parts None = refl
behind-more front parts (Some others) = ap (λ l. Some l) (append_assoc front (parts ∷ []) others)

pub spelled-step : (front : List (List Part)) (text : List ℕ) (texts : List (List ℕ)) (parts : List Part) → parts_of (chars text) ≡ Some parts
    → option_map (λ others. (front ++ parts ∷ []) ++ others) (all_parts_of texts) ≡ option_map (λ others. front ++ others) (all_parts_of (text ∷ texts))
spelled-step front text texts parts e =
    behind-more front parts (all_parts_of texts)
    ∙ ap (λ found. behind front (option_and_then (λ ps. option_map (λ others. ps ∷ others) (all_parts_of texts)) found)) (sym e)

pub spelled-none : (front : List (List Part)) (text : List ℕ) (texts : List (List ℕ)) → parts_of (chars text) ≡ None → option_map (λ others. front ++ others) (all_parts_of (text ∷ texts)) ≡ None
spelled-none front text texts e = ap (λ found. behind front (option_and_then (λ ps. option_map (λ others. ps ∷ others) (all_parts_of texts)) found)) e

-- one more piece of a text
pub cleaned-more : {A : Type 0} (view : A → List ℕ) (pieces : List A) (piece : A) → stepped (cleaned (map view pieces)) (view piece) ≡ cleaned (map view (pieces ++ piece ∷ []))
cleaned-more view pieces piece =
    sym (walked-append [] (map view pieces) (view piece ∷ [])) ∙ ap (λ ps. walked [] ps) (sym (map-append view pieces (piece ∷ [])))

-- a pattern relates to paths of its own length alone
matched-lengths : (glob : List (List Part)) (path : List (List ℕ)) → matches glob path ≡ true → length glob ≡ length path
matched-lengths [] [] h = refl
matched-lengths [] (name ∷ names) h = absurd (true≢false (sym h))
matched-lengths (parts ∷ glob) [] h = absurd (true≢false (sym h))
matched-lengths (parts ∷ glob) (name ∷ names) h = ap suc (matched-lengths glob names (and_parts (relates_to_name parts name) (matches glob names) h).1)

pub unequal-matches : (glob : List (List Part)) (path : List (List ℕ)) → (length glob ≡ length path → ⊥) → false ≡ matches glob path
unequal-matches glob path unequal = sym (false_from_ne_true (matches glob path) (λ h. unequal (matched-lengths glob path h)))
