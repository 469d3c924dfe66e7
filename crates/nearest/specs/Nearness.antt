-- Which name may have been meant by a word that is none (own).
use Rattle.std.specs.Prelude.{◌≡◌, ◌≤◌, ◌<◌, ◌/◌, ◌&&◌, ◌||◌, ◌++◌, ℕ, Bool, true, List, ◌∷◌, Option, chars, length, nat_eq, nat_le, not}
use Rattle.std.specs.Cmp.Lexicographic.{pointwise}
use Rattle.std.specs.List.{All, find, list_all}
use Rattle.std.specs.Str.{str_to_ascii_lowercase}
use Rattle.strsim.specs.Edits.{osa_table}

-- the characters of a text, whatever the case of its ASCII letters
abbrev pub caseless : List ℕ → List ℕ
caseless text = chars (str_to_ascii_lowercase text)

-- how many edits make one text of another, whatever the case of ASCII letters: a character is put in, taken away, replaced, or changes places
-- with the next one (optimal string alignment)
unfoldable pub edits : List ℕ → List ℕ → ℕ
edits one other = (osa_table (caseless one) (caseless other)).last_row (length (caseless other))

-- a text that is compared: one of 64 bytes at most, so that the time for a comparison is bounded
abbrev pub is_compared : List ℕ → Bool
is_compared text = nat_le (length text) 64

-- a word may stand for a name: it is another text, and one edit at most is needed for each three of its bytes
unfoldable pub is_near : List ℕ → List ℕ → Bool
is_near word name = not (pointwise nat_eq word name) && is_compared word && is_compared name && nat_le (edits word name) (length word / 3)

-- a name takes no more edits than another one, or that one isn't near
abbrev pub is_as_near : List ℕ → List ℕ → List ℕ → Bool
is_as_near word name other = not (is_near word other) || nat_le (edits word name) (edits word other)

-- a name is near, and none of these that is near takes fewer edits
unfoldable pub is_nearest : List ℕ → List (List ℕ) → List ℕ → Bool
is_nearest word names name = is_near word name && list_all (λ other. is_as_near word name other) names

-- the name that may have been meant by a word: the first of those that are near to it and take the fewest edits; none if no name is near
unfoldable pub nearest : List ℕ → List (List ℕ) → Option (List ℕ)
nearest word names = find (λ name. is_nearest word names name) names

-- of some names this is the first of those that are near to a word and take the fewest edits
pub record IsFirstNearest (word : List ℕ) (names : List (List ℕ)) (name : List ℕ) : Type 0 where
  pub front : List (List ℕ)
  pub back : List (List ℕ)
  pub is : names ≡ front ++ name ∷ back
  pub near : is_near word name ≡ true
  pub fewest : All (λ other. is_near word other ≡ true → edits word name ≤ edits word other) names
  pub first : All (λ other. is_near word other ≡ true → edits word name < edits word other) front
