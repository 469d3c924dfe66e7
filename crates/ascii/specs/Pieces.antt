-- The pieces of a text: its longest runs of characters that aren't blank.
use Rattle.std.specs.Prelude.{ℕ, Bool, true, false, List, [], ◌∷◌, filter, if◌then◌else◌}
use Rattle.std.specs.List.{slice_split}
use Rattle.ascii.specs.Blanks.{is_blank, after_blanks}

-- whether a text has a character
abbrev pub is_filled : List ℕ → Bool
is_filled [] = false
is_filled (c ∷ cs) = true

-- a piece alone, or nothing where it is empty
abbrev pub if_any : List ℕ → List (List ℕ)
if_any [] = []
if_any (c ∷ cs) = (c ∷ cs) ∷ []

-- the pieces of a text: what stands between its blanks, without the empty ones (own)
abbrev pub pieces : List ℕ → List (List ℕ)
pieces text = filter is_filled (slice_split is_blank text)

-- what stands before a text's first blank
abbrev pub until_blank : List ℕ → List ℕ
until_blank [] = []
until_blank (c ∷ cs) = if is_blank c then [] else c ∷ until_blank cs

-- a text from its first blank on
abbrev pub from_blank : List ℕ → List ℕ
from_blank [] = []
from_blank (c ∷ cs) = if is_blank c then c ∷ cs else from_blank cs

-- a text's first piece: what stands before the first blank, the leading blanks dropped
abbrev pub first_piece : List ℕ → List ℕ
first_piece text = until_blank (after_blanks text)

-- what stands behind a text's first piece, from the next character on that isn't blank
abbrev pub behind_piece : List ℕ → List ℕ
behind_piece text = after_blanks (from_blank (after_blanks text))
