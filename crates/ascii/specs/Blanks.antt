-- What blanks are, and a text without those at its ends.
use Rattle.std.specs.Prelude.{ℕ, Bool, List, [], ◌∷◌, ◌==◌, ◌||◌, if◌then◌else◌}

-- a blank is a space or a tab (own)
abbrev pub is_blank : ℕ → Bool
is_blank c = (c == 32) || (c == 9)

-- a text without its leading blanks
abbrev pub after_blanks : List ℕ → List ℕ
after_blanks [] = []
after_blanks (c ∷ cs) = if is_blank c then after_blanks cs else c ∷ cs

-- a character before a text that doesn't end in a blank: a blank goes where nothing follows it
abbrev pub unless_trailing : ℕ → List ℕ → List ℕ
unless_trailing c [] = if is_blank c then [] else c ∷ []
unless_trailing c (d ∷ ds) = c ∷ d ∷ ds

-- a text without its trailing blanks
abbrev pub before_blanks : List ℕ → List ℕ
before_blanks [] = []
before_blanks (c ∷ cs) = unless_trailing c (before_blanks cs)

-- a text without its leading and trailing blanks
abbrev pub trimmed : List ℕ → List ℕ
trimmed text = before_blanks (after_blanks text)
