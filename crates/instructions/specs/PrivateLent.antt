-- Lent texts, as the texts that they are: the code cuts a line into loans, the definitions into texts.
use denote.Ref.{Bor}
use Rattle.std.specs.Prelude.{ℕ, List, Option, map, option_map}

-- the texts that are lent
abbrev pub lent_texts : List (Bor (List ℕ)) → List (List ℕ)
lent_texts texts = map (λ text. text.now) texts

-- the two texts of a pair that are lent
abbrev pub lent_pair : Bor (List ℕ) × Bor (List ℕ) → List ℕ × List ℕ
lent_pair pair = (pair.0.now, pair.1.now)

-- those of each pair
abbrev pub lent_pairs : List (Bor (List ℕ) × Bor (List ℕ)) → List (List ℕ × List ℕ)
lent_pairs pairs = map lent_pair pairs

-- the name and the default of an argument that are lent
abbrev pub lent_argument : Bor (List ℕ) × Option (Bor (List ℕ)) → List ℕ × Option (List ℕ)
lent_argument cut = (cut.0.now, option_map (λ text. text.now) cut.1)

-- those of each argument
abbrev pub lent_arguments : List (Bor (List ℕ) × Option (Bor (List ℕ))) → List (List ℕ × Option (List ℕ))
lent_arguments cuts = map lent_argument cuts
