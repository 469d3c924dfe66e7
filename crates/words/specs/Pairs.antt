-- A word cut at an `=`: its name or key, and its value.
use Rattle.std.specs.Prelude.{◌≡◌, ℕ, Bool, false, List, [], ◌∷◌, ◌++◌, ◌==◌, if◌then◌else◌, Option, Some, None, option_map, length}
use Rattle.std.specs.List.{position_or_len, before_first, after_first}
use Rattle.lines.specs.declared.escape.Escape.{Escape}
use Rattle.words.specs.Parts.{Part, IsMadeOf, plain, part_text, written}
use Rattle.words.specs.ReadParts.{parts}

-- a word cut at its first `=` (Dockerfile reference, ENV and ARG)
abbrev pub pair : List ℕ → Option (List ℕ × List ℕ)
pair word = if position_or_len (λ character. character == 61) word == length word then None else Some (before_first (λ character. character == 61) word, after_first (λ character. character == 61) word)

-- whether a part is an `=` outside quotes that isn't escaped
abbrev pub is_equals : Part → Bool
is_equals (plain character) = character == 61
is_equals _ = false

-- parts cut at the first such `=`: what is written before it, and behind it
abbrev pub cut_parts : Escape → List Part → Option (List ℕ × List ℕ)
cut_parts escape [] = None
cut_parts escape (part ∷ parts) = if is_equals part then Some ([], written escape parts) else option_map (λ cut. (part_text escape part ++ cut.0, cut.1)) (cut_parts escape parts)

-- a word is cut so at its first `=` outside quotes that isn't escaped (Dockerfile reference, LABEL; that quotes and the
-- escape character hide an `=`: own)
abbrev pub IsLabelCut : Escape → List ℕ → Option (List ℕ × List ℕ) → Type 0
IsLabelCut escape word cut = (parts : List Part) × IsMadeOf escape word parts × (cut ≡ cut_parts escape parts)

-- the cut of a word that `IsLabelCut` means
unfoldable pub label_pair : Escape → List ℕ → Option (List ℕ × List ℕ)
label_pair escape word = cut_parts escape (parts escape word)
