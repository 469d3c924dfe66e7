-- A word with what is wrong with it (own).
use Rattle.std.specs.Prelude.{◌-◌, ℕ, List, Option, length, option_map, slice_get}
use Rattle.sentences.specs.declared.word_cause.WordCause.{WordCause}
use Rattle.meant.specs.declared.word_faults.FaultyWord.{FaultyWord}

-- a word with this wrong, if there is one
abbrev pub faulty_if : WordCause → Option (List ℕ) → Option FaultyWord
faulty_if cause word = option_map (λ it. record { cause = cause; word = it }) word

-- the last of some words
abbrev pub last_word : List (List ℕ) → Option (List ℕ)
last_word words = slice_get words (length words - 1)
