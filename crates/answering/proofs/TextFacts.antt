-- The text of an answer that is said in pieces, and of one that is made whole.
use Rattle.std.proofs.Common.{◌≡◌, ℕ, List, ◌++◌, false, refl, codes}
use Rattle.serde_json.specs.Data.{Data}
use Rattle.serde_json.specs.Written.{compact_text, has_float}
use Rattle.serde_json.proofs.OnLiterals.{serde_json_on_literals}
use Rattle.trees.specs.declared.entry.Entry.{Entry}
use Rattle.entries.specs.Written.{tree_data}
use Rattle.bundle.specs.Answer.{built_data, built_text}
use Rattle.answering.specs.PrivateText.{built_of}

-- the pieces of an answer are its text
pub built-text : (config : Data) (entries : List (List (List ℕ) × Entry))
    → codes "{\"config\":" ++ (compact_text config ++ (codes ",\"result\":\"built\",\"tree\":" ++ (compact_text (tree_data entries) ++ codes "}"))) ≡ built_text config entries
unfolding built_data serde_json_on_literals
built-text config entries = refl

-- it is that of its parts
pub built-of : (config : Data) (entries : List (List (List ℕ) × Entry)) → built_of config (tree_data entries) ≡ built_data config entries
unfolding built_data
built-of config entries = refl

-- where no part has a float it has none
pub built_is_plain : (config tree : Data) → has_float config ≡ false → has_float tree ≡ false → has_float (built_of config tree) ≡ false
unfolding serde_json_on_literals
built_is_plain config tree first second = rw (first, second) refl
