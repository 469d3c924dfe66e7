-- The JSON form of arguments: a list of texts (Dockerfile reference, exec form).
use Rattle.std.specs.Prelude.{ℕ, List, [], ◌∷◌, Option, Some, option_map, option_and_then}
use Rattle.serde_json.specs.Data.{Data, Items, no_items, item}
use Rattle.serde_json.specs.Find.{as_array, as_str}
use Rattle.serde_json.specs.Read.{read}

-- the texts of a list's items, where each is a text
abbrev pub texts_of : Items → Option (List (List ℕ))
texts_of no_items = Some []
texts_of (item value more) = option_and_then (λ text. option_map (λ texts. text ∷ texts) (texts_of more)) (as_str value)

-- the texts of a list of texts
abbrev pub texts_in : Data → Option (List (List ℕ))
texts_in value = option_and_then texts_of (as_array value)

-- the texts of a text in JSON form: what it reads as is a list of texts (Dockerfile reference, exec form)
unfoldable pub json_form : List ℕ → Option (List (List ℕ))
json_form text = option_and_then texts_in (read text)
