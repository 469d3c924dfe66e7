-- How lists are written as JSON (own).
use Rattle.std.specs.Prelude.{List, map}
use Rattle.serde_json.specs.Data.{Data, array}
use Rattle.serde_json.specs.View.{items_of}

-- a list of values, each as it is written
abbrev pub list_data : {A : Type 0} → (A → Data) → List A → Data
list_data written xs = array (items_of (map written xs))
