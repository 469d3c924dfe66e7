-- What a reader takes of the tokens of a text (RFC 8259, by the grammar of `json`), as the data that `serde_json` reads of it (own).
use Rattle.std.specs.Prelude.{◌≡◌, ℕ, List, Option, Some}
use Rattle.json.specs.Json as json
use Rattle.json.specs.Token.{Token}
use Rattle.serde_json.specs.Data.{Data}
use Rattle.serde_json.specs.Read.{of_json}

-- some tokens begin with those of a value, which nests no deeper than the number, and go on with those that are left
abbrev pub IsNext : ℕ → List Token → List Token → Data → Type 0
IsNext depth tokens left d = (j : json.Json) × (json.value depth tokens ≡ Some (j, left)) × (of_json j ≡ Some d)

-- the value that comes next is read as this
abbrev pub Pulls : {A : Type 0} → ℕ → (Data → Option A) → List Token → List Token → A → Type 0
Pulls depth one tokens left x = (d : Data) × IsNext depth tokens left d × (one d ≡ Some x)
