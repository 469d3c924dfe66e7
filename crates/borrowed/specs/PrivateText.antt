-- A text's value, whatever its numbers: the first half of `serde_json`'s `read`.
use Rattle.std.specs.Prelude.{◌≡◌, ℕ, List, Option, Some, Result, Ok, Err}
use Rattle.std.specs.Option.{option_and_then}
use Rattle.json.specs.Json.{Json, if_last, value}
use Rattle.json.specs.Lex.{tokens}
use Rattle.json.specs.Value.{value_view}
use Rattle.json.specs.declared.value.Value.{Value}
use Rattle.plain.specs.declared.fault.Fault.{Fault}
use Rattle.serde_json.specs.Read.{max_depth}
use Rattle.strict.specs.Gives.{TellsFault}
use Rattle.strict.specs.declared.fault.NotRead.{NotRead}

abbrev pub json_of : List ℕ → Option Json
json_of text = option_and_then (λ p. if_last p.0 p.1) (value max_depth (tokens text))

abbrev pub GivesJson : {A : Type 0} → Result (Value A) (Fault NotRead) → Option Json → Type 0
GivesJson (Ok v) reading = reading ≡ Some (value_view v)
GivesJson (Err e) reading = TellsFault e reading
