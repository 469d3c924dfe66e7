-- What a reader of a text tells, where it answers a lent value (own).
use Rattle.std.specs.Prelude.{◌≡◌, List, map, Option, Some, Result, Ok, Err, option_map}
use Rattle.std.specs.Borrow.{Bor}
use Rattle.json.specs.declared.value.Value.{Value}
use Rattle.plain.specs.declared.fault.Fault.{Fault}
use Rattle.serde_json.specs.Data.{Data, Items}
use Rattle.serde_json.specs.View.{items_of}
use Rattle.strict.specs.Gives.{TellsFault}
use Rattle.strict.specs.declared.fault.NotRead.{NotRead}
use Rattle.borrowed.specs.Seen.{data_of}

-- a value that stands for the data that the definition gives, and a fault where it gives none
abbrev pub GivesData : {A : Type 0} → Result (Value A) (Fault NotRead) → Option Data → Type 0
GivesData (Ok v) reading = reading ≡ Some (data_of v)
GivesData (Err e) reading = TellsFault e reading

-- what some lent values stand for, as items
abbrev pub items_data : {A : Type 0} → List (Value A) → Items
items_data vs = items_of (map data_of vs)

-- what a value stands for that is lent, if there is one
abbrev pub lent_data : {A : Type 0} → Option (Bor (Value A)) → Option Data
lent_data o = option_map (λ v. data_of v.now) o

-- what a value stands for, if there is one
abbrev pub owned_data : {A : Type 0} → Option (Value A) → Option Data
owned_data o = option_map data_of o
