-- What a JSON text's value means, where its numbers have values: the data that `serde_json` reads of the text (RFC 8259; own). Of a key that
-- stands twice in an object the last value counts.
use Rattle.std.specs.Prelude.{Option, Some, None}
use Rattle.json.specs.Json as json
use Rattle.json.specs.Value.{value_view}
use Rattle.json.specs.declared.value.Value.{Value}
use Rattle.serde_json.specs.Data.{Num, Data, null, boolean, number, string, array, object, Items, no_items, item, Members, no_members, put}
use Rattle.serde_json.specs.Read.{number_of}

-- a number, where it has a value; one that is out of range has none, and is seen as null
abbrev pub seen_number : Option Num → Data
seen_number None = null
seen_number (Some n) = number n

-- the data that a value stands for: the members of an object are put one after another, so the last value of a key stays
abbrev mutual
  pub seen : json.Json → Data
  seen json.null = null
  seen (json.boolean b) = boolean b
  seen (json.number s) = seen_number (number_of s)
  seen (json.string s) = string s
  seen (json.array js) = array (seen_items js)
  seen (json.object ms) = object (seen_members ms no_members)

  -- the items of a list, each as what it stands for
  pub seen_items : json.Items → Items
  seen_items json.no_items = no_items
  seen_items (json.item j js) = item (seen j) (seen_items js)

  -- the members put one after another to those that there are
  pub seen_members : json.Members → Members → Members
  seen_members json.no_members found = found
  seen_members (json.member k j ms) found = seen_members ms (put k (seen j) found)

-- the data that a lent value stands for
abbrev pub data_of : {A : Type 0} → Value A → Data
data_of v = seen (value_view v)
