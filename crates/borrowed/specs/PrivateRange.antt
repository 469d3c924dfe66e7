-- Whether each number of a JSON text's value has a value itself: the texts that are read are those of which this holds (own).
use Rattle.std.specs.Prelude.{Bool, true, ◌&&◌, is_some}
use Rattle.json.specs.Json as json
use Rattle.serde_json.specs.Read.{number_of}

-- each number in it has a value
abbrev mutual
  pub in_range : json.Json → Bool
  in_range json.null = true
  in_range (json.boolean b) = true
  in_range (json.number s) = is_some (number_of s)
  in_range (json.string s) = true
  in_range (json.array js) = items_in_range js
  in_range (json.object ms) = members_in_range ms

  -- each number in some items has a value
  pub items_in_range : json.Items → Bool
  items_in_range json.no_items = true
  items_in_range (json.item j js) = in_range j && items_in_range js

  -- each number in some members has a value
  pub members_in_range : json.Members → Bool
  members_in_range json.no_members = true
  members_in_range (json.member k j ms) = in_range j && members_in_range ms
