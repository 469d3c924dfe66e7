-- The items of a mount: keys with values.
use Rattle.std.specs.Prelude.{ℕ, ◌==◌, Bool, List, Option, option_map}
use Rattle.std.specs.List.{find}
use Rattle.options.specs.Lists as lists
use Rattle.options.specs.declared.item.Item as lent
use Rattle.options.specs.declared.item.Key.{Key}
use Rattle.options.specs.declared.item.Key.TheVariants.{Kind, Target, Source, From, Writable, Id, Sharing}

-- an item: its key, and its value as it is written (Dockerfile reference, `RUN --mount`)
abbrev pub Item : Type 0
Item = Key × List ℕ

-- what an item in memory, whose value is lent, shows
abbrev pub shown : lent.Item → Item
shown item = (item.key, item.value.now)

-- the number of a key, which no other key has
abbrev pub number_of : Key → ℕ
number_of Kind = 0
number_of Target = 1
number_of Source = 2
number_of From = 3
number_of Writable = 4
number_of Id = 5
number_of Sharing = 6

-- whether an item has a key
abbrev pub has_key : Key → Item → Bool
has_key key item = number_of item.0 == number_of key

-- the value of a key: that of the first item that has it
abbrev pub value_at : Key → List Item → Option (List ℕ)
value_at key items = option_map (λ item. item.1) (find (has_key key) items)

-- whether two items have the same key
abbrev pub has_twice : List Item → Bool
has_twice items = lists.has_twice (λ item. has_key item.0) items
