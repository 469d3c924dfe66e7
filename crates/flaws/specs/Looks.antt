-- Where a JSON value is wrong that has to be of some kind (own): the way to the innermost value that isn't what has to stand in its place.
use Rattle.std.specs.Prelude.{◌+◌, ℕ, Bool, not, Option, Some, None, List, [], ◌∷◌, is_some, bytes_eq, if◌then◌else◌}
use Rattle.std.specs.List.{find, list_any}
use Rattle.std.specs.Option.{option_map}
use Rattle.serde_json.specs.Data.{Data, Items, no_items, item, Members, no_members, member}
use Rattle.serde_json.specs.Find.{get, as_array, as_object}
use Rattle.flaws.specs.declared.flaw.Step.{Step}
use Rattle.flaws.specs.declared.flaw.Step.TheVariants.{Key, Item}

-- a way into a value: keys of objects and places in lists, counted from 0
abbrev pub Way : Type 0
Way = List Step

-- where a value is wrong; nowhere, if it is of the kind that it has to be
abbrev pub Looks : Type 0
Looks = Data → Option Way

-- a value is right or wrong as a whole
abbrev pub whole : (Data → Bool) → Looks
whole is_right d = if is_right d then None else Some []

-- a value has to be read as something, whatever is wrong in it
abbrev pub read_as : {A : Type 0} → (Data → Option A) → Looks
read_as reading = whole (λ d. is_some (reading d))

-- the same place, seen from one step further out
abbrev pub below : Step → Option Way → Option Way
below step found = option_map (λ way. step ∷ way) found

-- the first of two places
abbrev pub or_else : Option Way → Option Way → Option Way
or_else None other = other
or_else (Some way) other = Some way

-- what is found first, looking in this order
abbrev pub first_of : List Looks → Looks
first_of [] d = None
first_of (looks ∷ rest) d = or_else (looks d) (first_of rest d)

-- what stands at a key that may be missing
abbrev pub optional_in : List ℕ → Looks → Option Data → Option Way
optional_in key looks None = None
optional_in key looks (Some d) = below (Key key) (looks d)

abbrev pub optional : List ℕ → Looks → Looks
optional key looks d = optional_in key looks (get key d)

-- what stands at a key that may not be missing: if it is, the way ends in the key
abbrev pub required_in : List ℕ → Looks → Option Data → Option Way
required_in key looks None = Some (Key key ∷ [])
required_in key looks (Some d) = below (Key key) (looks d)

abbrev pub required : List ℕ → Looks → Looks
required key looks d = required_in key looks (get key d)

-- an object's keys, in the order of their bytes
abbrev pub keys_of : Members → List (List ℕ)
keys_of no_members = []
keys_of (member key d members) = key ∷ keys_of members

-- the first of some keys that doesn't pass a test
abbrev pub first_key : (List ℕ → Bool) → List (List ℕ) → Option Way
first_key is_key names = option_map (λ key. Key key ∷ []) (find (λ key. not (is_key key)) names)

-- the first key of an object that doesn't; what is no object is wrong itself
abbrev pub keys_in : (List ℕ → Bool) → Option Members → Option Way
keys_in is_key None = Some []
keys_in is_key (Some members) = first_key is_key (keys_of members)

abbrev pub keys : (List ℕ → Bool) → Looks
keys is_key d = keys_in is_key (as_object d)

-- one of these keys
unfoldable pub is_among : List (List ℕ) → List ℕ → Bool
is_among known key = list_any (λ it. bytes_eq it key) known

-- the first key that is none of these
abbrev pub no_other : List (List ℕ) → Looks
no_other known = keys (is_among known)

-- the first of some values that is wrong, counted on from a number
abbrev pub among_items : Looks → ℕ → Items → Option Way
among_items looks n no_items = None
among_items looks n (item d ds) = or_else (below (Item n) (looks d)) (among_items looks (n + 1) ds)

-- the first value of a list that is wrong; what is no list is wrong itself
abbrev pub items_in : Looks → Option Items → Option Way
items_in looks None = Some []
items_in looks (Some ds) = among_items looks 0 ds

abbrev pub items : Looks → Looks
items looks d = items_in looks (as_array d)

-- the first member whose value is wrong, in the order of the keys' bytes
abbrev pub among_members : Looks → Members → Option Way
among_members looks no_members = None
among_members looks (member key d members) = or_else (below (Key key) (looks d)) (among_members looks members)

-- the first value of an object of any keys that is wrong; what is no object is wrong itself
abbrev pub members_in : Looks → Option Members → Option Way
members_in looks None = Some []
members_in looks (Some members) = among_members looks members

abbrev pub rows : Looks → Looks
rows looks d = members_in looks (as_object d)
