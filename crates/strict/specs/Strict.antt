-- Strict reading of JSON: what is neither asked for nor allowed isn't passed over (own). Of a key that stands twice in an object the
-- last value counts, and of numbers only those that are written as whole ones are: both are `serde_json`'s.
use Rattle.std.specs.Prelude.{ℕ, ◌^◌, List, [], ◌∷◌, Bool, true, ◌&&◌, Option, Some, None, if◌then◌else◌, bytes_eq, is_some, not, nat_lt}
use Rattle.std.specs.List.{list_any}
use Rattle.std.specs.Option.{option_and_then, option_map}
use Rattle.serde_json.specs.Data.{Data, Items, no_items, item, Members, no_members, member}
use Rattle.serde_json.specs.Find.{as_object, as_str, as_array, as_number, as_u64}
use Rattle.paths.specs.Path.{text_of}
use Rattle.paths.specs.Reading.{read_from, limit_of}

-- each key of an object passes a test
abbrev pub has_only : (List ℕ → Bool) → Members → Bool
has_only test no_members = true
has_only test (member key value members) = test key && has_only test members

-- the object's members, where it has no other keys than these
abbrev pub strict : List (List ℕ) → Data → Option Members
strict keys d = option_and_then (λ members. if has_only (λ key. list_any (λ known. bytes_eq known key) keys) members then Some members else None) (as_object d)

-- what stands at a key that may be missing: nothing, where it is; else what it is read as
abbrev pub at_most_one : {A : Type 0} → (Data → Option A) → Option Data → Option (Option A)
at_most_one one None = Some None
at_most_one one (Some d) = option_map Some (one d)

-- a value before others, where all are there
abbrev pub with_first : {A : Type 0} → Option A → Option (List A) → Option (List A)
with_first None rest = None
with_first (Some x) None = None
with_first (Some x) (Some xs) = Some (x ∷ xs)

-- what each of some values is, where each is something
abbrev pub all_in : {A : Type 0} → (Data → Option A) → Items → Option (List A)
all_in one no_items = Some []
all_in one (item d ds) = with_first (one d) (all_in one ds)

-- a list of values of one kind
unfoldable pub list_in : {A : Type 0} → (Data → Option A) → Data → Option (List A)
list_in one d = option_and_then (all_in one) (as_array d)

-- what each of an object's members is, with its key, where each is something
abbrev pub members_in : {A : Type 0} → (Data → Option A) → Members → Option (List (List ℕ × A))
members_in one no_members = Some []
members_in one (member key d members) = with_first (option_map (λ x. (key, x)) (one d)) (members_in one members)

-- an object of any keys, its values of one kind: its keys with their values, in the order of the keys' bytes
unfoldable pub rows_in : {A : Type 0} → (Data → Option A) → Data → Option (List (List ℕ × A))
rows_in one d = option_and_then (members_in one) (as_object d)

-- a path, whose text is already clean, absolute and within the limits
abbrev pub path_of : List ℕ → Option (List (List ℕ))
path_of text =
    if not (is_some (limit_of (read_from text []))) && bytes_eq (text_of (read_from text [])) text then Some (read_from text []) else None

unfoldable pub path_in : Data → Option (List (List ℕ))
path_in d = option_and_then path_of (as_str d)

-- a whole number of 64 bits that isn't negative
abbrev pub number_in : Data → Option ℕ
number_in d = option_and_then as_u64 (as_number d)

-- such a number of 32 bits
unfoldable pub short_number_in : Data → Option ℕ
short_number_in d = option_and_then (λ n. if nat_lt n (2 ^ 32) then Some n else None) (number_in d)
