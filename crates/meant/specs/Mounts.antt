-- What is wrong with a mount of a RUN, by its items (own; the rules are those of `options`).
use Rattle.std.specs.Prelude.{◌==◌, ◌||◌, ◌&&◌, ◌++◌, ℕ, Bool, true, false, not, List, [], ◌∷◌, Option, Some, None, bytes_eq, codes, length, option_map, is_some, unwrap_or, if◌then◌else◌}
use Rattle.std.specs.List.{list_any, slice_split}
use Rattle.std.specs.Option.{option_and_then, option_or}
use Rattle.ascii.specs.Pieces.{behind_piece, pieces}
use Rattle.lines.specs.Marks.{is_flag}
use Rattle.words.specs.Pairs.{pair}
use Rattle.meant.specs.Sources.{value_of}
use Rattle.meant.specs.declared.mounts.FaultyItem.{FaultyItem}
use Rattle.meant.specs.declared.mounts.ItemFault.{ItemFault}
use Rattle.meant.specs.declared.mounts.ItemFault.TheVariants.{UnknownKey, NoValue, OtherType, UnknownType, WrongValue, Twice}

-- the key of an item, as it is written: what stands before its first `=`, and all of it if there is none
abbrev pub key_in : List ℕ → Option (List ℕ × List ℕ) → List ℕ
key_in item None = item
key_in item (Some cut) = cut.0

abbrev pub key_of : List ℕ → List ℕ
key_of item = key_in item (pair item)

-- its value, if it has one
abbrev pub value_in : List ℕ → Option (List ℕ)
value_in item = option_map (λ cut. cut.1) (pair item)

-- the same, empty if it has none
abbrev pub value_of_item : List ℕ → List ℕ
value_of_item item = unwrap_or (value_in item) []

-- the name of a key that mounts have, which may be written in several ways (Dockerfile reference, `RUN --mount`)
unfoldable pub key_name : List ℕ → Option (List ℕ)
key_name key = if bytes_eq key (codes "target") || (bytes_eq key (codes "dst") || bytes_eq key (codes "destination")) then Some (codes "target")
    else (if bytes_eq key (codes "rw") || bytes_eq key (codes "readwrite") then Some (codes "rw")
    else (if bytes_eq key (codes "type") then Some (codes "type")
    else (if bytes_eq key (codes "source") then Some (codes "source")
    else (if bytes_eq key (codes "from") then Some (codes "from")
    else (if bytes_eq key (codes "id") then Some (codes "id")
    else (if bytes_eq key (codes "sharing") then Some (codes "sharing") else None))))))

-- a bind alone has the key of this name
unfoldable pub is_of_bind : List ℕ → Bool
is_of_bind name = bytes_eq name (codes "source") || (bytes_eq name (codes "from") || bytes_eq name (codes "rw"))

-- a cache alone has it
unfoldable pub is_of_cache : List ℕ → Bool
is_of_cache name = bytes_eq name (codes "id") || bytes_eq name (codes "sharing")

-- a cache, else a bind, has it
abbrev pub fits : Bool → List ℕ → Bool
fits cache name = if cache then not (is_of_bind name) else not (is_of_cache name)

-- the key of this name takes a value
unfoldable pub takes : List ℕ → List ℕ → Bool
takes name value = if bytes_eq name (codes "type") then bytes_eq value (codes "bind") || bytes_eq value (codes "cache")
    else (if bytes_eq name (codes "rw") then bytes_eq value (codes "true") || bytes_eq value (codes "false")
    else (if bytes_eq name (codes "sharing") then bytes_eq value (codes "shared") || (bytes_eq value (codes "private") || bytes_eq value (codes "locked"))
    else not (length value == 0)))

-- a name is this one
abbrev pub is_name_of : List ℕ → Option (List ℕ) → Bool
is_name_of name None = false
is_name_of name (Some other) = bytes_eq other name

-- the key of an item has this name
unfoldable pub has_name : List ℕ → List ℕ → Bool
has_name name item = is_name_of name (key_name (key_of item))

-- what is wrong with an item of a cache, else of a bind, after these, whose key has this name and this value
unfoldable pub fault_valued : Bool → List (List ℕ) → List ℕ → List ℕ → Option ItemFault
fault_valued cache before name value = if bytes_eq name (codes "type") && not (takes name value) then Some UnknownType
    else (if not (fits cache name) then Some OtherType
    else (if not (takes name value) then Some WrongValue
    else (if list_any (has_name name) before then Some Twice else None)))

-- the same by the value, if there is one: `rw` alone is `rw=true`
abbrev pub fault_named : Bool → List (List ℕ) → List ℕ → Option (List ℕ) → Option ItemFault
fault_named cache before name (Some value) = fault_valued cache before name value
fault_named cache before name None = if bytes_eq name (codes "rw") then fault_valued cache before name (codes "true") else Some NoValue

abbrev pub fault_by : Bool → List (List ℕ) → List ℕ → Option (List ℕ) → Option ItemFault
fault_by cache before item None = Some UnknownKey
fault_by cache before item (Some name) = fault_named cache before name (value_in item)

-- what is wrong with an item of a cache, else of a bind, after these
unfoldable pub fault_in : Bool → List (List ℕ) → List ℕ → Option ItemFault
fault_in cache before item = fault_by cache before item (key_name (key_of item))

-- a value is the type of a cache
abbrev pub is_cache_type : Option (List ℕ) → Bool
is_cache_type None = false
is_cache_type (Some value) = bytes_eq value (codes "cache")

-- items are those of a cache: the first type among them is
abbrev pub first_kind : List (List ℕ) → Bool
first_kind [] = false
first_kind (item ∷ items) = if has_name (codes "type") item then is_cache_type (value_in item) else first_kind items

-- an item with what is wrong with it, and what stands before it in its flag
abbrev pub faulty : Bool → List ℕ → List ℕ → ItemFault → FaultyItem
faulty cache front item fault = record { front = front; item = item; fault = fault; is_cache = cache }

-- the first of these items with which something is wrong, after those that were seen, which `front` writes
abbrev pub first_faulty_after : Bool → List ℕ → List (List ℕ) → List (List ℕ) → Option FaultyItem
first_faulty_after cache front seen [] = None
first_faulty_after cache front seen (item ∷ items) =
    option_or (option_map (faulty cache front item) (fault_in cache seen item)) (first_faulty_after cache ((front ++ item) ++ codes ",") (seen ++ item ∷ []) items)

-- the first of these items of a flag `--mount` with which something is wrong
unfoldable pub first_faulty : List (List ℕ) → Option FaultyItem
first_faulty items = first_faulty_after (first_kind items) (codes "--mount=") [] items

-- the first item of a flag `--mount` with which something is wrong; its items stand between commas (Dockerfile reference, RUN --mount)
unfoldable pub faulty_item : List ℕ → Option FaultyItem
faulty_item flag = option_and_then (λ mount. first_faulty (slice_split (λ c. c == 44) mount)) (value_of (codes "--mount") flag)

-- a word is a mount that binds a folder
abbrev pub binds_by : Option (List ℕ) → Bool
binds_by None = false
binds_by (Some mount) = not (first_kind (slice_split (λ c. c == 44) mount))

abbrev pub is_bind : List ℕ → Bool
is_bind word = binds_by (value_of (codes "--mount") word)

-- a line has such a word
abbrev pub line_binds : List ℕ → Bool
line_binds line = list_any is_bind (pieces line)

-- one of the lines of an instruction has
abbrev pub has_bind : List (List ℕ) → Bool
has_bind own = list_any line_binds own

-- the target of a mount of these items
abbrev pub target_among : List (List ℕ) → Option (List ℕ)
target_among [] = None
target_among (item ∷ items) = if has_name (codes "target") item then Some (value_of_item item) else target_among items

-- the target of a flag `--mount`, if it has one
unfoldable pub target_of : List ℕ → Option (List ℕ)
target_of flag = option_and_then (λ mount. target_among (slice_split (λ c. c == 44) mount)) (value_of (codes "--mount") flag)

-- a target is `/`, or there is none
abbrev pub is_no_target : Option (List ℕ) → Bool
is_no_target None = true
is_no_target (Some target) = bytes_eq target (codes "/")

-- a flag can be no mount beside others, whatever these are: an item of it is wrong, or it has no target, or that is `/`
abbrev pub is_wrong_mount : List ℕ → Bool
is_wrong_mount flag = is_some (faulty_item flag) || is_no_target (target_of flag)

-- the first such flag among the leading ones of these pieces
abbrev pub wrong_among : List (List ℕ) → Option (List ℕ)
wrong_among [] = None
wrong_among (piece ∷ pieces) = if is_flag piece then (if is_wrong_mount piece then Some piece else wrong_among pieces) else None

-- the first such flag of a RUN of this text
abbrev pub wrong_mount : List ℕ → Option (List ℕ)
wrong_mount text = wrong_among (pieces (behind_piece text))
