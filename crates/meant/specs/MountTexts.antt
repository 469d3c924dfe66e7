-- What is said of a mount with which something is wrong (own).
use Rattle.std.specs.Prelude.{◌++◌, ◌==◌, ◌||◌, ℕ, Bool, true, false, List, [], ◌∷◌, Option, Some, None, bytes_eq, codes, length, if◌then◌else◌}
use Rattle.sentences.specs.declared.message.Message.{Message}
use Rattle.meant.specs.Mounts.{faulty_item, key_of, target_of, value_of_item, wrong_mount}
use Rattle.meant.specs.Said.{said, said_near}
use Rattle.meant.specs.declared.mounts.FaultyItem.{FaultyItem}
use Rattle.meant.specs.declared.mounts.ItemFault.{ItemFault}
use Rattle.meant.specs.declared.mounts.ItemFault.TheVariants.{UnknownKey, NoValue, OtherType, UnknownType, WrongValue, Twice}

-- what helps against a key that Docker has, and that is left out here
unfoldable pub key_help : List ℕ → Option (List ℕ)
key_help key = if bytes_eq key (codes "src") then Some (codes "write source in place of src")
    else (if bytes_eq key (codes "ro") || bytes_eq key (codes "readonly") then Some (codes "drop it: without rw nothing can be written there")
    else (if bytes_eq key (codes "uid") || (bytes_eq key (codes "gid") || bytes_eq key (codes "mode")) then Some (codes "drop it: a cache is root's here, with the mode 755") else None))

-- the keys that a mount may have been meant to have
abbrev pub mount_keys : List (List ℕ)
mount_keys = codes "type" ∷ codes "target" ∷ codes "source" ∷ codes "from" ∷ codes "rw" ∷ codes "id" ∷ codes "sharing" ∷ codes "destination" ∷ []

-- what is said of a key that no mount has, by what helps if it is Docker's
abbrev pub unknown_key_by : List ℕ → List ℕ → Option (List ℕ) → Message
unknown_key_by key wrong (Some helps) = said wrong helps
unknown_key_by key wrong None =
    said_near wrong key mount_keys (codes "a bind takes type, target, source, from and rw, a cache type, target, id and sharing")

abbrev pub unknown_key : List ℕ → Message
unknown_key key = unknown_key_by key (codes "a mount has no key " ++ (key ++ codes " here")) (key_help key)

-- of a key that needs a value
abbrev pub no_value : List ℕ → Message
no_value key = said (codes "the key " ++ (key ++ codes " of a mount has no value")) (codes "write " ++ (key ++ codes "= and a value"))

-- of a key that a mount of the other type has
abbrev pub other_type : Bool → List ℕ → Message
other_type true key = said (codes "a cache has no key " ++ (key ++ codes " here")) (codes "drop it, or write type=bind")
other_type false key = said (codes "a bind has no key " ++ key) (codes "drop it, or write type=cache")

-- what helps against a type that Docker has, and that is left out here
unfoldable pub type_help : List ℕ → Option (List ℕ)
type_help value = if bytes_eq value (codes "tmpfs") then Some (codes "let the command make a folder, and remove it")
    else (if bytes_eq value (codes "secret") then Some (codes "do before the build what needs the secret, and COPY what came of it")
    else (if bytes_eq value (codes "ssh") then Some (codes "do before the build what needs the key, and COPY what came of it") else None))

-- what is said of a type that no mount has here, by what helps if it is Docker's
abbrev pub unknown_type_by : List ℕ → Option (List ℕ) → Message
unknown_type_by value (Some helps) = said (codes "mounts of type " ++ (value ++ codes " are left out here on purpose")) helps
unknown_type_by value None =
    said_near (codes "there are no mounts of type " ++ value) value (codes "bind" ∷ codes "cache" ∷ []) (codes "write type=bind or type=cache")

abbrev pub unknown_type : List ℕ → Message
unknown_type value = unknown_type_by value (type_help value)

-- of a value that its key doesn't take
abbrev pub untaken : List ℕ → List ℕ → List ℕ → Message
untaken wrong key value = if bytes_eq key (codes "sharing")
    then said_near wrong value (codes "shared" ∷ codes "private" ∷ codes "locked" ∷ []) (codes "write sharing=shared, sharing=private or sharing=locked")
    else said_near wrong value (codes "true" ∷ codes "false" ∷ []) (codes "write rw=true, or drop it")

abbrev pub wrong_value : List ℕ → List ℕ → Message
wrong_value key value = if length value == 0 then no_value key
    else untaken (codes "the key " ++ (key ++ (codes " of a mount doesn't take " ++ value))) key value

-- of a key that stands in an item before
abbrev pub twice : List ℕ → Message
twice key = said (codes "the key " ++ (key ++ codes " stands twice in this mount"))
    (codes "write it once: target, dst and destination are one key, and so are rw and readwrite")

-- what is said of an item of a cache, else of a bind, with which this is wrong
abbrev pub item_message : Bool → List ℕ → ItemFault → Message
item_message cache item UnknownKey = unknown_key (key_of item)
item_message cache item NoValue = no_value (key_of item)
item_message cache item OtherType = other_type cache (key_of item)
item_message cache item UnknownType = unknown_type (value_of_item item)
item_message cache item WrongValue = wrong_value (key_of item) (value_of_item item)
item_message cache item Twice = twice (key_of item)

-- of a mount each of whose items is fine, by its target
abbrev pub target_told : Option (List ℕ) → Message
target_told None = said (codes "a mount has no target") (codes "write target=/path")
target_told (Some target) = said (codes "the target of a mount is /") (codes "give it a folder of its own, as target=/path")

-- of mounts each of which is one
abbrev pub clash : Message
clash = said (codes "a target is /, or two mounts clash")
    (codes "give each mount a target that is neither / nor within another one's, and each cache an id of its own")

-- of a flag that is no mount: of its first item with which something is wrong, and if there is none of its target
abbrev pub faulty_message : Option (List ℕ) → Option FaultyItem → Message
faulty_message target None = target_told target
faulty_message target (Some found) = item_message found.is_cache found.item found.fault

unfoldable pub flag_message : List ℕ → Message
flag_message flag = faulty_message (target_of flag) (faulty_item flag)

-- what is said of the mounts of a RUN, by the first flag of it that can be no mount
abbrev pub mount_by : Option (List ℕ) → Message
mount_by None = clash
mount_by (Some flag) = flag_message flag

-- the same by its text
abbrev pub mount_message : List ℕ → Message
mount_message text = mount_by (wrong_mount text)
