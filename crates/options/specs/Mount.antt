-- The mounts of RUN: flags `--mount=M`, where M is a list of items cut at `,`, each `key=value` or `key` (Dockerfile reference,
-- `RUN --mount`; that other types and keys are unknown, that they are compared exactly and that no key is there twice: own).
use Rattle.std.specs.Prelude.{ℕ, ◌==◌, ◌||◌, ◌&&◌, Bool, true, false, not, List, Option, Some, None, is_some, option_map, option_and_then, unwrap_or}
use Rattle.std.specs.Prelude.{length, map, if◌then◌else◌, bytes_eq, codes}
use Rattle.std.specs.List.{list_all, slice_split}
use Rattle.plain.specs.declared.sharing.Sharing as sharings
use Rattle.plain.specs.declared.sharing.Sharing.TheVariants.{Shared, Private, Locked}
use Rattle.words.specs.Pairs.{pair}
use Rattle.words.specs.declared.flag.Flag.{Flag}
use Rattle.options.specs.Item.{Item, value_at, has_twice}
use Rattle.options.specs.Lists.{all_some}
use Rattle.options.specs.Value.{is_named, is_filled, is_truth}
use Rattle.options.specs.declared.item.Key.{Key}
use Rattle.options.specs.declared.item.Key.TheVariants.{Kind, Target, Source, From, Writable, Id, Sharing}
use Rattle.options.specs.declared.mount.Mount.{Mount}
use Rattle.options.specs.declared.mount.MountKind.{MountKind}
use Rattle.options.specs.declared.mount.MountKind.TheVariants.{Bind, Cache}

-- the keys of mounts, compared exactly; `target`, `dst` and `destination` are one key, and so are `rw` and `readwrite`

-- the names of the target: `target`, `dst` and `destination`
abbrev pub is_target_name : List ℕ → Bool
is_target_name name = bytes_eq name (codes "target") || (bytes_eq name (codes "dst") || bytes_eq name (codes "destination"))

-- the names of the key that allows a bind to be written: `rw` and `readwrite`
abbrev pub is_writable_name : List ℕ → Bool
is_writable_name name = bytes_eq name (codes "rw") || bytes_eq name (codes "readwrite")

-- the key of a name
abbrev pub mount_key : List ℕ → Option Key
mount_key name = if is_target_name name then Some Target
    else (if is_writable_name name then Some Writable
    else (if bytes_eq name (codes "type") then Some Kind
    else (if bytes_eq name (codes "source") then Some Source
    else (if bytes_eq name (codes "from") then Some From
    else (if bytes_eq name (codes "id") then Some Id
    else (if bytes_eq name (codes "sharing") then Some Sharing else None))))))

-- an item is a key with a value; `rw` and `readwrite` may stand alone, which is as `rw=true`

-- the item of a text without `=`: only `rw` and `readwrite` stand so
abbrev pub item_alone : List ℕ → Option Item
item_alone name = if is_writable_name name then Some (Writable, codes "true") else None

-- the item of a text and what it is cut into at its first `=`
abbrev pub item_cut : List ℕ → Option (List ℕ × List ℕ) → Option Item
item_cut text None = item_alone text
item_cut text (Some cut) = option_map (λ key. (key, cut.1)) (mount_key cut.0)

-- the item that a text is, where its key is one of a mount's
unfoldable pub item_of : List ℕ → Option Item
item_of text = item_cut text (pair text)

-- the items of a list, where each text between its commas is one
abbrev pub items : List ℕ → Option (List Item)
items text = all_some (map item_of (slice_split (λ c. c == 44) text))

-- values

-- the ways of sharing
abbrev pub sharing_named : List ℕ → Option sharings.Sharing
sharing_named value = if bytes_eq value (codes "shared") then Some Shared
    else (if bytes_eq value (codes "private") then Some Private
    else (if bytes_eq value (codes "locked") then Some Locked else None))

-- whether a mount's key takes a value
abbrev pub takes : Key → List ℕ → Bool
takes Kind value = bytes_eq value (codes "bind") || bytes_eq value (codes "cache")
takes Target value = not (length value == 0)
takes Source value = not (length value == 0)
takes From value = not (length value == 0)
takes Writable value = is_truth value
takes Id value = not (length value == 0)
takes Sharing value = is_some (sharing_named value)

-- the keys that a bind and a cache know
abbrev pub is_known : Bool → Key → Bool
is_known is_cache Kind = true
is_known is_cache Target = true
is_known is_cache Source = not is_cache
is_known is_cache From = not is_cache
is_known is_cache Writable = not is_cache
is_known is_cache Id = is_cache
is_known is_cache Sharing = is_cache

-- without `type` it is a bind
abbrev pub is_cache_by : Option (List ℕ) → Bool
is_cache_by None = false
is_cache_by (Some value) = bytes_eq value (codes "cache")

-- whether items are those of a cache
abbrev pub is_cache : List Item → Bool
is_cache items = is_cache_by (value_at Kind items)

-- whether a cache, else a bind, knows an item's key, and the key takes its value
abbrev pub is_fitting : Bool → Item → Bool
is_fitting cache item = is_known cache item.0 && takes item.0 item.1

-- each item has a key that the mount's type knows and a value that this key takes, and no key is there twice
abbrev pub are_fitting : List Item → Bool
are_fitting items = list_all (is_fitting (is_cache items)) items && not (has_twice items)

-- the mount

-- without `rw` nothing is written
abbrev pub is_writable_by : Option (List ℕ) → Bool
is_writable_by None = false
is_writable_by (Some value) = bytes_eq value (codes "true")

-- without `sharing` it is shared
abbrev pub sharing_by : Option (List ℕ) → sharings.Sharing
sharing_by value = unwrap_or (option_and_then sharing_named value) Shared

-- what is mounted
abbrev pub kind_of : List Item → MountKind
kind_of items = if is_cache items then Cache (value_at Id items) (sharing_by (value_at Sharing items))
    else Bind (value_at Source items) (value_at From items) (is_writable_by (value_at Writable items))

-- the mount at a target
abbrev pub mount_at : List Item → List ℕ → Mount
mount_at items target = record { target = target; kind = kind_of items }

-- the mount of items, where they fit and there is a target
abbrev pub mount_from : List Item → Option Mount
mount_from items = if are_fitting items then option_map (mount_at items) (value_at Target items) else None

-- the mount of a text, if it is one
unfoldable pub mount_of : List ℕ → Option Mount
mount_of text = option_and_then mount_from (items text)

-- the flags of a RUN

-- `--mount` with a value that isn't empty is the one flag
abbrev pub is_mount_flag : Flag → Bool
is_mount_flag flag = is_named (codes "mount") flag && is_filled flag.value

-- whether these are flags of a RUN; `--mount` may be there more than once
unfoldable pub are_mount_flags : List Flag → Bool
are_mount_flags flags = list_all is_mount_flag flags

-- the mount that a flag's value is, if it is one
unfoldable pub mount_in : Flag → Option Mount
mount_in flag = option_and_then mount_of flag.value

-- the mounts that the values of flags are, in their order, where each is one
unfoldable pub mounts : List Flag → Option (List Mount)
mounts flags = all_some (map mount_in flags)
