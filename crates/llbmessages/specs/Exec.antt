-- A command with its mounts (BuildKit's LLB, `ExecOp`, `Meta`, `Mount`, `CacheOpt`).
use Rattle.std.specs.Prelude.{ℕ, ◌==◌, if◌then◌else◌, Option, Some, None, option_map, List, [], ◌∷◌, ◌++◌}
use Rattle.std.specs.Option.{option_and_then}
use Rattle.std.specs.Int.{w64}
use Rattle.std.specs.Int.RustNames.{FitsSigned}
use Rattle.std.specs.List.{AllByRecursion}
use Rattle.plain.specs.declared.sharing.Sharing.{Sharing}
use Rattle.plain.specs.declared.sharing.Sharing.TheVariants.{Shared, Private, Locked}
use Rattle.wire.specs.Fields.{Field, number}
use Rattle.wire.specs.Kinds.{number_field, int_field, flag_field, bytes_field, texts_field, message_field, messages_field, number_at, int_at, flag_at, bytes_at, blocks_of, joined, message_at, messages_at, read_as}
use Rattle.llbmessages.specs.declared.exec.Network.{Network}
use Rattle.llbmessages.specs.declared.exec.Network.TheVariants.{Sandbox, Host, None as NoNetwork}
use Rattle.llbmessages.specs.declared.exec.Meta.{Meta}
use Rattle.llbmessages.specs.declared.exec.CacheOpt.{CacheOpt}
use Rattle.llbmessages.specs.declared.exec.MountKind.{MountKind}
use Rattle.llbmessages.specs.declared.exec.MountKind.TheVariants.{Bind, Cache}
use Rattle.llbmessages.specs.declared.exec.Mount.{Mount}
use Rattle.llbmessages.specs.declared.exec.ExecOp.{ExecOp}

-- ---- written

-- a network's number
abbrev pub network_number : Network → ℕ
network_number Sandbox = 0
network_number Host = 1
network_number NoNetwork = 2

-- the fields of a command
unfoldable pub meta_fields : Meta → List Field
meta_fields meta = texts_field 1 meta.args ++ texts_field 2 meta.env ++ bytes_field 3 meta.cwd ++ bytes_field 4 meta.user

-- the number of a way of sharing
abbrev pub sharing_number : Sharing → ℕ
sharing_number Shared = 0
sharing_number Private = 1
sharing_number Locked = 2

-- the fields of a mount's cache
unfoldable pub cache_fields : CacheOpt → List Field
cache_fields cache = bytes_field 1 cache.id ++ number_field 2 (sharing_number cache.sharing)

-- what a mount is: a bind is of type 0, which isn't written; a cache is of type 3, and it is said which
unfoldable pub mount_kind_fields : MountKind → List Field
mount_kind_fields Bind = []
mount_kind_fields (Cache cache) = number 6 3 ∷ [] ++ message_field 20 (cache_fields cache)

-- the fields of a mount
unfoldable pub mount_fields : Mount → List Field
mount_fields mount =
    int_field 1 mount.input ++ bytes_field 2 mount.selector ++ bytes_field 3 mount.dest ++ int_field 4 mount.output
    ++ flag_field 5 mount.readonly ++ mount_kind_fields mount.kind

-- the fields of a command with its mounts
unfoldable pub exec_fields : ExecOp → List Field
exec_fields exec = message_field 1 (meta_fields exec.meta) ++ messages_field mount_fields 2 exec.mounts ++ number_field 3 (network_number exec.network)

-- ---- read

-- the network of a number
abbrev pub network_of : ℕ → Option Network
network_of n = if n == 0 then Some Sandbox else if n == 1 then Some Host else if n == 2 then Some NoNetwork else None

-- what the fields of a command are read as
unfoldable pub meta_of : List Field → Option Meta
meta_of fields = Some (record { args = blocks_of 1 fields; env = blocks_of 2 fields; cwd = bytes_at 3 fields; user = bytes_at 4 fields })

-- the way of sharing of a number
abbrev pub sharing_of : ℕ → Option Sharing
sharing_of n = if n == 0 then Some Shared else if n == 1 then Some Private else if n == 2 then Some Locked else None

-- what the fields of a mount's cache are read as
unfoldable pub cache_of : List Field → Option CacheOpt
cache_of fields = option_map (λ sharing. record { id = bytes_at 1 fields; sharing = sharing }) (sharing_of (number_at 2 fields))

-- what a mount is, by its type and by the cache that is set
abbrev pub mount_kind_read : ℕ → Option (List ℕ) → Option MountKind
mount_kind_read type cache =
    if type == 0 then Some Bind else if type == 3 then option_map Cache (option_and_then (read_as cache_of) cache) else None

-- what the fields of a mount say that it is
abbrev pub mount_kind_of : List Field → Option MountKind
mount_kind_of fields = mount_kind_read (number_at 6 fields) (joined (blocks_of 20 fields))

-- what the fields of a mount are read as
unfoldable pub mount_of : List Field → Option Mount
mount_of fields =
    option_map
    (λ kind. record { input = int_at 1 fields; selector = bytes_at 2 fields; dest = bytes_at 3 fields; output = int_at 4 fields; readonly = flag_at 5 fields; kind = kind })
    (mount_kind_of fields)

-- what the fields of a command with its mounts are read as
unfoldable pub exec_of : List Field → Option ExecOp
exec_of fields =
    option_and_then
    (λ meta. option_and_then
    (λ mounts. option_map (λ network. record { meta = meta; mounts = mounts; network = network }) (network_of (number_at 3 fields)))
    (messages_at (read_as mount_of) 2 fields))
    (message_at (read_as meta_of) 1 fields)

-- ---- numbers with a sign have 64 bits

-- those of a mount
abbrev pub FitsMount : Mount → Type 0
FitsMount mount = FitsSigned w64 mount.input × FitsSigned w64 mount.output

-- those of a command's mounts
abbrev pub FitsExec : ExecOp → Type 0
FitsExec exec = AllByRecursion FitsMount exec.mounts
