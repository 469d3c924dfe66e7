-- Commands with their mounts are read as they were written.
use Rattle.std.proofs.Common.{◌≡◌, Some, option_map, [], refl, ap}
use Rattle.std.specs.Option.{option_and_then}
use Rattle.wire.specs.Kinds.{message_field, numbers_of, blocks_of, last_or, number_at, int_at, flag_at, bytes_at, joined, read_as, message_at, messages_at}
use Rattle.wire.proofs.ReadLemmas.{reads, some_number, last-int, last-flag, last-bytes, ReadsBack, fields-back, set-back, each-back, all_map}
use Rattle.plain.specs.declared.sharing.Sharing.{Sharing}
use Rattle.plain.specs.declared.sharing.Sharing.TheVariants.{Shared, Private, Locked}
use Rattle.llbmessages.specs.declared.exec.Network.{Network}
use Rattle.llbmessages.specs.declared.exec.Network.TheVariants.{Sandbox, Host, None as NoNetwork}
use Rattle.llbmessages.specs.declared.exec.Meta.{Meta}
use Rattle.llbmessages.specs.declared.exec.CacheOpt.{CacheOpt}
use Rattle.llbmessages.specs.declared.exec.MountKind.{MountKind}
use Rattle.llbmessages.specs.declared.exec.MountKind.TheVariants.{Bind, Cache}
use Rattle.llbmessages.specs.declared.exec.Mount.{Mount}
use Rattle.llbmessages.specs.declared.exec.ExecOp.{ExecOp}
use Rattle.llbmessages.specs.Exec.{network_number, meta_fields, sharing_number, cache_fields, mount_kind_fields, mount_fields, exec_fields, network_of, meta_of, sharing_of, cache_of, mount_kind_read, mount_of, exec_of, FitsMount, FitsExec}

network-back : (network : Network) → network_of (last_or 0 (some_number (network_number network))) ≡ Some network
network-back Sandbox = refl
network-back Host = refl
network-back NoNetwork = refl

meta-back : (meta : Meta) → meta_of (meta_fields meta) ≡ Some meta
unfolding meta_of meta_fields
meta-back meta =
    let args : blocks_of 1 (meta_fields meta) ≡ meta.args = simp reads refl in
    let env : blocks_of 2 (meta_fields meta) ≡ meta.env = simp reads refl in
    let cwd : bytes_at 3 (meta_fields meta) ≡ meta.cwd = simp reads (last-bytes meta.cwd) in
    let user : bytes_at 4 (meta_fields meta) ≡ meta.user = simp reads (last-bytes meta.user) in
    λ i. Some (record { args = args i; env = env i; cwd = cwd i; user = user i })

sharing-back : (sharing : Sharing) → sharing_of (last_or 0 (some_number (sharing_number sharing))) ≡ Some sharing
sharing-back Shared = refl
sharing-back Private = refl
sharing-back Locked = refl

cache-back : (cache : CacheOpt) → cache_of (cache_fields cache) ≡ Some cache
unfolding cache_of cache_fields
cache-back cache =
    let id : bytes_at 1 (cache_fields cache) ≡ cache.id = simp reads (last-bytes cache.id) in
    let sharing : sharing_of (number_at 2 (cache_fields cache)) ≡ Some cache.sharing = simp reads (sharing-back cache.sharing) in
    λ i. option_map (λ sharing. record { id = id i; sharing = sharing }) (sharing i)

-- what a mount is stands in the fields 6 and 20
kind-numbers-1 : (kind : MountKind) → numbers_of 1 (mount_kind_fields kind) ≡ []
unfolding mount_kind_fields numbers_of message_field
kind-numbers-1 Bind = refl
kind-numbers-1 (Cache cache) = refl

kind-numbers-4 : (kind : MountKind) → numbers_of 4 (mount_kind_fields kind) ≡ []
unfolding mount_kind_fields numbers_of message_field
kind-numbers-4 Bind = refl
kind-numbers-4 (Cache cache) = refl

kind-numbers-5 : (kind : MountKind) → numbers_of 5 (mount_kind_fields kind) ≡ []
unfolding mount_kind_fields numbers_of message_field
kind-numbers-5 Bind = refl
kind-numbers-5 (Cache cache) = refl

kind-blocks-2 : (kind : MountKind) → blocks_of 2 (mount_kind_fields kind) ≡ []
unfolding mount_kind_fields blocks_of message_field
kind-blocks-2 Bind = refl
kind-blocks-2 (Cache cache) = refl

kind-blocks-3 : (kind : MountKind) → blocks_of 3 (mount_kind_fields kind) ≡ []
unfolding mount_kind_fields blocks_of message_field
kind-blocks-3 Bind = refl
kind-blocks-3 (Cache cache) = refl

kind-back : (kind : MountKind)
    → mount_kind_read (last_or 0 (numbers_of 6 (mount_kind_fields kind))) (joined (blocks_of 20 (mount_kind_fields kind))) ≡ Some kind
unfolding mount_kind_fields numbers_of blocks_of message_field
kind-back Bind = refl
kind-back (Cache cache) = ap (option_map Cache) (set-back cache_fields (read_as cache_of) cache (fields-back cache_fields cache_of cache (cache-back cache)))

ruleset mount_reads = (reads, kind-numbers-1, kind-numbers-4, kind-numbers-5, kind-blocks-2, kind-blocks-3)

mount-back : (mount : Mount) → FitsMount mount → mount_of (mount_fields mount) ≡ Some mount
unfolding mount_of mount_fields
mount-back mount fits =
    let input : int_at 1 (mount_fields mount) ≡ mount.input = simp mount_reads (last-int mount.input fits.0) in
    let selector : bytes_at 2 (mount_fields mount) ≡ mount.selector = simp mount_reads (last-bytes mount.selector) in
    let dest : bytes_at 3 (mount_fields mount) ≡ mount.dest = simp mount_reads (last-bytes mount.dest) in
    let output : int_at 4 (mount_fields mount) ≡ mount.output = simp mount_reads (last-int mount.output fits.1) in
    let readonly : flag_at 5 (mount_fields mount) ≡ mount.readonly = simp mount_reads (last-flag mount.readonly) in
    let kind : mount_kind_read (number_at 6 (mount_fields mount)) (joined (blocks_of 20 (mount_fields mount))) ≡ Some mount.kind =
    simp mount_reads (kind-back mount.kind) in
    λ i. option_map
    (λ kind. record { input = input i; selector = selector i; dest = dest i; output = output i; readonly = readonly i; kind = kind }) (kind i)

pub exec-back : (exec : ExecOp) → FitsExec exec → exec_of (exec_fields exec) ≡ Some exec
unfolding exec_of exec_fields
exec-back exec fits =
    let meta : message_at (read_as meta_of) 1 (exec_fields exec) ≡ Some exec.meta =
    simp reads (fields-back meta_fields meta_of exec.meta (meta-back exec.meta)) in
    let mounts : messages_at (read_as mount_of) 2 (exec_fields exec) ≡ Some exec.mounts =
    simp reads (each-back mount_fields (read_as mount_of) exec.mounts
    (all_map FitsMount (ReadsBack mount_fields (read_as mount_of)) exec.mounts
    (λ mount fit. fields-back mount_fields mount_of mount (mount-back mount fit)) fits)) in
    let network : network_of (number_at 3 (exec_fields exec)) ≡ Some exec.network = simp reads (network-back exec.network) in
    λ i. option_and_then
    (λ meta. option_and_then
    (λ mounts. option_map (λ network. record { meta = meta; mounts = mounts; network = network }) (network i))
    (mounts i))
    (meta i)
