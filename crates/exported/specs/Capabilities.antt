-- What an engine has to be capable of to run an operation (BuildKit's LLB, `OpMetadata`; BuildKit, `addCap` in client/llb; the names are those
-- of solver/pb/caps.go). One that isn't refuses the definition, and names what it isn't capable of.
use Rattle.std.specs.Prelude.{ℕ, pos, Bool, true, false, not, ◌&&◌, ◌==◌, List, [], ◌∷◌, ◌++◌, codes, length, nat_eq, int_le, if◌then◌else◌}
use Rattle.std.specs.List.{starts_with}
use Rattle.std.specs.BTreeMap.{insert_entry}
use Rattle.paths.specs.Order.{name_cmp}
use Rattle.llbmessages.specs.declared.source.SourceOp.{SourceOp}
use Rattle.llbmessages.specs.declared.exec.Network.{Network}
use Rattle.llbmessages.specs.declared.exec.Network.TheVariants.{Sandbox, Host, None as NoNetwork}
use Rattle.llbmessages.specs.declared.exec.Mount.{Mount}
use Rattle.llbmessages.specs.declared.exec.MountKind.{MountKind}
use Rattle.llbmessages.specs.declared.exec.MountKind.TheVariants.{Bind, Cache}
use Rattle.llbmessages.specs.declared.exec.ExecOp.{ExecOp}
use Rattle.llbmessages.specs.declared.op.OpKind.{OpKind}
use Rattle.llbmessages.specs.declared.op.OpKind.TheVariants.{End, Exec, Source, File, Merge}

-- capabilities in the order of their names, each of which is asked for
abbrev pub Caps : Type 0
Caps = List (List ℕ × Bool)

-- capabilities with one more, if it is asked for
abbrev pub with_cap : Bool → List ℕ → Caps → Caps
with_cap asked name caps = if asked then insert_entry name_cmp caps name true else caps

-- ---- a source (BuildKit, client/llb/source.go)

-- an attribute is a capability, whose name has `source.` before the attribute's
abbrev pub attribute_caps : List (List ℕ × List ℕ) → Caps → Caps
attribute_caps [] caps = caps
attribute_caps (attribute ∷ attributes) caps = attribute_caps attributes (with_cap true (codes "source." ++ attribute.0) caps)

-- files of the build with what is said of them, or an image
unfoldable pub source_caps : SourceOp → Caps
source_caps source =
    if starts_with nat_eq source.identifier (codes "local://") then attribute_caps source.attrs (with_cap true (codes "source.local") [])
    else with_cap true (codes "source.image") []

-- ---- a command (BuildKit, client/llb/exec.go)

-- whether a network is another one than an engine gives by itself
abbrev pub is_chosen : Network → Bool
is_chosen Sandbox = false
is_chosen Host = true
is_chosen NoNetwork = true

-- what a mount is: a bind, of a tree that an operation makes; one that is written to though no output is made of it (own, after BuildKit's
-- front end, which makes none that an engine isn't capable of); or a cache
abbrev pub mount_kind_caps : MountKind → Mount → Caps → Caps
mount_kind_caps Bind mount caps =
    with_cap (not mount.readonly && not (int_le (pos 0) mount.output)) (codes "exec.mount.bind.readwrite-nooutput")
    (with_cap (int_le (pos 0) mount.input) (codes "exec.mount.bind") caps)
mount_kind_caps (Cache cache) mount caps = with_cap true (codes "exec.mount.cache.sharing") (with_cap true (codes "exec.mount.cache") caps)

-- a mount, of a part of a tree or of all of it
unfoldable pub mount_caps : Mount → Caps → Caps
mount_caps mount caps = mount_kind_caps mount.kind mount (with_cap (not (length mount.selector == 0)) (codes "exec.mount.selector") caps)

-- mounts one after another
abbrev pub mounts_caps : List Mount → Caps → Caps
mounts_caps [] caps = caps
mounts_caps (mount ∷ mounts) caps = mounts_caps mounts (mount_caps mount caps)

-- a command with its mounts
unfoldable pub exec_caps : ExecOp → Caps
exec_caps exec =
    mounts_caps exec.mounts (with_cap (is_chosen exec.network) (codes "exec.meta.network") (with_cap true (codes "exec.meta.base") []))

-- ---- any operation

-- what an operation does: changes of files are one capability, whatever they are (BuildKit, client/llb/fileop.go), and so is a merge
-- (client/llb/merge.go); at the end stand those of the definition itself (client/llb/state.go, `Marshal`)
abbrev pub kind_caps : OpKind → Caps
kind_caps End = with_cap true (codes "platform") (with_cap true (codes "constraints") [])
kind_caps (Exec exec) = exec_caps exec
kind_caps (Source source) = source_caps source
kind_caps (File file) = with_cap true (codes "file.base") []
kind_caps (Merge merge) = with_cap true (codes "mergeop") []
