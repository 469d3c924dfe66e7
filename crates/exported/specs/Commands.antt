-- What a command is in a definition (BuildKit's LLB, `ExecOp`, `Meta`, `Mount`).
use Rattle.std.specs.Prelude.{ℕ, ◌+◌, ℤ, pos, negsuc, false, not, Option, List, [], ◌∷◌, ◌++◌, map, codes}
use Rattle.paths.specs.Path.{text_of}
use Rattle.plain.specs.declared.variable.Variable.{Variable}
use Rattle.runs.specs.declared.run.CacheUse.{CacheUse}
use Rattle.llb.specs.declared.op.Bind.{Bind}
use Rattle.llb.specs.declared.op.Exec.{Exec}
use Rattle.llbmessages.specs.declared.exec.Network.{Network}
use Rattle.llbmessages.specs.declared.exec.Meta.{Meta}
use Rattle.llbmessages.specs.declared.exec.Mount.{Mount}
use Rattle.llbmessages.specs.declared.exec.MountKind.TheVariants.{Bind as BindMount, Cache as CacheMount}
use Rattle.llbmessages.specs.declared.exec.ExecOp.{ExecOp}
use Rattle.exported.specs.Places.{inputs_of, index_at}

-- a variable as a command is given it
abbrev pub variable_text : Variable → List ℕ
variable_text variable = variable.name ++ (codes "=" ++ variable.value)

-- a command, and what it runs with
unfoldable pub meta_of : Exec → Meta
meta_of exec = record { args = exec.words; env = map variable_text exec.env; cwd = text_of exec.dir; user = exec.user }

-- the part of a tree that is mounted: none is named for all of it
abbrev pub selector_of : List (List ℕ) → List ℕ
selector_of [] = []
selector_of (name ∷ names) = text_of (name ∷ names)

-- the tree that a command runs in, of which it makes the operation's
unfoldable pub root_mount : ℤ → Mount
root_mount index = record { input = index; selector = []; dest = text_of []; output = pos 0; readonly = false; kind = BindMount }

-- a bind mount: what is written there is no output
unfoldable pub bind_mount : ℤ → Bind → Mount
bind_mount index bind =
    record { input = index; selector = selector_of bind.source; dest = text_of bind.target; output = negsuc 0; readonly = not bind.rw; kind = BindMount }

-- a cache mount, which begins as an empty folder
unfoldable pub cache_mount : CacheUse → Mount
cache_mount cache =
    record {
      input = negsuc 0;
      selector = [];
      dest = text_of cache.target;
      output = negsuc 0;
      readonly = false;
      kind = CacheMount (record { id = cache.id; sharing = cache.sharing });
    }

-- bind mounts, each of the tree of its place; `number` is that of the first one's place
abbrev pub bind_mounts : List (List ℕ) → List (Option (List ℕ)) → ℕ → List Bind → List Mount
bind_mounts digests places number [] = []
bind_mounts digests places number (bind ∷ binds) =
    bind_mount (index_at digests places number) bind ∷ bind_mounts digests places (number + 1) binds

-- a command's mounts: the tree that it runs in, its bind mounts and its caches, in the order of the line (BuildKit itself puts those above before
-- those below)
unfoldable pub mounts_of : List (Option (List ℕ)) → Exec → List Mount
mounts_of places exec =
    (root_mount (index_at (inputs_of places) places 0) ∷ bind_mounts (inputs_of places) places 1 exec.binds) ++ map cache_mount exec.caches

-- a command on the trees of these places, with this network
unfoldable pub exec_of : Network → List (Option (List ℕ)) → Exec → ExecOp
exec_of network places exec = record { meta = meta_of exec; mounts = mounts_of places exec; network = network }
