-- What a RUN does, where it stands in a stage, and which codes are due for it there (Dockerfile reference, RUN, RUN --mount, SHELL and
-- USER; BuildKit's LLB, the exec operation).
use Rattle.std.specs.Prelude.{ℕ, ◌||◌, Bool, true, false, not, List, [], ◌++◌, map, filter, Option, Some, None, if◌then◌else◌}
use Rattle.std.specs.List.{filter_map, list_any}
use Rattle.plain.specs.declared.refusal.Code.{Code}
use Rattle.plain.specs.declared.refusal.Code.TheVariants.{R17, R18}
use Rattle.paths.specs.Path.{text_of}
use Rattle.paths.specs.Reading.{read_from}
use Rattle.runs.specs.Run.{mounts_fit, ids_differ}
use Rattle.runs.specs.declared.run.CacheUse.{CacheUse}
use Rattle.llb.specs.declared.op.Bind.{Bind}
use Rattle.llb.specs.declared.op.Exec.{Exec}
use Rattle.rows.specs.declared.row.Action.{Action}
use Rattle.rows.specs.declared.row.Action.TheVariants.{Run}
use Rattle.rows.specs.declared.row.Origin.{Origin}
use Rattle.options.specs.declared.mount.Mount.{Mount}
use Rattle.options.specs.declared.mount.MountKind.{MountKind}
use Rattle.options.specs.declared.mount.MountKind.TheVariants.{Bind as BindOf, Cache as CacheOf}
use Rattle.instructions.specs.declared.instruction.Command.{Command}
use Rattle.instructions.specs.Command.{words_of}
use Rattle.scopes.specs.Scope.{run_env}
use Rattle.scopes.specs.declared.declaration.Declaration.{Declaration}
use Rattle.actions.specs.Texts.{is_within}

-- the mounts

-- where a mount stands: a relative target begins at the working directory
abbrev pub target_in : List (List ℕ) → Mount → List (List ℕ)
target_in dir mount = read_from mount.target dir

-- the folder of a bind, which begins at the root of its tree; the root itself where none is written
abbrev pub folder_of : Option (List ℕ) → List (List ℕ)
folder_of None = []
folder_of (Some text) = read_from text []

-- the bind at a target, where the mount is one
abbrev pub bind_at : List (List ℕ) → MountKind → Option Bind
bind_at target (BindOf source from is_writable) = Some (record { rw = is_writable; source = folder_of source; target = target })
bind_at target (CacheOf id sharing) = None

-- the binds among some mounts, in their order
abbrev pub binds_of : List (List ℕ) → List Mount → List Bind
binds_of dir mounts = filter_map (λ mount. bind_at (target_in dir mount) mount.kind) mounts

-- the id of a cache: the target's path as a text where none is written (own)
abbrev pub id_at : List (List ℕ) → Option (List ℕ) → List ℕ
id_at target None = text_of target
id_at target (Some id) = id

-- the cache at a target, where the mount is one
abbrev pub cache_at : List (List ℕ) → MountKind → Option CacheUse
cache_at target (BindOf source from is_writable) = None
cache_at target (CacheOf id sharing) = Some (record { id = id_at target id; sharing = sharing; target = target })

-- the caches among some mounts, in their order
abbrev pub caches_of : List (List ℕ) → List Mount → List CacheUse
caches_of dir mounts = filter_map (λ mount. cache_at (target_in dir mount) mount.kind) mounts

-- the operation of a command with these mounts, its surroundings being what ENV and ARG declared before it, the working directory, the
-- user and the shell's words
abbrev pub exec_of : List Declaration → List (List ℕ) → List ℕ → List (List ℕ) → List Bind → List CacheUse → Command → Exec
exec_of scope dir user shell binds caches command = record {
  binds = binds;
  caches = caches;
  dir = dir;
  env = run_env scope;
  user = user;
  words = words_of shell command;
}

-- what a RUN does in its surroundings: the trees of its binds come from the origins, one for each in their order
abbrev pub run_action : List Declaration → List (List ℕ) → List ℕ → List (List ℕ) → List Mount → Command → List Origin → Action
run_action scope dir user shell mounts command origins = Run (exec_of scope dir user shell (binds_of dir mounts) (caches_of dir mounts) command) origins

-- what is due

-- where the mounts stand: the binds, and then the caches
abbrev pub targets_in : List (List ℕ) → List Mount → List (List (List ℕ))
targets_in dir mounts = map (λ (bind : Bind). bind.target) (binds_of dir mounts) ++ map (λ (cache : CacheUse). cache.target) (caches_of dir mounts)

-- the id of a cache, where it is known: one that isn't written is that of a target that can be read, and else there is none (own)
abbrev pub known_id : List (List ℕ) → MountKind → Option (List ℕ)
known_id target (BindOf source from is_writable) = None
known_id target (CacheOf None sharing) = if is_within target then Some (text_of target) else None
known_id target (CacheOf (Some id) sharing) = Some id

-- the ids that are known
abbrev pub known_ids : List (List ℕ) → List Mount → List (List ℕ)
known_ids dir mounts = filter_map (λ mount. known_id (target_in dir mount) mount.kind) mounts

-- whether the folder of a bind can't be read
abbrev pub has_far_folder : MountKind → Bool
has_far_folder (BindOf source from is_writable) = not (is_within (folder_of source))
has_far_folder (CacheOf id sharing) = false

-- whether a path of a mount can't be read, since it is past the limits
abbrev pub is_unreadable : List (List ℕ) → Mount → Bool
is_unreadable dir mount = not (is_within (target_in dir mount)) || has_far_folder mount.kind

-- the codes that are due for a RUN with these mounts: targets that can't be mounted together and an id that is there twice are R17, paths
-- past the limits R18. A target that can't be read is compared with no other (own)
abbrev pub run_due : List (List ℕ) → List Mount → Code → Bool
run_due dir mounts R17 = not (mounts_fit (filter is_within (targets_in dir mounts))) || not (ids_differ (known_ids dir mounts))
run_due dir mounts R18 = list_any (is_unreadable dir) mounts
run_due dir mounts code = false

-- what a caller knows

-- whether a mount is a bind
abbrev pub is_bind : MountKind → Bool
is_bind (BindOf source from is_writable) = true
is_bind (CacheOf id sharing) = false
