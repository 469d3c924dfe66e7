-- The mounts of a RUN whose paths were read, as far as they can be.
use Rattle.std.specs.Prelude.{ℕ, Bool, List, ◌++◌, Option, Some, None, map}
use Rattle.plain.specs.declared.sharing.Sharing.{Sharing}
use Rattle.std.specs.List.{filter_map}
use Rattle.paths.specs.Path.{text_of}
use Rattle.runs.specs.declared.run.CacheUse.{CacheUse}
use Rattle.llb.specs.declared.op.Bind.{Bind}
use Rattle.options.specs.declared.mount.Mount.{Mount}
use Rattle.options.specs.declared.mount.MountKind.{MountKind}
use Rattle.options.specs.declared.mount.MountKind.TheVariants.{Bind as BindOf, Cache as CacheOf}
use Rattle.actions.specs.PrivateTexts.{within}
use Rattle.actions.specs.Run.{target_in, binds_of, known_id}
use Rattle.actions.specs.declared.mounts.ReadBind.{ReadBind}
use Rattle.actions.specs.declared.mounts.ReadCache.{ReadCache}

-- a bind
abbrev pub read_bind : Bind → ReadBind
read_bind bind = record { rw = bind.rw; source = within bind.source; target = within bind.target }

-- the binds among some mounts
abbrev pub read_binds : List (List ℕ) → List Mount → List ReadBind
read_binds dir mounts = map read_bind (binds_of dir mounts)

-- a cache at a target, where the mount is one
abbrev pub read_cache_at : List (List ℕ) → MountKind → Option ReadCache
read_cache_at target (BindOf source from is_writable) = None
read_cache_at target (CacheOf id sharing) = Some (record { id = known_id target (CacheOf id sharing); sharing = sharing; target = within target })

-- the caches among some mounts
abbrev pub read_caches : List (List ℕ) → List Mount → List ReadCache
read_caches dir mounts = filter_map (λ mount. read_cache_at (target_in dir mount) mount.kind) mounts

-- the id of a cache at a target that may have been read
abbrev pub id_from : Option (List ℕ) → Option (List (List ℕ)) → Option (List ℕ)
id_from None None = None
id_from None (Some target) = Some (text_of target)
id_from (Some id) target = Some id

-- the targets that were read, those of the binds first
abbrev pub read_targets : List ReadBind → List ReadCache → List (List (List ℕ))
read_targets binds caches = filter_map (λ (bind : ReadBind). bind.target) binds ++ filter_map (λ (cache : ReadCache). cache.target) caches

-- the ids that are known
abbrev pub read_ids : List ReadCache → List (List ℕ)
read_ids caches = filter_map (λ (cache : ReadCache). cache.id) caches

-- a bind of a source and a target, where both were read
abbrev pub bind_from : Bool → Option (List (List ℕ)) → Option (List (List ℕ)) → Option Bind
bind_from rw None target = None
bind_from rw (Some source) None = None
bind_from rw (Some source) (Some target) = Some (record { rw = rw; source = source; target = target })

-- a bind both of whose paths were read
abbrev pub whole_bind : ReadBind → Option Bind
whole_bind bind = bind_from bind.rw bind.source bind.target

-- a cache of an id and a target, where the one is known and the other was read
abbrev pub cache_from : Option (List ℕ) → Sharing → Option (List (List ℕ)) → Option CacheUse
cache_from None sharing target = None
cache_from (Some id) sharing None = None
cache_from (Some id) sharing (Some target) = Some (record { id = id; sharing = sharing; target = target })

-- a cache whose target was read
abbrev pub whole_cache : ReadCache → Option CacheUse
whole_cache cache = cache_from cache.id cache.sharing cache.target
