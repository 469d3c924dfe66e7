-- What has to hold of the mounts of one RUN (Dockerfile reference, RUN --mount): no two of their targets lie in one another,
-- none is the root, and no cache is used twice.
use Rattle.std.specs.Prelude.{◌≡◌, ◌≢◌, ℕ, Bool, true, false, ◌&&◌, ◌||◌, List, [], ◌∷◌, ◌++◌, map, not, nat_eq, slice_get, Some}
use Rattle.std.specs.List.{list_any}
use Rattle.std.specs.Cmp.Lexicographic.{pointwise}
use Rattle.paths.specs.Path.{is_at_or_under}
use Rattle.runs.specs.declared.run.RunBind.{RunBind}
use Rattle.runs.specs.declared.run.CacheUse.{CacheUse}
use Rattle.runs.specs.declared.run.RunRequest.{RunRequest}

-- two targets that can't be mounted together: one is the other or lies below it
abbrev pub targets_clash : List (List ℕ) → List (List ℕ) → Bool
targets_clash p q = is_at_or_under p q || is_at_or_under q p

-- the root, which is no target
abbrev pub is_root : List (List ℕ) → Bool
is_root [] = true
is_root (c ∷ cs) = false

-- whether these targets can be mounted together: none is the root, and no two clash
abbrev pub mounts_fit : List (List (List ℕ)) → Bool
mounts_fit [] = true
mounts_fit (target ∷ targets) =
    not (is_root target) && (not (list_any (targets_clash target) targets) && mounts_fit targets)

-- whether no id stands twice
abbrev pub ids_differ : List (List ℕ) → Bool
ids_differ [] = true
ids_differ (id ∷ ids) = not (list_any (pointwise nat_eq id) ids) && ids_differ ids

-- the targets of a run's mounts: those of the binds, then those of the caches
abbrev pub targets_of : List RunBind → List CacheUse → List (List (List ℕ))
targets_of binds caches = map (λ bind. bind.target) binds ++ map (λ cache. cache.target) caches

-- the ids of the caches that a run uses
abbrev pub ids_of : List CacheUse → List (List ℕ)
ids_of caches = map (λ cache. cache.id) caches

-- whether the mounts of a run may stand together: what a caller of an executor owes
abbrev pub fits_request : RunRequest → Bool
fits_request request = mounts_fit (targets_of request.binds request.caches) && ids_differ (ids_of request.caches)

-- ---- the same, target by target and id by id

-- the targets may be mounted together: none is the root, and of no two positions one target is the other or lies below it.
pub record MountsFit (targets : List (List (List ℕ))) : Type 0 where
  pub below_root : (i : ℕ) (p : List (List ℕ)) → slice_get targets i ≡ Some p → p ≢ []
  pub apart : (i j : ℕ) (p q : List (List ℕ)) → i ≢ j → slice_get targets i ≡ Some p → slice_get targets j ≡ Some q → is_at_or_under p q ≡ false

-- no id is at two positions
pub record IdsDiffer (ids : List (List ℕ)) : Type 0 where
  pub once : (i j : ℕ) (id : List ℕ) → slice_get ids i ≡ Some id → slice_get ids j ≡ Some id → i ≡ j
