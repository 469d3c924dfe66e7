-- What the fixture's commands change: one path each, in the root, in a bind's tree or in a cache (own).
use Rattle.std.specs.Prelude.{ℕ, Bool, true, false, Option, Some, None, Result, Ok, Err, List, [], ◌∷◌, ◌++◌, slice_get, slice_set, refl}
use Rattle.std.specs.Coded.{Coded, code_by, coded×, coded_list, coded_option}
use Rattle.std.specs.FinMap.{get}
use Rattle.trees.specs.declared.entry.Entry.{Entry}
use Rattle.trees.specs.declared.entry.Entry.TheVariants.{Directory, File}
use Rattle.trees.specs.TreeMap.{TreeMap}
use Rattle.trees.specs.contracts.tree.Tree as tree
use Rattle.trees.specs.Cause.{TreeOrCause}
use Rattle.trees.specs.Put.{written}
use Rattle.trees.specs.Remove.{removed}
use Rattle.runs.specs.declared.run.RunBind.{RunBind}
use Rattle.runs.specs.declared.run.RunRequest.{RunRequest}
use Rattle.executor.specs.declared.edit.Change.{Change}
use Rattle.executor.specs.declared.edit.Change.TheVariants.{Write, Bump, Remove}
use Rattle.executor.specs.declared.edit.Edit.{Edit}
use Rattle.executor.specs.Places.{Place, InCache, InBind, InRoot, place_of}

-- the bytes of a file, if one stands there
abbrev pub bytes_of : Option Entry → Option (List ℕ)
bytes_of None = None
bytes_of (Some (Directory meta)) = None
bytes_of (Some (File meta content)) = Some content

-- the bytes of a file, or none where no file stands there
abbrev pub bytes_or_none : Option (List ℕ) → List ℕ
bytes_or_none None = []
bytes_or_none (Some bytes) = bytes

-- A tree with a change at a path, or why the change can't be made: a file holds these bytes; a `+` is added to a file, which is made if
-- it is missing; the path goes with all below it, which it can't where nothing stands there, nor at the top of the tree.
abbrev pub changed : TreeMap → List (List ℕ) → Change → TreeOrCause
changed tree path (Write bytes) = written tree path bytes
changed tree path Bump = written tree path (bytes_or_none (bytes_of (get tree path)) ++ 43 ∷ [])
changed tree path Remove = removed tree path

-- What the commands of a run see, but for what caches hold: the root, and the tree of each bind that was written to, in the order of the
-- request's binds. A bind that wasn't is as it was mounted.
pub record SightValue : Type 0 where
  pub root : TreeMap
  pub own : List (Option TreeMap)

-- by which a proof tells two sights apart
pub sight_code : Coded SightValue
sight_code = code_by (TreeMap × List (Option TreeMap)) (coded× tree.the_row.coded (coded_list (coded_option tree.the_row.coded))) (λ s. (s.root, s.own)) (λ t. record { root = t.0; own = t.1 }) (λ _. refl)

-- no bind was written to
abbrev pub none_own : List RunBind → List (Option TreeMap)
none_own [] = []
none_own (bind ∷ binds) = None ∷ none_own binds

-- what the first command of a run sees
abbrev pub first_sight : RunRequest → SightValue
first_sight request = record { root = request.root; own = none_own request.binds }

-- the tree of a bind: the one that was written, if there is one
abbrev pub tree_or_mounted : Option (Option TreeMap) → RunBind → TreeMap
tree_or_mounted None bind = bind.tree
tree_or_mounted (Some None) bind = bind.tree
tree_or_mounted (Some (Some tree)) bind = tree

-- the tree of a bind, by its number
abbrev pub bind_tree : SightValue → ℕ → RunBind → TreeMap
bind_tree sight number bind = tree_or_mounted (slice_get sight.own number) bind

-- what a command sees next, or the status that it ends with
abbrev pub SightOrStatus : Type 0
SightOrStatus = Result SightValue ℕ

-- another root, or status 1 where there is none
abbrev pub with_root : SightValue → TreeOrCause → SightOrStatus
with_root sight (Ok tree) = Ok (record sight { root = tree })
with_root sight (Err cause) = Err 1

-- another tree of a bind, or status 1 where there is none
abbrev pub with_bind : SightValue → ℕ → TreeOrCause → SightOrStatus
with_bind sight number (Ok tree) = Ok (record sight { own = slice_set sight.own number (Some tree) })
with_bind sight number (Err cause) = Err 1

-- a bind that is only read is never changed: status 1
abbrev pub with_bind_if : Bool → SightValue → ℕ → TreeOrCause → SightOrStatus
with_bind_if true sight number tree = with_bind sight number tree
with_bind_if false sight number tree = Err 1

-- What is seen after a change at a place. In a cache it always succeeds, and what is seen stays: so no status and no root depends on what a
-- cache holds.
abbrev pub seen_after : SightValue → Change → Place → SightOrStatus
seen_after sight change (InCache number path) = Ok sight
seen_after sight change (InBind number bind path) =
    with_bind_if bind.rw sight number (changed (bind_tree sight number bind) path change)
seen_after sight change (InRoot path) = with_root sight (changed sight.root path change)

-- the caches with another tree in one of them; as they were where it can't be made
abbrev pub with_cache : List TreeMap → ℕ → TreeOrCause → List TreeMap
with_cache caches number (Ok tree) = slice_set caches number tree
with_cache caches number (Err cause) = caches

-- the caches with a change in one of them
abbrev pub with_change : List TreeMap → ℕ → List (List ℕ) → Change → Option TreeMap → List TreeMap
with_change caches number path change None = caches
with_change caches number path change (Some tree) = with_cache caches number (changed tree path change)

-- what caches hold after a change at a place: only one in a cache changes what they hold, and only where that allows it
abbrev pub held_after : List TreeMap → Change → Place → List TreeMap
held_after caches change (InCache number path) = with_change caches number path change (slice_get caches number)
held_after caches change (InBind number bind path) = caches
held_after caches change (InRoot path) = caches

-- what is seen after a command's edit, if it makes one
abbrev pub seen_with : RunRequest → SightValue → Option Edit → SightOrStatus
seen_with request sight None = Ok sight
seen_with request sight (Some edit) = seen_after sight edit.change (place_of request edit.path)

-- what caches hold after a command's edit, if it makes one
abbrev pub held_with : RunRequest → List TreeMap → Option Edit → List TreeMap
held_with request caches None = caches
held_with request caches (Some edit) = held_after caches edit.change (place_of request edit.path)
