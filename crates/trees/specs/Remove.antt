-- A path that is taken away with all that lies below it, as `rm -r` of POSIX does it. That the root can't go is own.
use Rattle.std.specs.Prelude.{ℕ, not, Option, Some, None, List, [], ◌∷◌, is_some, if◌then◌else◌}
use Rattle.std.specs.FinMap.{get, retain_keys}
use Rattle.paths.specs.Path.{is_at_or_under}
use Rattle.trees.specs.declared.cause.Cause.{Cause}
use Rattle.trees.specs.declared.cause.Cause.TheVariants.{F1}
use Rattle.trees.specs.TreeMap.{TreeMap}
use Rattle.trees.specs.Cause.{TreeOrCause, tree_or}

-- the tree without a path and all that lies below it
abbrev pub without : TreeMap → List (List ℕ) → TreeMap
without tree path = retain_keys tree (λ q. not (is_at_or_under q path))

-- why a path can't be taken away, if it can't: nothing stands there, or it is the root
abbrev pub remove_cause : TreeMap → List (List ℕ) → Option Cause
remove_cause tree [] = Some F1
remove_cause tree (c ∷ cs) = if is_some (get tree (c ∷ cs)) then None else Some F1

-- the tree without a path and all that lies below it, or the cause why it can't be taken away
abbrev pub removed : TreeMap → List (List ℕ) → TreeOrCause
removed tree path = tree_or (remove_cause tree path) (without tree path)
