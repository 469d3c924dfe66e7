-- One placement: an entry is put at a path, as a command that writes a file does it. It is what one entry of a COPY does to a
-- tree (Dockerfile reference, COPY), but for what COPY asks of its placements together: that no two are of one path (`F3`).
use Rattle.std.specs.Prelude.{ℕ, Option, Some, None, List, [], ◌∷◌, length, is_some, cond, if◌then◌else◌, nat_lt}
use Rattle.std.specs.Option.{option_or}
use Rattle.std.specs.Ordering.{eq_by_cmp}
use Rattle.std.specs.FinMap.{get, insert}
use Rattle.paths.specs.Order.{path_cmp}
use Rattle.plain.specs.Limits.{most_components}
use Rattle.trees.specs.declared.meta.Meta.{Meta}
use Rattle.trees.specs.declared.entry.Entry.{Entry}
use Rattle.trees.specs.declared.entry.Entry.TheVariants.{Directory, File}
use Rattle.trees.specs.declared.cause.Cause.{Cause}
use Rattle.trees.specs.declared.cause.Cause.TheVariants.{F2, F4, F5}
use Rattle.paths.specs.Fronts.{fronts, is_front}
use Rattle.trees.specs.TreeMap.{TreeMap, directory_meta, file_meta, is_blocked}
use Rattle.trees.specs.Cause.{TreeOrCause, tree_or}

-- why an entry can't stand where another one stands: no directory takes a file's place, and no file a directory's
abbrev pub clash_of : Option Entry → Entry → Option Cause
clash_of None entry = None
clash_of (Some (Directory meta)) (Directory new) = None
clash_of (Some (Directory meta)) (File new content) = Some F4
clash_of (Some (File meta content)) (Directory new) = Some F2
clash_of (Some (File meta content)) (File new bytes) = None

-- Why a placement fails, if it does; `at` is what stands at each path. The first of these decides: the path has more than 64
-- components; a file stands on the way; the entry is of another kind than the one that stands there.
abbrev pub cause_at : (List (List ℕ) → Option Entry) → List (List ℕ) → Entry → Option Cause
cause_at at path entry =
    if nat_lt most_components (length path) then Some F5 else if is_blocked at path then Some F2 else clash_of (at path) entry

-- the tree with a directory at each of these paths where nothing stood
abbrev pub with_missing : Meta → List (List (List ℕ)) → TreeMap → TreeMap
with_missing meta [] tree = tree
with_missing meta (path ∷ paths) tree =
    if is_some (get tree path) then with_missing meta paths tree else insert (with_missing meta paths tree) path (Directory meta)

-- The tree after a placement: the entry stands at its path, what stands elsewhere stays, and missing parents are directories
-- with the meta that is given.
abbrev pub placed : Meta → TreeMap → List (List ℕ) → Entry → TreeMap
placed meta tree path entry = insert (with_missing meta (fronts path) tree) path entry

-- What stands at q once an entry stands at path, `at` being what stood: the entry itself at its path; what stood there before; a
-- directory where q is a front of the path.
abbrev pub planted : (List (List ℕ) → Option Entry) → List (List ℕ) → Meta → Entry → List (List ℕ) → Option Entry
planted at path meta entry q =
    cond (eq_by_cmp path_cmp q path) (Some entry) (option_or (at q) (cond (is_front q path) (Some (Directory meta)) None))

-- the tree after a placement in which nothing is said of missing parents: they are made 0755 and 0:0; or the cause why it isn't made
abbrev pub put_into : TreeMap → List (List ℕ) → Entry → TreeOrCause
put_into tree path entry = tree_or (cause_at (get tree) path entry) (placed directory_meta tree path entry)

-- the mode and owner with which a file is written: those of the file that stands there, else 0644 and 0:0 (own)
abbrev pub kept_meta : Option Entry → Meta
kept_meta None = file_meta
kept_meta (Some (Directory meta)) = file_meta
kept_meta (Some (File meta content)) = meta

-- Writing a file in a tree (own): what stands elsewhere stays, and missing parents are made 0755 and 0:0. It can't be done where a directory
-- stands there or a file stands on the way.
abbrev pub written : TreeMap → List (List ℕ) → List ℕ → TreeOrCause
written tree path bytes = put_into tree path (File (kept_meta (get tree path)) bytes)
