-- What one walk down to a path finds (own).
use Rattle.std.specs.Prelude.{◌≡◌, ℕ, true, false, Option, Some, None, List}
use Rattle.trees.specs.declared.entry.Entry.{Entry}
use Rattle.trees.specs.declared.landing.Landing.{Landing}
use Rattle.trees.specs.declared.landing.Landing.TheVariants.{Blocked, Free, At}
use Rattle.trees.specs.TreeMap.{is_blocked}
use Rattle.trees.specs.Rows.{entry_of}

-- it is found on the way to the path, `at` being what stands at each path
abbrev pub Lands : (List (List ℕ) → Option Entry) → List (List ℕ) → Landing → Type 0
Lands at path Blocked = is_blocked at path ≡ true
Lands at path Free = (is_blocked at path ≡ false) × (at path ≡ None)
Lands at path (At entry) = (is_blocked at path ≡ false) × (at path ≡ Some (entry_of entry))
