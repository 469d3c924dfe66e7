-- The entries of a tree as the list that its `entries` gives: each path with its entry, in path order. And what is lent of them.
use Rattle.std.specs.Prelude.{ℕ, List, map}
use denote.Ref.{Bor}
use Rattle.trees.specs.declared.entry.Entry.{Entry}
use Rattle.trees.specs.declared.entry.Entry.TheVariants.{Directory, File}
use Rattle.trees.specs.declared.lent_entry.LentEntry.{LentEntry}
use Rattle.trees.specs.declared.lent_entry.LentEntry.TheVariants.{Directory as LentDirectory, File as LentFile}

-- the entry that is lent
abbrev pub entry_of : LentEntry → Entry
entry_of (LentDirectory meta) = Directory meta
entry_of (LentFile meta content) = File meta content.now

-- the paths and entries of rows whose entries are lent
abbrev pub lent_rows : List (List (List ℕ) × LentEntry) → List (List (List ℕ) × Entry)
lent_rows rows = map (λ row. (row.0, entry_of row.1)) rows

-- the names of a path that are lent one by one
abbrev pub lent_names : List (Bor (List ℕ)) → List (List ℕ)
lent_names names = map (λ name. name.now) names
