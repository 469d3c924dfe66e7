-- One tree laid over another, and many over each other from the left: what BuildKit's merge operation and `COPY --link` make.
use Rattle.std.specs.Prelude.{ℕ, List, [], ◌∷◌, not}
use Rattle.std.specs.List.{fold}
use Rattle.std.specs.FinMap.{get, insert, entries, retain_keys}
use Rattle.trees.specs.declared.entry.Entry.{Entry}
use Rattle.trees.specs.TreeMap.{TreeMap, is_blocked, empty_tree}

-- the map with these entries put into it; where a path stands twice, the first one counts
abbrev pub insert_all : List (List (List ℕ) × Entry) → TreeMap → TreeMap
insert_all [] tree = tree
insert_all (row ∷ rows) tree = insert (insert_all rows tree) row.0 row.1

-- upper laid over lower: upper's entry where upper has one; else lower's where no file of upper stands on the way to it
abbrev pub over : TreeMap → TreeMap → TreeMap
over lower upper = insert_all (entries upper) (retain_keys lower (λ path. not (is_blocked (get upper) path)))

-- The trees laid over each other from the left, the first at the bottom; of no tree at all, the empty tree. It has to be said
-- where one begins: of a tree with /x/f1, one with a file /x and one with /x/g, the second takes /x/f1 away if the first two
-- come together first, and leaves it if the last two do, since only /x/g is left of them below /x.
abbrev pub merged : List TreeMap → TreeMap
merged [] = empty_tree
merged (tree ∷ trees) = fold over tree trees
