-- The changes of a node's entries, one child after another.
use Rattle.std.specs.Prelude.{◌≡◌, ℕ, Bool, true, false, T, Option, Some, None, List, [], ◌∷◌, ◌++◌, drop, is_some, length, ◌-◌}
use Rattle.std.proofs.Common.{sym, ap, refl, ◌∙◌, true≢false, append-nil, append_assoc, unwrap_or}
use Rattle.std.specs.Ordering.{is_lt}
use Rattle.std.specs.List.Sorted.{IsStrictlySortedBy}
use Rattle.std.specs.Map.{keys_of}
use Rattle.std.specs.FinMap.{get, entries, entries_sorted, get-entries, find}
use Rattle.std.specs.FinMap.Entries.{is_sorted, below_all}
use Rattle.paths.specs.Order.{path_cmp}
use Rattle.paths.specs.Path.{IsClean}
use Rattle.trees.specs.declared.entry.Entry.{Entry}
use Rattle.trees.specs.declared.copy.CopyOptions.{CopyOptions}
use Rattle.trees.specs.declared.copy.Change.{Change}
use Rattle.trees.specs.declared.copy.Change.TheVariants.{Place, Make}
use Rattle.paths.specs.Order.{name_cmp}
use Rattle.trees.specs.TreeMap.{TreeMap, IsTree, is_directory}
use Rattle.trees.specs.PrivateNode.{NodeValue, map_of, joined, below_name, IsBelow, node_of}
use Rattle.trees.specs.declared.entry.Entry.TheVariants.{Directory, File}
use Rattle.trees.proofs.SubtreeLaws.{same-below, entries_below-IsBelow, below-IsTree}
use Rattle.trees.proofs.TreeSteps.{own-entry}
use Rattle.trees.specs.Copy.{placed_entry, placements, match_changes, path_changes, file_path}
use Rattle.trees.specs.Subtree.{map_below}
use Rattle.paths.proofs.FrontLaws.{both_first, both_second}
use Rattle.trees.proofs.NodeLaws.{get-map_of_root}
use Rattle.trees.specs.PrivateWalk.{rows_of}
use Rattle.trees.proofs.RowLists.{entries-node, entries-kids}

abbrev pub Rows : Type 0
Rows = List (List (List ℕ) × Entry)

-- ---- the first entry of a node is its own

root_last : (c : List ℕ) (cs : List (List ℕ)) → is_lt (path_cmp (c ∷ cs) []) ≡ false
root_last c cs = refl

not_root : (c : List ℕ) (cs : List (List ℕ)) (rows : Rows) → below_all path_cmp (c ∷ cs) rows ≡ true → find path_cmp [] rows ≡ None
not_root c cs [] h = refl
not_root c cs (([], e) ∷ rows) h = absurd (true≢false (sym (both_first (is_lt (path_cmp (c ∷ cs) [])) (below_all path_cmp (c ∷ cs) rows) h)))
not_root c cs ((d ∷ ds, e) ∷ rows) h = not_root c cs rows (both_second (is_lt (path_cmp (c ∷ cs) (d ∷ ds))) (below_all path_cmp (c ∷ cs) rows) h)

head-is : (rows : Rows) (top : Entry) → is_sorted path_cmp rows ≡ true → find path_cmp [] rows ≡ Some top → rows ≡ ([], top) ∷ drop 1 rows
head-is [] top s f = absurd (true≢false (sym (ap is_some f)))
head-is (([], e) ∷ rows) top s f = ap (λ o. ([], unwrap_or o e) ∷ rows) f
head-is ((c ∷ cs, e) ∷ rows) top s f = absurd (true≢false (sym (ap is_some f) ∙ ap is_some (not_root c cs rows (both_first _ _ s))))

is-true : (b : Bool) → T b → b ≡ true
is-true true h = refl
is-true false h = absurd h

pub entries-head : (m : TreeMap) (top : Entry) → get m [] ≡ Some top → entries m ≡ ([], top) ∷ drop 1 (entries m)
entries-head m top is = head-is (entries m) top (is-true _ (entries_sorted m)) (sym (get-entries m []) ∙ is)

-- ---- placements

placements-append : (o : CopyOptions) (at : List (List ℕ)) (xs ys : Rows) → placements o at (xs ++ ys) ≡ placements o at xs ++ placements o at ys
placements-append o at [] ys = refl
placements-append o at (x ∷ xs) ys = ap (λ is. Place (at ++ x.0) (placed_entry o x.1) ∷ is) (placements-append o at xs ys)

placements-child : (o : CopyOptions) (at : List (List ℕ)) (name : List ℕ) (rows : Rows) → placements o at (below_name name rows) ≡ placements o (at ++ name ∷ []) rows
placements-child o at name [] = refl
placements-child o at name (row ∷ rows) = λ i. Place (sym (append_assoc at (name ∷ []) row.0) i) (placed_entry o row.1) ∷ placements-child o at name rows i

placements-kid : (o : CopyOptions) (at : List (List ℕ)) (name : List ℕ) (kid : NodeValue) → placements o at (below_name name (entries (map_of kid))) ≡ Place (at ++ name ∷ []) (placed_entry o kid.top) ∷ placements o (at ++ name ∷ []) (drop 1 (entries (map_of kid)))
placements-kid o at name kid =
    placements-child o at name (entries (map_of kid))
    ∙ ap (placements o (at ++ name ∷ [])) (entries-head (map_of kid) kid.top (get-map_of_root kid))
    ∙ (λ i. Place (append-nil (at ++ name ∷ []) i) (placed_entry o kid.top) ∷ placements o (at ++ name ∷ []) (drop 1 (entries (map_of kid))))

-- one child's changes more
pub items-step : (o : CopyOptions) (at below own : List (List ℕ)) (name : List ℕ) (kid : NodeValue) (entry : Entry) (its rest : List (List ℕ × NodeValue)) (before middle after all : List Change)
    → before ++ placements o at (rows_of its) ≡ all → its ≡ (name, kid) ∷ rest → below ≡ at ++ name ∷ [] → own ≡ below → entry ≡ placed_entry o kid.top → middle ≡ before ++ Place own entry ∷ [] → after ≡ middle ++ placements o below (drop 1 (entries (map_of kid)))
    → after ++ placements o at (rows_of rest) ≡ all
items-step o at below own name kid entry its rest before middle after all so_far next same mine dress first more =
    let tail : List Change = placements o at (rows_of rest) in
    let lower : List Change = placements o (at ++ name ∷ []) (drop 1 (entries (map_of kid))) in
    ap (λ is. is ++ tail) (more ∙ (λ i. first i ++ placements o (same i) (drop 1 (entries (map_of kid)))) ∙ append_assoc before (Place own entry ∷ []) lower ∙ (λ i. before ++ Place ((mine ∙ same) i) (dress i) ∷ lower) ∙ ap (λ is. before ++ is) (sym (placements-kid o at name kid)))
    ∙ append_assoc before (placements o at (below_name name (entries (map_of kid)))) tail
    ∙ ap (λ is. before ++ is) (sym (placements-append o at (below_name name (entries (map_of kid))) (rows_of rest)) ∙ ap (λ ks. placements o at (rows_of ks)) (sym next))
    ∙ so_far

-- all changes below a node
pub items-all : (o : CopyOptions) (at : List (List ℕ)) (kids its : List (List ℕ × NodeValue)) (old changes : List Change) → IsStrictlySortedBy name_cmp (keys_of kids) → its ≡ kids
    → changes ++ placements o at (rows_of []) ≡ old ++ placements o at (rows_of its) → changes ≡ old ++ placements o at (entries (joined kids))
items-all o at kids its old changes ordered lent done =
    sym (append-nil changes) ∙ done ∙ (λ i. old ++ placements o at (rows_of (lent i))) ∙ ap (λ rows. old ++ placements o at rows) (sym (entries-kids kids ordered))

-- they are the node's but for its own entry
pub items-node : (o : CopyOptions) (at : List (List ℕ)) (value : NodeValue) (top : Entry) (kids : List (List ℕ × NodeValue)) (old changes : List Change) → node_of top kids ≡ value
    → changes ≡ old ++ placements o at (entries (joined kids)) → changes ≡ old ++ placements o at (drop 1 (entries (map_of value)))
items-node o at value top kids old changes is done = done ∙ ap (λ rows. old ++ placements o at (drop 1 rows)) (sym (entries-node value top kids is))

-- ---- the changes of one match

pub of_directory : (o : CopyOptions) (into : Bool) (dest path : List (List ℕ)) (there : Option Entry) (rows : Rows) → is_directory there ≡ true → match_changes o into dest path there rows ≡ Make dest ∷ placements o dest (drop 1 rows)
of_directory o into dest path None rows d = absurd (true≢false (sym d))
of_directory o into dest path (Some (Directory m)) rows d = refl
of_directory o into dest path (Some (File m b)) rows d = absurd (true≢false (sym d))

of_file : (o : CopyOptions) (into : Bool) (dest path : List (List ℕ)) (entry : Entry) (rows : Rows) → is_directory (Some entry) ≡ false → match_changes o into dest path (Some entry) rows ≡ Place (file_path into dest (drop (length path - 1) path)) (placed_entry o entry) ∷ []
of_file o into dest path (Directory m) rows d = absurd (true≢false d)
of_file o into dest path (File m b) rows d = refl

pub directory-match : (o : CopyOptions) (into : Bool) (from : TreeMap) (dest path with_directory long : List (List ℕ)) (node : NodeValue) (told : Bool) (old middle after : List Change)
    → IsBelow from path (map_of node) → told ≡ is_directory (Some node.top) → told ≡ true → with_directory ≡ dest → long ≡ dest → middle ≡ old ++ Make with_directory ∷ [] → after ≡ middle ++ placements o long (drop 1 (entries (map_of node)))
    → after ≡ old ++ path_changes o into from dest path
directory-match o into from dest path with_directory long node told old middle after lies is t making at first more =
    more
    ∙ (λ i. first i ++ placements o (at i) (drop 1 (entries (map_of node))))
    ∙ append_assoc old (Make with_directory ∷ []) (placements o dest (drop 1 (entries (map_of node))))
    ∙ (λ i. old ++ Make (making i) ∷ placements o dest (drop 1 (entries (same-below from path (map_of node) (map_below from path) lies (entries_below-IsBelow from path) i))))
    ∙ ap (λ is. old ++ is) (sym (of_directory o into dest path (get from path) (entries (map_below from path)) (ap is_directory (own-entry from path node lies) ∙ sym is ∙ t)))

pub file-match : (o : CopyOptions) (into : Bool) (from : TreeMap) (dest path place : List (List ℕ)) (node : NodeValue) (entry lent_rows : Entry) (told : Bool) (old after : List Change)
    → IsBelow from path (map_of node) → told ≡ is_directory (Some node.top) → told ≡ false → place ≡ file_path into dest (drop (length path - 1) path) → lent_rows ≡ node.top → entry ≡ placed_entry o lent_rows → after ≡ old ++ Place place entry ∷ []
    → after ≡ old ++ path_changes o into from dest path
file-match o into from dest path place node entry lent_rows told old after lies is t at top dress more =
    more
    ∙ (λ i. old ++ Place (at i) ((dress ∙ ap (placed_entry o) top) i) ∷ [])
    ∙ ap (λ is. old ++ is) (sym (ap (λ there. match_changes o into dest path there (entries (map_below from path))) (own-entry from path node lies) ∙ of_file o into dest path node.top (entries (map_below from path)) (sym is ∙ t)))

pub below-clean_of : (from : TreeMap) (path : List (List ℕ)) (node : NodeValue) (told : Bool) → IsTree from → IsBelow from path (map_of node) → told ≡ is_directory (Some node.top) → told ≡ true → (q : List (List ℕ)) → is_some (get (map_of node) q) ≡ true → IsClean q
below-clean_of from path node told tree lies is t q s = (below-IsTree from path (map_of node) tree (ap is_directory (own-entry from path node lies) ∙ sym is ∙ t) lies).clean q s
