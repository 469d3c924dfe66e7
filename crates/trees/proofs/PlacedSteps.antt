-- What a node comes to whose entries are as those of another one are placed.
use Rattle.std.specs.Prelude.{◌≡◌, ℕ, Bool, true, ◌&&◌, T, Option, Some, None, List, [], ◌∷◌, ◌++◌, drop, is_some, option_map}
use Rattle.std.proofs.Common.{sym, ap, refl, ◌∙◌, subst}
use Rattle.std.specs.Ordering.{is_lt}
use Rattle.std.specs.FinMap.{get, find, entries, entries_sorted, get-entries}
use Rattle.std.specs.FinMap.Entries.{is_sorted, below_all, same_entries}
use Rattle.paths.specs.Order.{path_cmp}
use Rattle.paths.specs.OrderLaws.{path_cmp_total, path_cmp-IsAntisymmetric}
use Rattle.trees.specs.declared.entry.Entry.{Entry}
use Rattle.trees.specs.declared.entry.Entry.TheVariants.{Directory, File}
use Rattle.trees.specs.declared.copy.CopyOptions.{CopyOptions}
use Rattle.trees.specs.declared.copy.Change.TheVariants.{Place}
use Rattle.trees.specs.TreeMap.{IsTree, is_directory}
use Rattle.trees.specs.Copy.{placed_entry, placements}
use Rattle.trees.specs.PrivateNode.{NodeValue, map_of}
use Rattle.trees.specs.PrivateSeen.{placed_rows, seen}
use Rattle.trees.specs.PrivateCopy.{IsPlacedNode, keeping}
use Rattle.trees.proofs.SeenSteps.{get-seen, find-placed, kept}

abbrev Path : Type 0
Path = List (List ℕ)

abbrev Rows : Type 0
Rows = List (Path × Entry)

same-below : (o : CopyOptions) (q : Path) (rows : Rows) → below_all path_cmp q (placed_rows o rows) ≡ below_all path_cmp q rows
same-below o q [] = refl
same-below o q (row ∷ rows) = ap (λ (b : Bool). is_lt (path_cmp q row.0) && b) (same-below o q rows)

same-order : (o : CopyOptions) (rows : Rows) → is_sorted path_cmp (placed_rows o rows) ≡ is_sorted path_cmp rows
same-order o [] = refl
same-order o (row ∷ rows) = λ i. same-below o row.0 rows i && same-order o rows i

-- what is seen of a node has its entries as they are placed
pub seen-placed : (o : CopyOptions) (node : NodeValue) → IsPlacedNode o node (seen o node)
seen-placed o node = record {
  rows =
      same_entries path_cmp path_cmp_total path_cmp-IsAntisymmetric (entries (map_of (seen o node))) (placed_rows o (entries (map_of node))) (entries_sorted (map_of (seen o node)))
      (subst T (sym (same-order o (entries (map_of node)))) (entries_sorted (map_of node))) found;
}
  where
    found : (q : Path) → find path_cmp q (entries (map_of (seen o node))) ≡ find path_cmp q (placed_rows o (entries (map_of node)))
    found q = sym (get-entries (map_of (seen o node)) q) ∙ get-seen o node q ∙ ap (option_map (placed_entry o)) (get-entries (map_of node) q) ∙ sym (find-placed o q (entries (map_of node)))

-- ---- a folder that was made so is hung in

get-placed : (o : CopyOptions) (old new : NodeValue) → IsPlacedNode o old new → (q : Path) → get (map_of new) q ≡ option_map (placed_entry o) (get (map_of old) q)
get-placed o old new h q = get-entries (map_of new) q ∙ ap (find path_cmp q) h.rows ∙ find-placed o q (entries (map_of old)) ∙ ap (option_map (placed_entry o)) (sym (get-entries (map_of old) q))

kept-some : (o : CopyOptions) (x : Option Entry) → is_some (option_map (placed_entry o) x) ≡ is_some x
kept-some o None = refl
kept-some o (Some e) = refl

kept-kind : (o : CopyOptions) (x : Option Entry) → is_directory (option_map (placed_entry o) x) ≡ is_directory x
kept-kind o None = refl
kept-kind o (Some (Directory m)) = refl
kept-kind o (Some (File m b)) = refl

pub placed-some : (o : CopyOptions) (old new : NodeValue) → IsPlacedNode o old new → (q : Path) → is_some (get (map_of new) q) ≡ true → is_some (get (map_of old) q) ≡ true
placed-some o old new h q s = sym (ap is_some (get-placed o old new h q) ∙ kept-some o (get (map_of old) q)) ∙ s

pub placed-kind : (o : CopyOptions) (old new : NodeValue) → IsPlacedNode o old new → (q : Path) → is_directory (get (map_of new) q) ≡ is_directory (get (map_of old) q)
placed-kind o old new h q = ap is_directory (get-placed o old new h q) ∙ kept-kind o (get (map_of old) q)

pub placed-tree : (o : CopyOptions) (old new : NodeValue) → IsPlacedNode o old new → IsTree (map_of old) → IsTree (map_of new)
placed-tree o old new h tree = record {
  clean = λ q s. tree.clean q (placed-some o old new h q s);
  root = placed-kind o old new h [] ∙ tree.root;
  parents = λ front q f s. placed-kind o old new h front ∙ tree.parents front q f (placed-some o old new h q s);
}

rest-placed : (o : CopyOptions) (rows : Rows) → drop 1 (placed_rows o rows) ≡ placed_rows o (drop 1 rows)
rest-placed o [] = refl
rest-placed o (row ∷ rows) = refl

placed-once : (o : CopyOptions) (dest : Path) (rows : Rows) → placements keeping dest (placed_rows o rows) ≡ placements o dest rows
placed-once o dest [] = refl
placed-once o dest (row ∷ rows) = λ i. Place (dest ++ row.0) (kept (placed_entry o row.1) i) ∷ placed-once o dest rows i

-- what a COPY places of a folder is what it places of the one that was made so, if that keeps owners and modes
pub placements-placed : (o : CopyOptions) (dest : Path) (old new : NodeValue) → IsPlacedNode o old new → placements keeping dest (drop 1 (entries (map_of new))) ≡ placements o dest (drop 1 (entries (map_of old)))
placements-placed o dest old new h = ap (λ (rows : Rows). placements keeping dest (drop 1 rows)) h.rows ∙ ap (placements keeping dest) (rest-placed o (entries (map_of old))) ∙ placed-once o dest (drop 1 (entries (map_of old)))
