-- What a branch lends of its node.
use Rattle.std.specs.Prelude.{◌≡◌, ℕ, true, Option, List, [], ◌∷◌, ◌++◌, is_some, option_and_then}
use Rattle.std.proofs.Common.{sym, ap, refl, ◌∙◌}
use Rattle.std.specs.List.{AllByRecursion}
use Rattle.std.specs.Map.{lookup}
use Rattle.std.specs.BTreeMap.{is_at}
use Rattle.std.specs.FinMap.{get, entries}
use Rattle.paths.specs.Order.{name_cmp}
use Rattle.trees.specs.declared.entry.Entry.{Entry}
use Rattle.trees.specs.TreeMap.{TreeMap}
use Rattle.trees.specs.Branch.{rows_of_children, AreChildren, AreChildrenFrom}
use Rattle.trees.specs.PrivateNode.{NodeValue, map_of, kid_maps, below_name, node_of}
use Rattle.trees.specs.PrivateWalk.{rows_of, AreKidsFrom}
use Rattle.trees.proofs.NodeLaws.{get-map_of_root, get-map_of_cons, get-joined, lookup-find}
use Rattle.trees.proofs.KidLists.{is_sorted-kid_maps}
use Rattle.trees.proofs.FromSteps.{kid_maps-from}

-- what stands below a name is what stands in the child of that name
pub under-name : (value : NodeValue) (top : Entry) (kids : List (List ℕ × NodeValue)) (name : List ℕ) (child : Option NodeValue) → node_of top kids ≡ value → child ≡ lookup (is_at (name_cmp name)) kids
    → (rest : List (List ℕ)) → get (map_of value) (name ∷ rest) ≡ option_and_then (λ child. get (map_of child) rest) child
under-name value top kids name child is found rest =
    (λ i. get (map_of (sym is i)) (name ∷ rest)) ∙ get-map_of_cons (node_of top kids) name rest ∙ get-joined kids name rest
    ∙ ap (option_and_then (λ v. get (map_of v) rest)) (sym (found ∙ lookup-find name kids))

rows-kids : (kids : List (List ℕ × NodeValue)) → rows_of kids ≡ rows_of_children (kid_maps kids)
rows-kids [] = refl
rows-kids (kid ∷ kids) = ap (λ rows. below_name kid.0 (entries (map_of kid.1)) ++ rows) (rows-kids kids)

each-kid : (kids : List (List ℕ × NodeValue)) → AllByRecursion (λ (child : List ℕ × TreeMap). is_some (get child.1 []) ≡ true) (kid_maps kids)
each-kid [] = tt
each-kid (kid ∷ kids) = (ap is_some (get-map_of_root kid.1), each-kid kids)

-- the children of a node as those of a branch
pub are-children : (node : NodeValue) (branch : TreeMap) (kids : List (List ℕ × NodeValue)) → map_of node ≡ branch → entries (map_of node) ≡ ([], node.top) ∷ rows_of kids → AreChildren branch (kid_maps kids)
are-children node branch kids is own = record {
  own = node.top;
  rows = ap entries (sym is) ∙ own ∙ ap (λ rows. ([], node.top) ∷ rows) (rows-kids kids);
  each = each-kid kids;
}

-- and those from a name on
pub are-children_from : (node : NodeValue) (branch : TreeMap) (front : List ℕ) (kids : List (List ℕ × NodeValue)) → map_of node ≡ branch → AreKidsFrom node front kids → AreChildrenFrom branch front (kid_maps kids)
are-children_from node branch front kids is from = record {
  all = kid_maps from.all;
  whole = are-children node branch from.all is from.whole;
  left = ap kid_maps from.left ∙ kid_maps-from front from.all;
  rise = is_sorted-kid_maps kids ∙ from.rise;
}
