-- One node laid over another: what stands in each child, and a step over the upper node's children.
use Rattle.std.specs.Prelude.{◌≡◌, ℕ, Bool, true, false, cond, ◌||◌, Option, Some, None, List, [], ◌∷◌, option_and_then}
use Rattle.std.proofs.Common.{sym, ap, refl, ◌∙◌, subst, true≢false}
use Rattle.std.specs.Ordering.{eq_by_cmp, is_eq}
use Rattle.std.specs.declared.cmp.Ordering.TheVariants.{Less}
use Rattle.std.specs.Option.{option_or}
use Rattle.std.specs.Map.{lookup, keys_of}
use Rattle.std.specs.BTreeMap.{is_at}
use Rattle.std.specs.List.{AllByRecursion}
use Rattle.std.specs.List.Sorted.{IsStrictlySortedBy}
use Rattle.std.specs.FinMap.{get, find, empty, get-empty}
use Rattle.trees.specs.declared.entry.Entry.{Entry}
use Rattle.trees.specs.declared.entry.Entry.TheVariants.{Directory, File}
use Rattle.paths.specs.Order.{name_cmp, path_cmp}
use Rattle.trees.specs.TreeMap.{TreeMap, is_blocked, is_file, is_directory}
use Rattle.trees.specs.PrivateNode.{NodeValue, map_of, joined, laid_kid, AreLaid, node_of}
use Rattle.trees.specs.Over.{over}
use Rattle.paths.proofs.FrontLaws.{name_same}
use Rattle.trees.proofs.WayLaws.{is_blocked-cons}
use Rattle.trees.proofs.TreeLaws.{same_tree, get-over}
use Rattle.trees.proofs.NodeLaws.{get-map_of_root, get-map_of_cons, get-joined, lookup-find}
use Rattle.trees.proofs.NodeSteps.{IsKid, find_changed, blocked_in, blocked-in_kid, at_kid}

keep_some : (o d : Option Entry) (e : Entry) → o ≡ Some e → option_or o d ≡ o
keep_some o d e is = (λ i. option_or (is i) d) ∙ sym is

or_nothing : (o : Option Entry) → option_or o None ≡ o
or_nothing None = refl
or_nothing (Some e) = refl

file_top : (top : Entry) → is_directory (Some top) ≡ false → is_file (Some top) ≡ true
file_top (Directory m) not_dir = absurd (true≢false not_dir)
file_top (File m b) not_dir = refl

directory_top : (top : Entry) → is_directory (Some top) ≡ true → is_file (Some top) ≡ false
directory_top (Directory m) is_dir = refl
directory_top (File m b) is_dir = absurd (true≢false (sym is_dir))

-- laid over a tree, a file leaves nothing of it
pub over-file : (lower : TreeMap) (upper : NodeValue) → is_directory (Some upper.top) ≡ false → over lower (map_of upper) ≡ map_of upper
over-file lower upper not_dir = same_tree _ _ at
  where
    at : (q : List (List ℕ)) → get (over lower (map_of upper)) q ≡ get (map_of upper) q
    at [] = get-over lower (map_of upper) [] ∙ keep_some (get (map_of upper) []) _ upper.top (get-map_of_root upper)
    at (c ∷ cs) =
        let file : is_file (get (map_of upper) []) ≡ true = ap is_file (get-map_of_root upper) ∙ file_top upper.top not_dir in
        get-over lower (map_of upper) (c ∷ cs)
        ∙ ap (λ b. option_or (get (map_of upper) (c ∷ cs)) (cond b None (get lower (c ∷ cs)))) (is_blocked-cons (get (map_of upper)) c cs ∙ (λ i. file i || is_blocked (λ p. get (map_of upper) (c ∷ p)) cs))
        ∙ or_nothing (get (map_of upper) (c ∷ cs))

-- over a node with nothing below it, a node stands as it is
pub over-bare : (lower upper : NodeValue) → lower.below ≡ empty → over (map_of lower) (map_of upper) ≡ map_of upper
over-bare lower upper bare = same_tree _ _ at
  where
    nothing : (b : Bool) → cond {A = Option Entry} b None None ≡ None
    nothing true = refl
    nothing false = refl

    at : (q : List (List ℕ)) → get (over (map_of lower) (map_of upper)) q ≡ get (map_of upper) q
    at [] = get-over (map_of lower) (map_of upper) [] ∙ keep_some (get (map_of upper) []) _ upper.top (get-map_of_root upper)
    at (c ∷ cs) =
        let none : get (map_of lower) (c ∷ cs) ≡ None = get-map_of_cons lower c cs ∙ ap (λ m. get m (c ∷ cs)) bare ∙ get-empty path_cmp (c ∷ cs) in
        get-over (map_of lower) (map_of upper) (c ∷ cs)
        ∙ ap (λ o. option_or (get (map_of upper) (c ∷ cs)) (cond (is_blocked (get (map_of upper)) (c ∷ cs)) None o)) none
        ∙ ap (option_or (get (map_of upper) (c ∷ cs))) (nothing (is_blocked (get (map_of upper)) (c ∷ cs)))
        ∙ or_nothing (get (map_of upper) (c ∷ cs))

-- children that stand, with those that are still to be laid over them, for what these do
pub record AreLaying (old upper new rest : List (List ℕ × NodeValue)) : Type 0 where
  pub at : (c : List ℕ) → laid_kid (find name_cmp c new) (find name_cmp c rest) ≡ laid_kid (find name_cmp c old) (find name_cmp c upper)
  pub ordered : IsStrictlySortedBy name_cmp (keys_of rest)

-- what stands below a child's map
abbrev in_map : Option TreeMap → List (List ℕ) → Option Entry
in_map o cs = option_and_then (λ m. get m cs) o

alone : (o : Option NodeValue) (cs : List (List ℕ)) → at_kid o cs ≡ in_map (laid_kid o None) cs
alone None cs = refl
alone (Some v) cs = refl

neither : (b : Bool) → cond {A = Option Entry} b None None ≡ None
neither true = refl
neither false = refl

both : (low up : Option NodeValue) (cs : List (List ℕ)) → in_map (laid_kid low up) cs ≡ option_or (at_kid up cs) (cond (blocked_in up cs) None (at_kid low cs))
both None None cs = refl
both (Some l) None cs = refl
both None (Some u) cs = sym (or_nothing (get (map_of u) cs)) ∙ (λ i. option_or (get (map_of u) cs) (sym (neither (is_blocked (get (map_of u)) cs)) i))
both (Some l) (Some u) cs = get-over (map_of l) (map_of u) cs

-- once nothing is left, the node stands for the two laid over each other
pub laid-all : (low up : NodeValue) (top top' : Entry) (old upper new : List (List ℕ × NodeValue)) → node_of top old ≡ low → node_of top' upper ≡ up → is_directory (Some top') ≡ true → AreLaid old upper new
    → map_of (node_of top' new) ≡ over (map_of low) (map_of up)
laid-all low up top top' old upper new low-is up-is dir changed_tree = same_tree _ _ at
  where
    under : (v : NodeValue) (t : Entry) (kids : List (List ℕ × NodeValue)) → node_of t kids ≡ v → (c : List ℕ) (cs : List (List ℕ)) → get (map_of v) (c ∷ cs) ≡ at_kid (find name_cmp c kids) cs
    under v t kids is c cs = (λ i. get (map_of (sym is i)) (c ∷ cs)) ∙ get-map_of_cons (node_of t kids) c cs ∙ get-joined kids c cs

    own : get (map_of up) [] ≡ Some top'
    own = (λ i. get (map_of (sym up-is i)) []) ∙ get-map_of_root (node_of top' upper)

    blocked : (c : List ℕ) (cs : List (List ℕ)) → is_blocked (get (map_of up)) (c ∷ cs) ≡ blocked_in (find name_cmp c upper) cs
    blocked c cs =
        is_blocked-cons (get (map_of up)) c cs
        ∙ (λ i. (ap is_file own ∙ directory_top top' dir) i || is_blocked (λ p. under up top' upper up-is c p i) cs)
        ∙ blocked-in_kid (find name_cmp c upper) cs

    at : (q : List (List ℕ)) → get (map_of (node_of top' new)) q ≡ get (over (map_of low) (map_of up)) q
    at [] = get-map_of_root (node_of top' new) ∙ sym (get-over (map_of low) (map_of up) [] ∙ keep_some (get (map_of up) []) _ top' own ∙ own)
    at (c ∷ cs) =
        under (node_of top' new) top' new refl c cs
        ∙ alone (find name_cmp c new) cs
        ∙ ap (λ o. in_map o cs) (changed_tree.at c)
        ∙ both (find name_cmp c old) (find name_cmp c upper) cs
        ∙ (λ i. option_or (sym (under up top' upper up-is c cs) i) (cond (sym (blocked c cs) i) None (sym (under low top old low-is c cs) i)))
        ∙ sym (get-over (map_of low) (map_of up) (c ∷ cs))

none_above : (c : List ℕ) (rest : List (List ℕ × NodeValue)) → AllByRecursion (λ y. name_cmp c y ≡ Less) (keys_of rest) → find name_cmp c rest ≡ None
none_above c [] h = refl
none_above c (k ∷ ks) h = (λ i. cond (is_eq (h.0 i)) (Some k.1) (find name_cmp c ks)) ∙ none_above c ks h.1

by_tie : (tie : Bool) (kid' kid : NodeValue) (k r : Option NodeValue) → (tie ≡ true → laid_kid (Some kid') None ≡ laid_kid k (Some kid)) → (tie ≡ true → r ≡ None)
    → laid_kid (cond tie (Some kid') k) r ≡ laid_kid k (cond tie (Some kid) r)
by_tie true kid' kid k r same none = (λ i. laid_kid (Some kid') (none refl i)) ∙ same refl
by_tie false kid' kid k r same none = refl

-- a step: of the upper children the first is laid over the lower one of its name, if there is one
pub changed_tree-more : (old upper now its rest new : List (List ℕ × NodeValue)) (name : List ℕ) (kid kid' : NodeValue) (below : Option NodeValue) → AreLaying old upper now its → its ≡ (name, kid) ∷ rest
    → below ≡ lookup (is_at (name_cmp name)) now → IsKid now new name kid' → laid_kid (Some kid') None ≡ laid_kid below (Some kid) → AreLaying old upper new rest
unfolding IsStrictlySortedBy
changed_tree-more old upper now its rest new name kid kid' below changed_tree next found changed done =
    let sorted : IsStrictlySortedBy name_cmp (keys_of ((name, kid) ∷ rest)) = subst (λ (l : List (List ℕ × NodeValue)). IsStrictlySortedBy name_cmp (keys_of l)) next changed_tree.ordered in
    record {
      at = λ c.
          (λ i. laid_kid (find_changed now new name kid' changed c i) (find name_cmp c rest))
          ∙ by_tie (eq_by_cmp name_cmp c name) kid' kid (find name_cmp c now) (find name_cmp c rest)
          (λ tie. done ∙ (λ i. laid_kid ((found ∙ lookup-find name now ∙ (λ j. find name_cmp (sym (name_same c name tie) j) now)) i) (Some kid)))
          (λ tie. (λ j. find name_cmp (name_same c name tie j) rest) ∙ none_above name rest sorted.0)
          ∙ (λ i. laid_kid (find name_cmp c now) (find name_cmp c (sym next i)))
          ∙ changed_tree.at c;
      ordered = sorted.1;
    }

-- nothing is laid yet, its being the upper children as they were lent
pub laid-start : (old upper its : List (List ℕ × NodeValue)) → its ≡ upper → IsStrictlySortedBy name_cmp (keys_of upper) → AreLaying old upper old its
laid-start old upper its lent ordered =
    record { at = λ c. (λ i. laid_kid (find name_cmp c old) (find name_cmp c (lent i))); ordered = subst (λ (l : List (List ℕ × NodeValue)). IsStrictlySortedBy name_cmp (keys_of l)) (sym lent) ordered }

-- what stands below children that were laid over others
pub laid-get : (old upper new : List (List ℕ × NodeValue)) → AreLaid old upper new → (c : List ℕ) (cs : List (List ℕ)) → get (joined new) (c ∷ cs) ≡ option_or (get (joined upper) (c ∷ cs)) (cond (blocked_in (find name_cmp c upper) cs) None (get (joined old) (c ∷ cs)))
laid-get old upper new laid c cs =
    get-joined new c cs
    ∙ alone (find name_cmp c new) cs
    ∙ ap (λ o. in_map o cs) (laid.at c)
    ∙ both (find name_cmp c old) (find name_cmp c upper) cs
    ∙ (λ i. option_or (sym (get-joined upper c cs) i) (cond (blocked_in (find name_cmp c upper) cs) None (sym (get-joined old c cs) i)))

-- over a node, a directory with nothing below it gives its own entry alone
pub over-leaf : (lower upper new : NodeValue) → is_directory (Some upper.top) ≡ true → upper.below ≡ empty → new.top ≡ upper.top → new.below ≡ lower.below → map_of new ≡ over (map_of lower) (map_of upper)
over-leaf lower upper new dir bare top same = same_tree _ _ at
  where
    none : (c : List ℕ) (cs : List (List ℕ)) → get (map_of upper) (c ∷ cs) ≡ None
    none c cs = get-map_of_cons upper c cs ∙ ap (λ m. get m (c ∷ cs)) bare ∙ get-empty path_cmp (c ∷ cs)

    open_way : (c : List ℕ) (cs : List (List ℕ)) → is_blocked (get (map_of upper)) (c ∷ cs) ≡ false
    open_way c cs =
        is_blocked-cons (get (map_of upper)) c cs
        ∙ (λ i. (ap is_file (get-map_of_root upper) ∙ directory_top upper.top dir) i || is_blocked (λ p. none c p i) cs)
        ∙ blocked-in_kid None cs

    at : (q : List (List ℕ)) → get (map_of new) q ≡ get (over (map_of lower) (map_of upper)) q
    at [] = get-map_of_root new ∙ ap Some top ∙ sym (get-over (map_of lower) (map_of upper) [] ∙ keep_some (get (map_of upper) []) _ upper.top (get-map_of_root upper) ∙ get-map_of_root upper)
    at (c ∷ cs) =
        get-map_of_cons new c cs ∙ ap (λ m. get m (c ∷ cs)) same ∙ sym (get-map_of_cons lower c cs)
        ∙ (λ i. option_or (sym (none c cs) i) (cond (sym (open_way c cs) i) None (get (map_of lower) (c ∷ cs))))
        ∙ sym (get-over (map_of lower) (map_of upper) (c ∷ cs))

-- nodes whose children hide those below them
pub hidden-whole : (low up below above : NodeValue) (old upper : List (List ℕ × NodeValue)) → node_of below.top old ≡ below → below ≡ low → node_of above.top upper ≡ above → above ≡ up → is_directory (Some up.top) ≡ true → AreLaid old upper upper → map_of up ≡ over (map_of low) (map_of up)
hidden-whole low up below above old upper low-kids low-is up-kids up-is dir laid =
    ap map_of (sym (up-kids ∙ up-is)) ∙ laid-all low up below.top above.top old upper upper (low-kids ∙ low-is) (up-kids ∙ up-is) (ap (λ (n : NodeValue). is_directory (Some n.top)) up-is ∙ dir) laid

-- all are laid, rest being those that are left
pub laid-done : (old upper new rest : List (List ℕ × NodeValue)) → AreLaying old upper new rest → rest ≡ [] → AreLaid old upper new
laid-done old upper new rest laying none = record { at = λ c. (λ i. laid_kid (find name_cmp c new) (find name_cmp c (sym none i))) ∙ laying.at c }

-- a directory laid over a node, own being the entry that this one then has
pub laid-end : (low up : NodeValue) (top own top' : Entry) (old upper new : List (List ℕ × NodeValue)) (told : Bool) → node_of top old ≡ low → node_of top' upper ≡ up → told ≡ is_directory (Some top') → told ≡ true
    → own ≡ top' → AreLaid old upper new → map_of (node_of own new) ≡ over (map_of low) (map_of up)
laid-end low up top own top' old upper new told low-is up-is said held same laid =
    (λ i. map_of (node_of (same i) new)) ∙ laid-all low up top top' old upper new low-is up-is (sym said ∙ held) laid

-- ---- nodes that hide others

-- nothing is hidden yet
pub hidden-start : (old upper kids its : List (List ℕ × NodeValue)) → kids ≡ old → its ≡ upper → AreLaid kids its its → AreLaid old upper upper
hidden-start old upper kids its k u laid = subst (λ (l : List (List ℕ × NodeValue)). AreLaid l upper upper) k (subst (λ (l : List (List ℕ × NodeValue)). AreLaid kids l l) u laid)

-- where none is left, nothing is
pub hidden-end : (kids its : List (List ℕ × NodeValue)) → kids ≡ [] → AreLaid kids its its
hidden-end kids its none = record { at = λ c. same (find name_cmp c its) ∙ (λ i. laid_kid (find name_cmp c (sym none i)) (find name_cmp c its)) }
  where
    same : (o : Option NodeValue) → laid_kid o None ≡ laid_kid None o
    same None = refl
    same (Some v) = refl

-- a step: of both, the first hides the first of the same name
pub hidden-more : (kids more its rest : List (List ℕ × NodeValue)) (name upper_name : List ℕ) (kid upper : NodeValue) → kids ≡ (name, kid) ∷ more → its ≡ (upper_name, upper) ∷ rest → name ≡ upper_name
    → over (map_of kid) (map_of upper) ≡ map_of upper → AreLaid more rest rest → AreLaid kids its its
hidden-more kids more its rest name upper_name kid upper k u same hides laid = record {
  at = λ c.
      (λ i. laid_kid (find name_cmp c (u i)) None)
      ∙ (λ i. laid_kid (cond (eq_by_cmp name_cmp c (sym same i)) (Some upper) (find name_cmp c rest)) None)
      ∙ by_both (eq_by_cmp name_cmp c name) (find name_cmp c more) (find name_cmp c rest) (laid.at c)
      ∙ (λ i. laid_kid (find name_cmp c (sym k i)) (cond (eq_by_cmp name_cmp c (same i)) (Some upper) (find name_cmp c rest)))
      ∙ (λ i. laid_kid (find name_cmp c kids) (find name_cmp c (sym u i)));
}
  where
    by_both : (tie : Bool) (low up : Option NodeValue) → laid_kid up None ≡ laid_kid low up → laid_kid (cond tie (Some upper) up) None ≡ laid_kid (cond tie (Some kid) low) (cond tie (Some upper) up)
    by_both true low up h = ap Some (sym hides)
    by_both false low up h = h
