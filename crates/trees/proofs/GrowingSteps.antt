-- What rows place below a folder, child by child, and what is grown of them.
use Rattle.std.specs.Prelude.{◌≡◌, ◌<◌, ◌≤◌, ◌+◌, ℕ, Bool, true, false, ◌&&◌, cond, Option, Some, None, Result, Ok, Err, IfOk, List, [], ◌∷◌, ◌++◌, length, take, drop, get_or, option_and_then}
use Rattle.std.proofs.Common.{sym, ap, refl, ◌∙◌, subst, append_assoc, append-nil, arith}
use Rattle.std.proofs.lemmas.List.{map-append, length-append, get_or_at, length-take-le, take_at, drop_at, take_more, drop_more, drop_all}
use Rattle.std.specs.Option.{option_or}
use Rattle.std.specs.Ordering.{eq_by_cmp}
use Rattle.std.specs.FinMap.{get, empty, find, get-empty}
use Rattle.std.specs.FinMap.Entries.{below_all}
use Rattle.paths.specs.Order.{name_cmp, path_cmp}
use Rattle.paths.specs.Path.{IsClean, is_at_or_under}
use Rattle.paths.proofs.PathLaws.{under_iff}
use Rattle.paths.specs.Fronts.{is_front}
use Rattle.paths.proofs.FrontLaws.{name_same, name_itself, path_eq-cons}
use Rattle.trees.specs.declared.meta.Meta.{Meta}
use Rattle.trees.specs.declared.entry.Entry.{Entry}
use Rattle.trees.specs.declared.entry.Entry.TheVariants.{Directory}
use Rattle.trees.specs.TreeMap.{TreeMap, IsTree, directory_meta, empty_tree}
use Rattle.trees.specs.Put.{placed, cause_at}
use Rattle.trees.specs.Row.{Row}
use Rattle.trees.specs.Whole.{tree_of, ArePlaceable}
use Rattle.trees.specs.PrivateNode.{NodeValue, map_of, joined, rows_under}
use Rattle.trees.specs.PrivateGrowing.{nothing, grown, AreClean, IsGrown, AreGrown, ComesNext}
use Rattle.trees.proofs.NodeLaws.{get-map_of_root, get-map_of_cons, get-joined}
use Rattle.trees.proofs.PartLists.{not-above}
use Rattle.trees.proofs.TreeLaws.{same_tree, get-placed, get-empty_tree, free-from_cause, placed-IsTree, empty-IsTree}

abbrev pub Path : Type 0
Path = List (List ℕ)

abbrev pub At : Type 0
At = Path → Option Entry

abbrev Kids : Type 0
Kids = List (List ℕ × NodeValue)

or-none : (o : Option Entry) → option_or o None ≡ o
or-none None = refl
or-none (Some e) = refl

-- one row placed on what stood
abbrev pub on : Path → Entry → Path → Option Entry → Option Entry
on path entry q o = cond (eq_by_cmp path_cmp q path) (Some entry) (option_or o (cond (is_front q path) (Some (Directory directory_meta)) None))

-- ---- rows one after the other

pub grown-append : (xs ys : List Row) (old : At) (q : Path) → grown (xs ++ ys) old q ≡ grown xs (grown ys old) q
grown-append [] ys old q = refl
grown-append (x ∷ xs) ys old q = ap (on x.0 x.1 q) (grown-append xs ys old q)

grown-from : (xs : List Row) (old new : At) (q : Path) → old q ≡ new q → grown xs old q ≡ grown xs new q
grown-from [] old new q same = same
grown-from (x ∷ xs) old new q same = ap (on x.0 x.1 q) (grown-from xs old new q same)

-- what they place below a name changes nothing below another
grown-other : (n : List ℕ) (xs : List Row) (old : At) (c : List ℕ) (cs : Path) → eq_by_cmp name_cmp c n ≡ false → grown (rows_under (n ∷ []) xs) old (c ∷ cs) ≡ old (c ∷ cs)
grown-other n [] old c cs apart = refl
grown-other n (x ∷ xs) old c cs apart =
    let off : eq_by_cmp path_cmp (c ∷ cs) (n ∷ x.0) ≡ false = path_eq-cons c n cs x.0 ∙ ap (λ b. b && eq_by_cmp path_cmp cs x.0) apart in
    let way : is_front (c ∷ cs) (n ∷ x.0) ≡ false = ap (λ b. b && is_front cs x.0) apart in
    (λ i. cond (off i) (Some x.1) (option_or (grown-other n xs old c cs apart i) (cond (way i) (Some (Directory directory_meta)) None))) ∙ or-none (old (c ∷ cs))

-- below the name it is the same, seen from there
grown-same : (n : List ℕ) (xs : List Row) (old : At) (cs : Path) → grown (rows_under (n ∷ []) xs) old (n ∷ cs) ≡ grown xs (λ q. old (n ∷ q)) cs
grown-same n [] old cs = refl
grown-same n (x ∷ xs) old cs =
    let tie : eq_by_cmp path_cmp (n ∷ cs) (n ∷ x.0) ≡ eq_by_cmp path_cmp cs x.0 = path_eq-cons n n cs x.0 ∙ ap (λ b. b && eq_by_cmp path_cmp cs x.0) (name_itself n) in
    let way : is_front (n ∷ cs) (n ∷ x.0) ≡ is_front cs x.0 = ap (λ b. b && is_front cs x.0) (name_itself n) in
    λ i. cond (tie i) (Some x.1) (option_or (grown-same n xs old cs i) (cond (way i) (Some (Directory directory_meta)) None))

-- the folder stays what it is
grown-top : (n : List ℕ) (xs : List Row) (old : At) (e : Entry) → old [] ≡ Some e → grown (rows_under (n ∷ []) xs) old [] ≡ Some e
grown-top n [] old e is = is
grown-top n (x ∷ xs) old e is = ap (on (n ∷ x.0) x.1 []) (grown-top n xs old e is)

under-append : (top : Path) (xs ys : List Row) → rows_under top (xs ++ ys) ≡ rows_under top xs ++ rows_under top ys
under-append top xs ys = map-append (λ row. (top ++ row.0, row.1)) xs ys

under-under : (front : Path) (n : List ℕ) (xs : List Row) → rows_under (front ++ n ∷ []) xs ≡ rows_under front (rows_under (n ∷ []) xs)
under-under front n [] = refl
under-under front n (x ∷ xs) = λ i. (append_assoc front (n ∷ []) x.0 i, x.1) ∷ under-under front n xs i

under-root : (xs : List Row) → rows_under [] xs ≡ xs
under-root [] = refl
under-root (x ∷ xs) = ap (λ l. x ∷ l) (under-root xs)

clean-append : (xs ys : List Row) → AreClean xs → AreClean ys → AreClean (xs ++ ys)
clean-append [] ys h g = g
clean-append (x ∷ xs) ys h g = (h.0, clean-append xs ys h.1 g)

-- ---- the first child

module _ (n : List ℕ) (rest : Path) (entry : Entry) (taken : List Row) (kid : NodeValue) (at : (q : Path) → get (map_of kid) q ≡ grown (taken ++ (rest, entry) ∷ []) nothing q) where
  first-top : grown (rows_under (n ∷ []) taken ++ (n ∷ rest, entry) ∷ []) nothing [] ≡ Some (Directory directory_meta)
  first-top = grown-append (rows_under (n ∷ []) taken) ((n ∷ rest, entry) ∷ []) nothing [] ∙ grown-top n taken (grown ((n ∷ rest, entry) ∷ []) nothing) (Directory directory_meta) refl

  -- what is placed below its name, on other rows that place nothing there
  kid-at : (old : At) (cs : Path) → old (n ∷ cs) ≡ None → grown (rows_under (n ∷ []) (taken ++ (rest, entry) ∷ [])) old (n ∷ cs) ≡ get (map_of kid) cs
  kid-at old cs none = grown-same n (taken ++ (rest, entry) ∷ []) old cs ∙ grown-from (taken ++ (rest, entry) ∷ []) (λ q. old (n ∷ q)) nothing cs none ∙ sym (at cs)

  -- the child and others
  kids-at : (old : At) (kids : Kids) (c : List ℕ) (cs : Path) → find name_cmp n kids ≡ None → ((d : List ℕ) (ds : Path) → get (joined kids) (d ∷ ds) ≡ old (d ∷ ds)) → get (joined ((n, kid) ∷ kids)) (c ∷ cs) ≡ grown (rows_under (n ∷ []) (taken ++ (rest, entry) ∷ [])) old (c ∷ cs)
  kids-at old kids c cs absent others = get-joined ((n, kid) ∷ kids) c cs ∙ by (eq_by_cmp name_cmp c n) refl
    where
      found : (o : Option NodeValue) → find name_cmp n kids ≡ o → o ≡ None → (ds : Path) → old (n ∷ ds) ≡ None
      found o is none ds = sym (others n ds) ∙ get-joined kids n ds ∙ ap (option_and_then (λ v. get (map_of v) ds)) (is ∙ none)

      by : (b : Bool) → eq_by_cmp name_cmp c n ≡ b → option_and_then (λ v. get (map_of v) cs) (cond (eq_by_cmp name_cmp c n) (Some kid) (find name_cmp c kids)) ≡ grown (rows_under (n ∷ []) (taken ++ (rest, entry) ∷ [])) old (c ∷ cs)
      by true tie =
          ap (λ b. option_and_then (λ v. get (map_of v) cs) (cond b (Some kid) (find name_cmp c kids))) tie
          ∙ sym (kid-at old cs (found (find name_cmp n kids) refl absent cs))
          ∙ ap (λ d. grown (rows_under (n ∷ []) (taken ++ (rest, entry) ∷ [])) old (d ∷ cs)) (sym (name_same c n tie))
      by false tie =
          ap (λ b. option_and_then (λ v. get (map_of v) cs) (cond b (Some kid) (find name_cmp c kids))) tie
          ∙ sym (get-joined kids c cs) ∙ others c cs ∙ sym (grown-other n (taken ++ (rest, entry) ∷ []) old c cs tie)

pub first-kid : (old new : List Row) (front : Path) (n : List ℕ) (rest : Path) (entry : Entry) (kid : NodeValue) (none kids : Kids) → none ≡ [] → kids ≡ (n, kid) ∷ none → IsGrown old new (front ++ n ∷ []) rest entry kid → AreGrown old new front (n ∷ rest) entry kids
first-kid old new front n rest entry kid none kids empty is h = record {
  taken = rows_under (n ∷ []) h.taken;
  whole = h.whole ∙ ap (λ l. new ++ l) (under-under front n h.taken);
  clean = subst AreClean (under-under front n h.taken) h.clean;
  top = first-top n rest entry h.taken kid h.at;
  at = λ c cs.
      (λ i. get (joined ((is ∙ ap (λ l. (n, kid) ∷ l) empty) i)) (c ∷ cs))
      ∙ kids-at n rest entry h.taken kid h.at nothing [] c cs refl (λ d ds. get-empty path_cmp (d ∷ ds))
      ∙ ap (λ l. grown l nothing (c ∷ cs)) (under-append (n ∷ []) h.taken ((rest, entry) ∷ []));
}

-- ---- one child more

pub more-kid : (old mid left new : List Row) (front rest : Path) (entry : Entry) (n : List ℕ) (next more : Path) (other : Entry) (kid : NodeValue) (kids all : Kids) → all ≡ (n, kid) ∷ kids → below_all name_cmp n kids ≡ true → AreGrown old mid front rest entry kids → mid ≡ left ++ (next, other) ∷ [] → next ≡ front ++ n ∷ more → IsClean next → IsGrown left new (front ++ n ∷ []) more other kid
    → AreGrown old new front rest entry all
more-kid old mid left new front rest entry n next more other kid kids all is before h popped below clean g = record {
  taken = rows_under (n ∷ []) g.taken ++ (n ∷ more, other) ∷ h.taken;
  whole =
      h.whole ∙ ap (λ l. l ++ rows_under front h.taken) popped ∙ append_assoc left ((next, other) ∷ []) (rows_under front h.taken)
      ∙ ap (λ l. l ++ (next, other) ∷ rows_under front h.taken) g.whole
      ∙ append_assoc new (rows_under (front ++ n ∷ []) g.taken) ((next, other) ∷ rows_under front h.taken)
      ∙ (λ i. new ++ (under-under front n g.taken i ++ (below i, other) ∷ rows_under front h.taken))
      ∙ ap (λ l. new ++ l) (sym (under-append front (rows_under (n ∷ []) g.taken) ((n ∷ more, other) ∷ h.taken)));
  clean =
      subst AreClean (sym (under-append front (rows_under (n ∷ []) g.taken) ((n ∷ more, other) ∷ h.taken)))
      (clean-append (rows_under front (rows_under (n ∷ []) g.taken)) (rows_under front ((n ∷ more, other) ∷ h.taken)) (subst AreClean (under-under front n g.taken) g.clean) (subst IsClean below clean, h.clean));
  top =
      ap (λ l. grown l nothing []) rows ∙ grown-append (rows_under (n ∷ []) (g.taken ++ (more, other) ∷ [])) (h.taken ++ (rest, entry) ∷ []) nothing []
      ∙ grown-top n (g.taken ++ (more, other) ∷ []) (grown (h.taken ++ (rest, entry) ∷ []) nothing) (Directory directory_meta) h.top;
  at = λ c cs.
      (λ i. get (joined (is i)) (c ∷ cs))
      ∙ kids-at n more other g.taken kid g.at (grown (h.taken ++ (rest, entry) ∷ []) nothing) kids c cs (not-above n kids before) h.at
      ∙ sym (ap (λ l. grown l nothing (c ∷ cs)) rows ∙ grown-append (rows_under (n ∷ []) (g.taken ++ (more, other) ∷ [])) (h.taken ++ (rest, entry) ∷ []) nothing (c ∷ cs));
}
  where
    rows : (rows_under (n ∷ []) g.taken ++ (n ∷ more, other) ∷ h.taken) ++ (rest, entry) ∷ [] ≡ rows_under (n ∷ []) (g.taken ++ (more, other) ∷ []) ++ (h.taken ++ (rest, entry) ∷ [])
    rows =
        append_assoc (rows_under (n ∷ []) g.taken) ((n ∷ more, other) ∷ h.taken) ((rest, entry) ∷ [])
        ∙ sym (append_assoc (rows_under (n ∷ []) g.taken) ((n ∷ more, other) ∷ []) (h.taken ++ (rest, entry) ∷ []))
        ∙ ap (λ l. l ++ (h.taken ++ (rest, entry) ∷ [])) (sym (under-append (n ∷ []) g.taken ((more, other) ∷ [])))

-- ---- the folder's node

pub with-row : (old mid left : List Row) (front rest : Path) (entry : Entry) (next : Path) (own : Entry) (node : NodeValue) (kids : Kids) → AreGrown old mid front rest entry kids → mid ≡ left ++ (next, own) ∷ [] → next ≡ front ++ [] → IsClean next → node.top ≡ own → node.below ≡ joined kids → IsGrown old left front rest entry node
with-row old mid left front rest entry next own node kids h popped below clean top under = record {
  taken = ([], own) ∷ h.taken;
  whole = h.whole ∙ ap (λ l. l ++ rows_under front h.taken) popped ∙ append_assoc left ((next, own) ∷ []) (rows_under front h.taken) ∙ (λ i. left ++ (below i, own) ∷ rows_under front h.taken);
  clean = (subst IsClean below clean, h.clean);
  at = at;
}
  where
    at : (q : Path) → get (map_of node) q ≡ grown ((([], own) ∷ h.taken) ++ (rest, entry) ∷ []) nothing q
    at [] = get-map_of_root node ∙ ap Some top
    at (c ∷ cs) = get-map_of_cons node c cs ∙ ap (λ m. get m (c ∷ cs)) under ∙ h.at c cs ∙ sym (or-none (grown (h.taken ++ (rest, entry) ∷ []) nothing (c ∷ cs)))

pub without-row : (old new : List Row) (front rest : Path) (entry : Entry) (meta : Meta) (node : NodeValue) (kids : Kids) → AreGrown old new front rest entry kids → node.top ≡ Directory meta → meta ≡ directory_meta → node.below ≡ joined kids → IsGrown old new front rest entry node
without-row old new front rest entry meta node kids h top is under = record { taken = h.taken; whole = h.whole; clean = h.clean; at = at }
  where
    at : (q : Path) → get (map_of node) q ≡ grown (h.taken ++ (rest, entry) ∷ []) nothing q
    at [] = get-map_of_root node ∙ ap Some (top ∙ ap Directory is) ∙ sym h.top
    at (c ∷ cs) = get-map_of_cons node c cs ∙ ap (λ m. get m (c ∷ cs)) under ∙ h.at c cs

pub leaf-grown : (old new : List Row) (front : Path) (rest : Path) (entry : Entry) (node : NodeValue) → new ≡ old → rest ≡ [] → node.top ≡ entry → node.below ≡ empty → IsGrown old new front rest entry node
leaf-grown old new front rest entry node same none top under = record { taken = []; whole = sym (append-nil new ∙ same); clean = tt; at = at }
  where
    at : (q : Path) → get (map_of node) q ≡ grown ((rest, entry) ∷ []) nothing q
    at [] = get-map_of_root node ∙ ap Some top ∙ ap (λ p. grown ((p, entry) ∷ []) nothing []) (sym none)
    at (c ∷ cs) = get-map_of_cons node c cs ∙ ap (λ m. get m (c ∷ cs)) under ∙ get-empty path_cmp (c ∷ cs) ∙ ap (λ p. grown ((p, entry) ∷ []) nothing (c ∷ cs)) (sym none)

-- ---- the whole tree

pub tree-grown : (rows : List Row) (q : Path) → get (tree_of rows) q ≡ grown rows (get empty_tree) q
tree-grown [] q = refl
tree-grown (row ∷ rows) q = get-placed directory_meta (tree_of rows) row.0 row.1 q ∙ ap (on row.0 row.1 q) (tree-grown rows q)

-- a row makes the root, so that nothing has to stand there before
pub one-grown : (path : Path) (entry : Entry) (q : Path) → on path entry q None ≡ on path entry q (get empty_tree q)
one-grown [] entry [] = refl
one-grown (c ∷ cs) entry [] = ap (on (c ∷ cs) entry []) (sym (get-empty_tree []))
one-grown path entry (d ∷ ds) = ap (on path entry (d ∷ ds)) (sym (get-empty_tree (d ∷ ds)))

all-grown : (rows : List Row) (path : Path) (entry : Entry) (q : Path) → grown (rows ++ (path, entry) ∷ []) nothing q ≡ get (tree_of (rows ++ (path, entry) ∷ [])) q
all-grown rows path entry q =
    grown-append rows ((path, entry) ∷ []) nothing q
    ∙ grown-from rows (grown ((path, entry) ∷ []) nothing) (grown ((path, entry) ∷ []) (get empty_tree)) q (one-grown path entry q)
    ∙ sym (grown-append rows ((path, entry) ∷ []) (get empty_tree) q) ∙ sym (tree-grown (rows ++ (path, entry) ∷ []) q)

placeable-tree : (rows : List Row) → ArePlaceable rows → AreClean rows → IsTree (tree_of rows)
placeable-tree [] h clean = empty-IsTree
placeable-tree (row ∷ rows) h clean = placed-IsTree directory_meta (tree_of rows) row.0 row.1 (placeable-tree rows h.1 clean.1) clean.0 (free-from_cause (get (tree_of rows)) row.0 row.1 (h.0 clean.0))

placeable-behind : (front rows : List Row) → ArePlaceable (front ++ rows) → ArePlaceable rows
placeable-behind [] rows h = h
placeable-behind (row ∷ front) rows h = placeable-behind front rows h.1

-- a tree is that of the rows behind the first ones
pub record IsRest (whole front : List Row) (tree : TreeMap) : Type 0 where
  pub back : List Row
  pub whole_is : whole ≡ front ++ back
  pub tree_is : tree ≡ tree_of back

module _ (whole mid left : List Row) (path : Path) (entry : Entry) (root : NodeValue) (front : Path) (rest : Path) (popped : whole ≡ mid ++ (path, entry) ∷ []) (top : front ≡ []) (same : rest ≡ path) (h : IsGrown mid left front rest entry root) where
  back : whole ≡ left ++ (h.taken ++ (path, entry) ∷ [])
  back =
      popped ∙ ap (λ l. l ++ (path, entry) ∷ []) (h.whole ∙ ap (λ f. left ++ rows_under f h.taken) top ∙ ap (λ l. left ++ l) (under-root h.taken))
      ∙ append_assoc left h.taken ((path, entry) ∷ [])

  tree-is : map_of root ≡ tree_of (h.taken ++ (path, entry) ∷ [])
  tree-is = same_tree _ _ (λ q. h.at q ∙ ap (λ p. grown (h.taken ++ (p, entry) ∷ []) nothing q) same ∙ all-grown h.taken path entry q)

  pub root-rest : IsRest whole left (map_of root)
  root-rest = record { back = h.taken ++ (path, entry) ∷ []; whole_is = back; tree_is = tree-is }

  pub root-tree : ArePlaceable whole → IsClean path → IsTree (map_of root)
  root-tree placeable clean =
      subst IsTree (sym tree-is) (placeable-tree (h.taken ++ (path, entry) ∷ []) (placeable-behind left (h.taken ++ (path, entry) ∷ []) (subst ArePlaceable back placeable))
      (clean-append h.taken ((path, entry) ∷ []) (subst AreClean (ap (λ f. rows_under f h.taken) top ∙ under-root h.taken) h.clean) (clean, tt)))

module _ (whole old new : List Row) (row : Row) (is : old ≡ new ++ row ∷ []) (tree : TreeMap) (rest : IsRest whole old tree) where
  less : whole ≡ new ++ (row ∷ rest.back)
  less = rest.whole_is ∙ ap (λ rows. rows ++ rest.back) is ∙ append_assoc new (row ∷ []) rest.back

  pub rest-cause : ArePlaceable whole → IsClean row.0 → cause_at (get tree) row.0 row.1 ≡ None
  rest-cause h clean =
      ap (λ t. cause_at (get t) row.0 row.1) rest.tree_is ∙ (placeable-behind new (row ∷ rest.back) (subst ArePlaceable less h)).0 clean

  pub rest-more : (next : TreeMap) → next ≡ placed directory_meta tree row.0 row.1 → IsRest whole new next
  rest-more next e = record { back = row ∷ rest.back; whole_is = less; tree_is = e ∙ ap (λ t. placed directory_meta t row.0 row.1) rest.tree_is }

pub rest-none : (whole : List Row) (tree : TreeMap) → whole ≡ [] → tree ≡ empty_tree → tree ≡ tree_of whole
rest-none whole tree none is = is ∙ ap tree_of (sym none)

pub rest-end : (whole left : List Row) (tree : TreeMap) → left ≡ [] → IsRest whole left tree → tree ≡ tree_of whole
rest-end whole left tree e rest = rest.tree_is ∙ ap tree_of (sym (rest.whole_is ∙ ap (λ rows. rows ++ rest.back) e))

-- ---- which row comes next

module _ (path names folder : Path) (kids : Kids) (same : names ≡ path) (under : is_at_or_under names folder ≡ true) where
  below-folder : path ≡ folder ++ ((under_iff names folder).0 under).0
  below-folder = sym same ∙ ((under_iff names folder).0 under).1

  pub comes-folder : length names ≤ length folder → ComesNext path folder kids
  comes-folder few = record {
    rest = ((under_iff names folder).0 under).0;
    below = below-folder;
    before = λ name more is. absurd (let l : length path ≡ length folder + length (name ∷ more) = ap length below-folder ∙ ap (λ r. length (folder ++ r)) is ∙ length-append folder (name ∷ more) in let k = ap length same in omega arith);
  }

  pub comes-name : (first : List ℕ) → first ≡ get_or names (length folder) first → below_all name_cmp first kids ≡ true → ComesNext path folder kids
  comes-name first at before = record {
    rest = ((under_iff names folder).0 under).0;
    below = below-folder;
    before = λ name more is.
        ap (λ n. below_all name_cmp n kids) (sym (at ∙ (λ i. get_or ((same ∙ below-folder ∙ ap (λ r. folder ++ r) is) i) (length folder) first) ∙ get_or_at folder name more first (length folder) refl)) ∙ before;
  }

pub both-ok : {A E : Type 0} (r : Result A E) (P Q R : A → Type 0) → ((x : A) → P x → Q x → R x) → IfOk r P → IfOk r Q → IfOk r R
both-ok (Ok x) P Q R f p q = f x p q
both-ok (Err e) P Q R f p q = tt

-- ---- the names at a folder's depth

module _ (path names : Path) (same : names ≡ path) (depth : ℕ) where
  pub no-more : length names ≤ depth → drop depth path ≡ []
  no-more few = drop_all depth path (let l = ap length same in omega arith)

  module _ (n : List ℕ) (less : depth < length names) (is : n ≡ get_or names depth n) where
    inside : depth < length path
    inside = let l = ap length same in omega arith

    is-name : get_or path depth n ≡ n
    is-name = (λ i. get_or (sym same i) depth n) ∙ sym is

    name-on : take (depth + 1) path ≡ take depth path ++ n ∷ []
    name-on = take_more path depth n inside ∙ ap (λ m. take depth path ++ m ∷ []) is-name

    name-off : drop depth path ≡ n ∷ drop (depth + 1) path
    name-off = drop_more path depth n inside ∙ ap (λ m. m ∷ drop (depth + 1) path) is-name

    pub start-kids : (old new : List Row) (entry : Entry) (kid : NodeValue) (none kids : Kids) → none ≡ [] → kids ≡ (n, kid) ∷ none → IsGrown old new (take (depth + 1) path) (drop (depth + 1) path) entry kid → AreGrown old new (take depth path) (drop depth path) entry kids
    start-kids old new entry kid none kids empty all h =
        subst (λ (r : Path). AreGrown old new (take depth path) r entry kids) (sym name-off)
        (first-kid old new (take depth path) n (drop (depth + 1) path) entry kid none kids empty all (subst (λ (f : Path). IsGrown old new f (drop (depth + 1) path) entry kid) name-on h))

-- the path of a row that comes next, the folder's being the first names of a path
module _ (path names : Path) (same : names ≡ path) (depth : ℕ) (within : depth ≤ length path) (next seen : Path) (kids : Kids) (seen_is : seen ≡ next) (comes : ComesNext next (take depth names) kids) where
  folder-length : length (take depth path) ≡ depth
  folder-length = length-take-le depth path within

  next-is : next ≡ take depth path ++ comes.rest
  next-is = comes.below ∙ ap (λ f. take depth f ++ comes.rest) same

  pub next-own : length seen ≤ depth → next ≡ take depth path ++ []
  next-own few = by comes.rest refl
    where
      by : (rest : Path) → comes.rest ≡ rest → next ≡ take depth path ++ []
      by [] e = next-is ∙ ap (λ r. take depth path ++ r) e
      by (m ∷ more) e =
          absurd (let l : length next ≡ length (take depth path) + length (m ∷ more) = ap length (next-is ∙ ap (λ r. take depth path ++ r) e) ∙ length-append (take depth path) (m ∷ more) in let k = ap length seen_is in let d = folder-length in omega arith)

  module _ (n : List ℕ) (less : depth < length seen) (is : n ≡ get_or seen depth n) where
    record IsOn : Type 0 where
      below : next ≡ take depth path ++ n ∷ drop (depth + 1) next
      before : below_all name_cmp n kids ≡ true

    next-on : IsOn
    next-on = by comes.rest refl
      where
        by : (rest : Path) → comes.rest ≡ rest → IsOn
        by [] e =
            absurd (let l : length next ≡ length (take depth path) + 0 = ap length (next-is ∙ ap (λ r. take depth path ++ r) e) ∙ length-append (take depth path) [] in let k = ap length seen_is in let d = folder-length in omega arith)
        by (m ∷ more) e =
            let whole : next ≡ take depth path ++ m ∷ more = next-is ∙ ap (λ r. take depth path ++ r) e in
            let named : n ≡ m = is ∙ (λ i. get_or ((seen_is ∙ whole) i) depth n) ∙ get_or_at (take depth path) m more n depth folder-length in
            let long : length (take depth path ++ m ∷ []) ≡ depth + 1 = (let l = length-append (take depth path) (m ∷ []) in let d = folder-length in omega arith) in
            let left : drop (depth + 1) next ≡ more = ap (drop (depth + 1)) (whole ∙ sym (append_assoc (take depth path) (m ∷ []) more)) ∙ drop_at (take depth path ++ m ∷ []) more (depth + 1) long in
            record { below = whole ∙ (λ i. take depth path ++ sym named i ∷ sym left i); before = ap (λ c. below_all name_cmp c kids) named ∙ comes.before m more e }

    pub name-before : below_all name_cmp n kids ≡ true
    name-before = next-on.before

    front-on : take (depth + 1) next ≡ take depth path ++ n ∷ []
    front-on =
        let long : length (take depth path ++ n ∷ []) ≡ depth + 1 = (let l = length-append (take depth path) (n ∷ []) in let d = folder-length in omega arith) in
        ap (take (depth + 1)) (next-on.below ∙ sym (append_assoc (take depth path) (n ∷ []) (drop (depth + 1) next))) ∙ take_at (take depth path ++ n ∷ []) (drop (depth + 1) next) (depth + 1) long

    pub next-kids : (old mid left new : List Row) (rest : Path) (entry other : Entry) (kid : NodeValue) (all : Kids) → all ≡ (n, kid) ∷ kids → AreGrown old mid (take depth path) rest entry kids → mid ≡ left ++ (next, other) ∷ [] → IsClean next → IsGrown left new (take (depth + 1) next) (drop (depth + 1) next) other kid → AreGrown old new (take depth path) rest entry all
    next-kids old mid left new rest entry other kid all more h popped clean g =
        more-kid old mid left new (take depth path) rest entry n next (drop (depth + 1) next) other kid kids all more name-before h popped next-on.below clean (subst (λ (f : Path). IsGrown left new f (drop (depth + 1) next) other kid) front-on g)

pub kept : (old mid new : List Row) (front rest : Path) (entry : Entry) (kids : Kids) → new ≡ mid → AreGrown old mid front rest entry kids → AreGrown old new front rest entry kids
kept old mid new front rest entry kids same h = subst (λ (l : List Row). AreGrown old l front rest entry kids) (sym same) h
