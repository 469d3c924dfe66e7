-- Where the way to a path leaves the open folders, and what closing them does.
use Rattle.std.specs.Prelude.{◌≡◌, ◌+◌, ◌-◌, ◌<◌, ◌≤◌, ℕ, Bool, true, false, ◌&&◌, not, Option, Some, None, List, [], ◌∷◌, ◌++◌, length, take, drop, get_or, reverse}
use Rattle.std.proofs.Common.{sym, ap, refl, ◌∙◌, subst, append_assoc, append-nil, length-append, arith}
use Rattle.std.proofs.lemmas.Grind.{common_steps}
use Rattle.std.proofs.lemmas.List.{reverse-append, length-map, drop_at, take_all, length-drop, append_cancel_right}
use Rattle.std.specs.Ordering.{is_lt, is_eq, ordering_then}
use Rattle.std.specs.declared.cmp.Ordering.TheVariants.{Less, Equal, Greater}
use Rattle.std.specs.FinMap.{get}
use Rattle.std.specs.FinMap.Entries.{is_sorted}
use Rattle.paths.specs.Order.{name_cmp, path_cmp}
use Rattle.paths.specs.Fronts.{is_front}
use Rattle.std.specs.Cmp.Lexicographic.{nat_list_cmp_total}
use Rattle.paths.proofs.FrontLaws.{name_same, both_hold, both_first, both_second}
use Rattle.trees.specs.declared.entry.Entry.{Entry}
use Rattle.trees.specs.declared.entry.Entry.TheVariants.{Directory, File}
use Rattle.trees.specs.TreeMap.{TreeMap, directory_meta, is_directory, is_file, is_blocked}
use Rattle.trees.specs.Put.{clash_of}
use Rattle.trees.specs.Builder.{goes_on, comes_next}
use Rattle.trees.specs.PrivateNode.{NodeValue, map_of, node_of, are_below, IsPlanted}
use Rattle.trees.specs.PrivateSpine.{OpenValue, held, hanging, shut, first_map, whole, names_of, first_name, end_of, last_of, Rise, IsSpine, IsFork, Forks, IsHeld, AreShut, opened, IsAdded, Adds}
use Rattle.trees.proofs.TreeLaws.{file-from_directory}
use Rattle.trees.proofs.PartLists.{less}
use Rattle.trees.proofs.SpineSteps.{Goes, goes, below-push, before-last, spine-rise, spine-more, last-more}

abbrev Path : Type 0
Path = List (List ℕ)

abbrev Folders : Type 0
Folders = List OpenValue

-- ---- lists

whole-rest : {A : Type 0} (x : A) (xs : List A) → take (length (x ∷ xs) - 1) (drop 1 (x ∷ xs)) ≡ xs
whole-rest x xs = grind (arith, common_steps)

pub first-rest : {A : Type 0} (all : List A) (x : A) → 1 ≤ length all → x ≡ get_or all 0 x → all ≡ x ∷ take (length all - 1) (drop 1 all)
first-rest [] x more is = absurd (omega arith)
first-rest (y ∷ ys) x more is = λ i. sym is i ∷ sym (whole-rest y ys) i

-- the part of a list from a place on
pub part-from : {A : Type 0} (all : List A) (n : ℕ) → take (length all - n) (drop n all) ≡ drop n all
part-from all n = take_all (length all - n) (drop n all) (let l = length-drop n all in omega arith)

no-items : {A : Type 0} (all : List A) → length all < 1 → all ≡ []
no-items [] few = refl
no-items (x ∷ xs) few = absurd (omega arith)

reverse-push : {A : Type 0} (xs : List A) (x : A) → reverse (xs ++ x ∷ []) ≡ x ∷ reverse xs
reverse-push xs x = reverse-append xs (x ∷ [])

-- lists with the same last item
pub same-last : {A : Type 0} (xs ys : List A) (x y : A) → xs ++ x ∷ [] ≡ ys ++ y ∷ [] → x ≡ y
same-last xs ys x y is = ap (λ l. get_or l 0 x) (sym (reverse-push xs x) ∙ ap reverse is ∙ reverse-push ys y)

same-front : {A : Type 0} (xs ys : List A) (x y : A) → xs ++ x ∷ [] ≡ ys ++ y ∷ [] → xs ≡ ys
same-front xs ys x y is = append_cancel_right xs ys (x ∷ []) (is ∙ ap (λ z. ys ++ z ∷ []) (sym (same-last xs ys x y is)))

-- names below one are below a greater one
below-less : (name c : List ℕ) (xs : List (List ℕ × NodeValue)) → name_cmp c name ≡ Less → are_below c xs ≡ true → are_below name xs ≡ true
below-less name c [] l h = refl
below-less name c (x ∷ xs) l h = both_hold _ _ (ap is_lt (nat_list_cmp_total.trans x.0 c name (less _ (both_first _ _ h)) l)) (below-less name c xs l (both_second (is_lt (name_cmp x.0 c)) _ h))

-- ---- whether a path goes on

file-top : (top : Entry) → is_file (Some top) ≡ not (is_directory (Some top))
file-top (Directory m) = refl
file-top (File m c) = refl

module _ (c d : List ℕ) (x rest : Path) (e : Entry) where
  on-past : name_cmp c d ≡ Less → goes_on (c ∷ x, e) (d ∷ rest) ≡ true
  on-past l = (λ i. is_lt (ordering_then (l i) (path_cmp x rest)) && not (is_file (Some e) && (is_eq (l i) && is_front x rest))) ∙ no-front (is_file (Some e))
    where
      no-front : (b : Bool) → not (b && false) ≡ true
      no-front true = refl
      no-front false = refl

  on-before : name_cmp c d ≡ Greater → goes_on (c ∷ x, e) (d ∷ rest) ≡ false
  on-before l = λ i. is_lt (ordering_then (l i) (path_cmp x rest)) && not (is_file (Some e) && (is_eq (l i) && is_front x rest))

  on-same : name_cmp c d ≡ Equal → goes_on (c ∷ x, e) (d ∷ rest) ≡ goes_on (x, e) rest
  on-same l = λ i. is_lt (ordering_then (l i) (path_cmp x rest)) && not (is_file (Some e) && (is_eq (l i) && is_front x rest))

on-to_root : (folder : OpenValue) (more : Folders) → goes_on (end_of folder more) [] ≡ false
on-to_root folder [] = refl
on-to_root folder (next ∷ more) = refl

-- ---- where the way leaves

pub fork-none : (all : Folders) (path : Path) (found : Option ℕ) → length all < 1 → Forks all path found
fork-none [] path found few = tt
fork-none (folder ∷ more) path found few = absurd (omega arith)

pub fork-root : (all : Folders) (path : Path) → length path < 1 → Forks all path None
fork-root [] path few = tt
fork-root (folder ∷ more) [] few = on-to_root folder more
fork-root (folder ∷ more) (n ∷ path) few = absurd (omega arith)

module _ (folder : OpenValue) (name : List ℕ) (rest : Path) where
  at-last : IsSpine (folder ∷ []) → is_directory (Some folder.top) ≡ true → Forks (folder ∷ []) (name ∷ rest) (Some 0)
  at-last s dir = (
    ap (λ b. not (b && true)) (file-from_directory (Some folder.top) dir),
    record {
      kept = [];
      at = folder;
      gone = [];
      name = name;
      rest = rest;
      all_is = refl;
      path_is = refl;
      number = refl;
      folders = (dir, tt);
      after = ap (λ l. are_below name (l ++ [])) s.1.0;
    },
  )

  at-file : is_directory (Some folder.top) ≡ false → Forks (folder ∷ []) (name ∷ rest) None
  at-file file = ap (λ b. not (b && true)) (file-top folder.top) ∙ ap (λ b. not (not b && true)) file

  module _ (child : OpenValue) (more : Folders) where
    at-past : IsSpine (folder ∷ child ∷ more) → name_cmp child.name name ≡ Less → (count : ℕ) → length (child ∷ more) ≡ count → Forks (folder ∷ child ∷ more) (name ∷ rest) (Some count)
    at-past s l count long = (
      on-past child.name name (end_of child more).0 rest (end_of child more).1 l,
      record {
        kept = [];
        at = folder;
        gone = child ∷ more;
        name = name;
        rest = rest;
        all_is = refl;
        path_is = refl;
        number = long;
        folders = (s.1.0, tt);
        after = below-push name folder.kids (child.name, node_of child.top (child.kids ++ hanging more)) (before-below s l) (ap is_lt l);
      },
    )
      where
        before-below : IsSpine (folder ∷ child ∷ more) → name_cmp child.name name ≡ Less → are_below name folder.kids ≡ true
        before-below s l = below-less name child.name folder.kids l (before-last child.name (node_of child.top (child.kids ++ hanging more)) folder.kids s.0)

    at-before : name_cmp child.name name ≡ Greater → Forks (folder ∷ child ∷ more) (name ∷ rest) None
    at-before l = on-before child.name name (end_of child more).0 rest (end_of child more).1 l

    further : IsSpine (folder ∷ child ∷ more) → name_cmp child.name name ≡ Equal → (found : Option ℕ) → Forks (child ∷ more) rest found → Forks (folder ∷ child ∷ more) (name ∷ rest) found
    further s l None h = on-same child.name name (end_of child more).0 rest (end_of child more).1 l ∙ h
    further s l (Some count) h = (
      on-same child.name name (end_of child more).0 rest (end_of child more).1 l ∙ h.0,
      record {
        kept = folder ∷ h.1.kept;
        at = h.1.at;
        gone = h.1.gone;
        name = h.1.name;
        rest = h.1.rest;
        all_is = ap (λ l. folder ∷ l) h.1.all_is;
        path_is = ap (λ n. folder.name ∷ n ∷ rest) (sym (name_same child.name name (ap is_eq l))) ∙ ap (λ l. folder.name ∷ l) h.1.path_is;
        number = h.1.number;
        folders = (s.1.0, h.1.folders);
        after = h.1.after;
      },
    )

-- the same of lists that are told piece by piece
module _ (all bs : Folders) (path rest : Path) (folder : OpenValue) (name : List ℕ) (all_is : all ≡ folder ∷ bs) (path_is : path ≡ name ∷ rest) (s : IsSpine all) where
  told : (found : Option ℕ) (cs : Folders) → bs ≡ cs → Forks (folder ∷ cs) (name ∷ rest) found → Forks all path found
  told found cs is h = subst (λ (t : Folders × Path). Forks t.0 t.1 found) (λ i. (sym (all_is ∙ ap (λ l. folder ∷ l) is) i, sym path_is i)) h

  spine : (cs : Folders) → bs ≡ cs → IsSpine (folder ∷ cs)
  spine cs is = subst IsSpine (all_is ∙ ap (λ l. folder ∷ l) is) s

  pub fork-last : length bs < 1 → is_directory (Some folder.top) ≡ true → Forks all path (Some 0)
  fork-last few dir = let none = no-items bs few in told (Some 0) [] none (at-last folder name rest (spine [] none) dir)

  pub fork-file : length bs < 1 → is_directory (Some folder.top) ≡ false → Forks all path None
  fork-file few file = told None [] (no-items bs few) (at-file folder name rest file)

  module _ (child : OpenValue) (cs : Folders) (is : bs ≡ child ∷ cs) where
    pub fork-past : name_cmp child.name name ≡ Less → (count : ℕ) → length bs ≡ count → Forks all path (Some count)
    fork-past l count long = told (Some count) (child ∷ cs) is (at-past folder name rest child cs (spine (child ∷ cs) is) l count (sym (ap length is) ∙ long))

    pub fork-before : name_cmp child.name name ≡ Greater → Forks all path None
    fork-before l = told None (child ∷ cs) is (at-before folder name rest child cs l)

    pub fork-further : name_cmp child.name name ≡ Equal → (found : Option ℕ) → Forks bs rest found → Forks all path found
    fork-further l found h = told found (child ∷ cs) is (further folder name rest child cs (spine (child ∷ cs) is) l found (subst (λ (b : Folders). Forks b rest found) is h))

pub spine-below : (all bs : Folders) (folder : OpenValue) → all ≡ folder ∷ bs → IsSpine all → IsSpine bs
spine-below all bs folder is s = (subst IsSpine is s).1.1

-- ---- the last folder is closed

hanging-held : (front : Folders) (a l : OpenValue) → hanging (front ++ held a l ∷ []) ≡ hanging (front ++ a ∷ l ∷ [])
hanging-held [] a l =
    ap (λ k. (a.name, node_of a.top k) ∷ []) (append-nil (a.kids ++ (l.name, node_of l.top l.kids) ∷ [])) ∙ ap (λ k. (a.name, node_of a.top (a.kids ++ (l.name, node_of l.top k) ∷ [])) ∷ []) (sym (append-nil l.kids))
hanging-held (k ∷ front) a l = ap (λ h. (k.name, node_of k.top (k.kids ++ h)) ∷ []) (hanging-held front a l)

-- the names of the folder above it rise with its own
pub rise-last : (front : Folders) (a l : OpenValue) → Rise (front ++ a ∷ l ∷ []) → is_sorted name_cmp (a.kids ++ (l.name, node_of l.top l.kids) ∷ []) ≡ true
rise-last [] a l r = ap (λ k. is_sorted name_cmp (a.kids ++ (l.name, node_of l.top k) ∷ [])) (sym (append-nil l.kids)) ∙ r.0
rise-last (k ∷ front) a l r = rise-last front a l r.1

rise-held : (front : Folders) (a l : OpenValue) → Rise (front ++ a ∷ l ∷ []) → Rise (front ++ held a l ∷ [])
rise-held [] a l r = (ap (is_sorted name_cmp) (append-nil (a.kids ++ (l.name, node_of l.top l.kids) ∷ [])) ∙ rise-last [] a l r, tt)
rise-held (k ∷ front) a l r = (ap (λ h. is_sorted name_cmp (k.kids ++ h)) (hanging-held front a l) ∙ r.0, rise-held front a l r.1)

-- two were popped
module _ (old mid front : Folders) (last above : OpenValue) (popped : old ≡ mid ++ last ∷ []) (next : mid ≡ front ++ above ∷ []) where
  two : old ≡ front ++ above ∷ last ∷ []
  two = popped ∙ ap (λ l. l ++ last ∷ []) next ∙ append_assoc front (above ∷ []) (last ∷ [])

  pub popped-rise : Rise old → is_sorted name_cmp (above.kids ++ (last.name, node_of last.top last.kids) ∷ []) ≡ true
  popped-rise r = rise-last front above last (subst Rise two r)

  pub popped-held : (new : Folders) (folder : OpenValue) → Rise old → folder ≡ held above last → new ≡ front ++ folder ∷ [] → IsHeld old new
  popped-held new folder r is pushed = record { at = at; rise = subst Rise (sym whole_is) (rise-held front above last (subst Rise two r)) }
    where
      whole_is : new ≡ front ++ held above last ∷ []
      whole_is = pushed ∙ ap (λ f. front ++ f ∷ []) is

      at : (front' : Folders) (a l : OpenValue) → old ≡ front' ++ a ∷ l ∷ [] → new ≡ front' ++ held a l ∷ []
      at front' a l same =
          let ends : mid ++ last ∷ [] ≡ (front' ++ a ∷ []) ++ l ∷ [] = sym popped ∙ same ∙ sym (append_assoc front' (a ∷ []) (l ∷ [])) in
          let mids : front ++ above ∷ [] ≡ front' ++ a ∷ [] = sym next ∙ same-front mid (front' ++ a ∷ []) last l ends in
          whole_is ∙ (λ i. same-front front front' above a mids i ++ held (same-last front front' above a mids i) (same-last mid (front' ++ a ∷ []) last l ends i) ∷ [])

-- fewer than two there are
pub held-few : (old new : Folders) → length old < 2 → new ≡ [] → IsHeld old new
held-few old new few none = record {
  at = λ front a l is. absurd (let n : length old ≡ length front + 2 = ap length is ∙ length-append front (a ∷ l ∷ []) in omega arith);
  rise = subst Rise (sym none) tt;
}

-- ---- many are closed

shut-none : (folder : OpenValue) → shut folder [] ≡ folder
shut-none folder = λ i. record { name = folder.name; top = folder.top; kids = append-nil folder.kids i }

pub shut-start : (old : Folders) → Rise old → AreShut old old 0
shut-start old r = record { at = at; rise = r }
  where
    at : (front : Folders) (folder : OpenValue) (gone : Folders) → old ≡ front ++ folder ∷ gone → length gone ≡ 0 → old ≡ front ++ shut folder gone ∷ []
    at front folder [] is none = is ∙ ap (λ f. front ++ f ∷ []) (sym (shut-none folder))
    at front folder (g ∷ gs) is none = absurd (omega arith)

pub shut-more : (old now new : Folders) (count : ℕ) → AreShut old now count → IsHeld now new → AreShut old new (count + 1)
shut-more old now new count h g = record { at = at; rise = g.rise }
  where
    at : (front : Folders) (folder : OpenValue) (gone : Folders) → old ≡ front ++ folder ∷ gone → length gone ≡ count + 1 → new ≡ front ++ shut folder gone ∷ []
    at front folder [] is long = absurd (omega arith)
    at front folder (x ∷ xs) is long =
        g.at front folder (shut x xs) (h.at (front ++ folder ∷ []) x xs (is ∙ sym (append_assoc front (folder ∷ []) (x ∷ xs))) (omega (arith, long)) ∙ append_assoc front (folder ∷ []) (shut x xs ∷ []))

-- ---- a row came

cut-first : (names : Path) (first : List ℕ) (path more : Path) (n : ℕ) → first ∷ path ≡ names ++ more → length names ≡ n → 1 ≤ n → drop (n - 1) path ≡ more
cut-first [] first path more n is long some = absurd (omega arith)
cut-first (c ∷ cs) first path more n is long some = ap (drop (n - 1)) (ap (drop 1) is) ∙ drop_at cs more (n - 1) (omega arith)

pub not-added : (old : Folders) (path : Path) (entry : Entry) → 0 < length old → Forks old path None → Adds old old path entry false
not-added [] path entry some h = absurd (omega arith)
not-added (folder ∷ more) path entry some h = (h, refl)

forks-is : (old : Folders) (path : Path) (count : ℕ) → 0 < length old → Forks old path (Some count) → IsFork old path count
forks-is [] path count some h = absurd (omega arith)
forks-is (folder ∷ more) path count some h = h.1

forks-next : (old : Folders) (path : Path) (entry : Entry) (count : ℕ) → 0 < length old → Forks old path (Some count) → comes_next (last_of old) (path, entry) ≡ true
forks-next [] path entry count some h = absurd (omega arith)
forks-next (folder ∷ more) path entry count some h = h.0

module _ (old mid : Folders) (path : Path) (entry : Entry) (count : ℕ) (some : 0 < length old) (s : IsSpine old) (found : Forks old path (Some count)) (closed : AreShut old mid count) where
  fork : IsFork old path count
  fork = forks-is old path count some found

  mid-is : mid ≡ fork.kept ++ shut fork.at fork.gone ∷ []
  mid-is = closed.at fork.kept fork.at fork.gone fork.all_is fork.number

  pub mid-some : 1 ≤ length mid
  mid-some = let n : length mid ≡ length fork.kept + 1 = ap length mid-is ∙ length-append fork.kept (shut fork.at fork.gone ∷ []) in omega arith

  names-long : length (names_of (fork.kept ++ fork.at ∷ [])) ≡ length mid
  names-long =
      length-map (fork.kept ++ fork.at ∷ []) (λ folder. folder.name) ∙ length-append fork.kept (fork.at ∷ []) ∙ sym (ap length mid-is ∙ length-append fork.kept (shut fork.at fork.gone ∷ []))

  pub mid-within : length mid - 1 ≤ length path
  mid-within =
      let n = names-long in
      let m : length (first_name old ∷ path) ≡ length (names_of (fork.kept ++ fork.at ∷ [])) + length (fork.name ∷ fork.rest) = ap length fork.path_is ∙ length-append (names_of (fork.kept ++ fork.at ∷ [])) (fork.name ∷ fork.rest) in
      omega arith

  -- the path from there
  left : drop (length mid - 1) path ≡ fork.name ∷ fork.rest
  left = cut-first (names_of (fork.kept ++ fork.at ∷ [])) (first_name old) path (fork.name ∷ fork.rest) (length mid) fork.path_is names-long mid-some

  pub left-some : (seen : Path) → seen ≡ drop (length mid - 1) path → 1 ≤ length seen
  left-some seen is = let n : length seen ≡ length (fork.name ∷ fork.rest) = ap length (is ∙ left) in omega arith

  pub added : (seen rest : Path) (name : List ℕ) (new : Folders) → seen ≡ drop (length mid - 1) path → seen ≡ name ∷ rest → new ≡ mid ++ opened name rest entry → IsAdded old new path entry
  added seen rest name new is parts pushed = record {
    next = forks-next old path entry count some found;
    last = ap last_of new-is ∙ last-more fork.kept fork.at fork.gone fork.name fork.rest path (first_name old) entry fork.path_is;
    spine = subst IsSpine (sym new-is) (spine-more fork.kept fork.at fork.gone fork.name fork.rest entry fork.folders rise fork.after);
    free = record { way = ap (λ m. is_blocked (get m) path) old-whole ∙ ap (is_blocked (get (map_of g.before))) path-rest ∙ g.way; clash = (λ i. clash_of (get (old-whole i) (path-rest i)) entry) ∙ ap (λ o. clash_of o entry) g.none };
    planted = subst (λ (t : TreeMap × (TreeMap × Path)). IsPlanted (get t.0) t.1.0 t.1.1 directory_meta entry) (λ i. (sym old-whole i, (sym new-whole i, sym path-rest i))) g.planted;
  }
    where
      same : fork.name ∷ fork.rest ≡ name ∷ rest
      same = sym left ∙ sym is ∙ parts

      new-is : new ≡ fork.kept ++ shut fork.at fork.gone ∷ opened fork.name fork.rest entry
      new-is =
          pushed ∙ (λ i. mid-is i ++ opened (get_or (sym same i) 0 name) (drop 1 (sym same i)) entry) ∙ append_assoc fork.kept (shut fork.at fork.gone ∷ []) (opened fork.name fork.rest entry)

      rise : Rise (fork.kept ++ fork.at ∷ fork.gone)
      rise = subst Rise fork.all_is (spine-rise old s)

      g : Goes (hanging (fork.kept ++ fork.at ∷ fork.gone)) (hanging (fork.kept ++ shut fork.at fork.gone ∷ opened fork.name fork.rest entry)) (names_of (fork.kept ++ fork.at ∷ []) ++ fork.name ∷ fork.rest) entry
      g = goes fork.kept fork.at fork.gone fork.name fork.rest entry fork.folders rise fork.after

      old-whole : whole old ≡ map_of g.before
      old-whole = ap whole fork.all_is ∙ ap first_map g.old_is

      new-whole : whole new ≡ map_of g.after
      new-whole = ap whole new-is ∙ ap first_map g.new_is

      path-rest : path ≡ g.rest
      path-rest = ap (drop 1) (fork.path_is ∙ g.path_is)
