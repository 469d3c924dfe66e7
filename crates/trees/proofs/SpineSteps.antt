-- Open folders: what stands in their tree before and after a row came, and that they stay in order.
use Rattle.std.specs.Prelude.{◌≡◌, ℕ, Bool, true, false, ◌||◌, cond, Some, None, List, [], ◌∷◌, ◌++◌, drop, option_and_then}
use Rattle.std.proofs.Common.{sym, ap, refl, ◌∙◌, subst, append-nil, arith}
use Rattle.std.specs.Option.{option_or}
use Rattle.std.specs.Ordering.{eq_by_cmp, is_lt}
use Rattle.std.specs.FinMap.{get, find}
use Rattle.std.specs.FinMap.Entries.{is_sorted}
use Rattle.paths.specs.Order.{name_cmp, path_cmp}
use Rattle.paths.specs.Fronts.{is_front}
use Rattle.paths.proofs.FrontLaws.{name_itself, both_hold, both_first, both_second}
use Rattle.trees.specs.declared.entry.Entry.{Entry}
use Rattle.trees.specs.declared.entry.Entry.TheVariants.{Directory}
use Rattle.trees.specs.TreeMap.{directory_meta, is_directory, is_file, is_blocked}
use Rattle.trees.specs.Put.{planted}
use Rattle.trees.specs.PrivateNode.{NodeValue, map_of, joined, node_of, are_below, IsPlanted, ArePlanted}
use Rattle.trees.specs.PrivateSpine.{OpenValue, hanging, shut, names_of, end_of, last_of, Rise, Leads, IsSpine, AreFolders, opened}
use Rattle.trees.proofs.WayLaws.{is_blocked-cons, open-from_fronts}
use Rattle.trees.proofs.TreeLaws.{file-from_directory}
use Rattle.trees.proofs.NodeLaws.{get-map_of_root, get-map_of_cons, get-joined}
use Rattle.trees.proofs.NodeSteps.{whole_rest, IsKid, is-kid, there, plant-kid, leaf-planted, chain-step}
use Rattle.trees.proofs.PartLists.{are_under, between, sorted-under, under-none, same-sorted, find-append, not-below, changed-between, below-from_under}

abbrev Path : Type 0
Path = List (List ℕ)

abbrev Kids : Type 0
Kids = List (List ℕ × NodeValue)

abbrev Folders : Type 0
Folders = List OpenValue

-- ---- names after which another one goes

under-last : (name : List ℕ) (v : NodeValue) (xs : Kids) → are_below name xs ≡ true → are_under xs ((name, v) ∷ []) ≡ true
under-last name v [] h = refl
under-last name v (x ∷ xs) h = both_hold _ _ (both_hold _ _ (both_first _ _ h) refl) (under-last name v xs (both_second (is_lt (name_cmp x.0 name)) _ h))

rise-more : (name : List ℕ) (v : NodeValue) (xs : Kids) → is_sorted name_cmp xs ≡ true → are_below name xs ≡ true → is_sorted name_cmp (xs ++ (name, v) ∷ []) ≡ true
rise-more name v xs s h = between xs [] ((name, v) ∷ []) [] (ap (is_sorted name_cmp) (append-nil xs) ∙ s) refl (under-last name v xs h) (under-none ((name, v) ∷ []))

pub below-push : (name : List ℕ) (xs : Kids) (x : List ℕ × NodeValue) → are_below name xs ≡ true → is_lt (name_cmp x.0 name) ≡ true → are_below name (xs ++ x ∷ []) ≡ true
below-push name [] x h l = both_hold _ _ l refl
below-push name (y ∷ xs) x h l = both_hold _ _ (both_first _ _ h) (below-push name xs x (both_second (is_lt (name_cmp y.0 name)) _ h) l)

-- names before the last one of names that rise
pub before-last : (name : List ℕ) (v : NodeValue) (xs : Kids) → is_sorted name_cmp (xs ++ (name, v) ∷ []) ≡ true → are_below name xs ≡ true
before-last name v xs s = below-from_under name v [] xs (sorted-under xs ((name, v) ∷ []) s)

-- one and the same name keeps them rising
swap-last : (name : List ℕ) (v w : NodeValue) (xs : Kids) → is_sorted name_cmp (xs ++ (name, v) ∷ []) ≡ true → is_sorted name_cmp (xs ++ (name, w) ∷ []) ≡ true
swap-last name v w xs s = same-sorted xs ((name, v) ∷ []) ((name, w) ∷ []) [] refl s

-- ---- a child after all others

over-one : (tie : Bool) (a b : NodeValue) → cond tie (Some b) None ≡ cond tie (Some b) (cond tie (Some a) None)
over-one true a b = refl
over-one false a b = refl

new-kid : (name : List ℕ) (kid : NodeValue) (xs : Kids) → are_below name xs ≡ true → IsKid xs (xs ++ (name, kid) ∷ []) name kid
new-kid name kid xs h =
    is-kid xs (xs ++ (name, kid) ∷ []) name kid (record { at = λ d. changed-between name xs [] ((name, kid) ∷ []) [] (Some kid) h refl (λ d. refl) d ∙ ap (λ l. cond (eq_by_cmp name_cmp d name) (Some kid) (find name_cmp d l)) (append-nil xs) })

other-kid : (name : List ℕ) (a b : NodeValue) (xs : Kids) → are_below name xs ≡ true → IsKid (xs ++ (name, a) ∷ []) (xs ++ (name, b) ∷ []) name b
other-kid name a b xs h =
    is-kid (xs ++ (name, a) ∷ []) (xs ++ (name, b) ∷ []) name b (record { at = changed-between name xs ((name, a) ∷ []) ((name, b) ∷ []) [] (Some b) h refl (λ d. over-one (eq_by_cmp name_cmp d name) a b) })

found-last : (name : List ℕ) (kid : NodeValue) (xs : Kids) → are_below name xs ≡ true → find name_cmp name (xs ++ (name, kid) ∷ []) ≡ Some kid
found-last name kid xs h =
    find-append name xs ((name, kid) ∷ []) ∙ ap (λ o. option_or o (find name_cmp name ((name, kid) ∷ []))) (not-below name xs h) ∙ ap (λ b. cond b (Some kid) None) (name_itself name)

-- what stands below it
down : (top : Entry) (name : List ℕ) (kid : NodeValue) (xs : Kids) → are_below name xs ≡ true → (q : Path) → get (map_of (node_of top (xs ++ (name, kid) ∷ []))) (name ∷ q) ≡ get (map_of kid) q
down top name kid xs h q =
    get-map_of_cons (node_of top (xs ++ (name, kid) ∷ [])) name q ∙ get-joined (xs ++ (name, kid) ∷ []) name q ∙ ap (option_and_then (λ v. get (map_of v) q)) (found-last name kid xs h)

-- children in which an entry was put make a node in which it was put
node-planted : (top entry : Entry) (old new : Kids) (name : List ℕ) (rest : Path) → ArePlanted (joined old) (joined new) name rest directory_meta entry → IsPlanted (get (map_of (node_of top old))) (map_of (node_of top new)) (name ∷ rest) directory_meta entry
node-planted top entry old new name rest h = record { at = at }
  where
    at : (q : Path) → get (map_of (node_of top new)) q ≡ planted (get (map_of (node_of top old))) (name ∷ rest) directory_meta entry q
    at [] = get-map_of_root (node_of top new) ∙ sym (ap (λ o. option_or o (Some (Directory directory_meta))) (get-map_of_root (node_of top old)))
    at (d ∷ ds) =
        get-map_of_cons (node_of top new) d ds ∙ h.at d ds
        ∙ ap (λ o. cond (eq_by_cmp path_cmp (d ∷ ds) (name ∷ rest)) (Some entry) (option_or o (cond (is_front (d ∷ ds) (name ∷ rest)) (Some (Directory directory_meta)) None))) (sym (get-map_of_cons (node_of top old) d ds))

-- ---- what is opened

pub record Hangs (name : List ℕ) (rest : Path) (entry : Entry) : Type 0 where
  pub node : NodeValue
  pub is : hanging (opened name rest entry) ≡ (name, node) ∷ []
  pub planted : IsPlanted (λ _. None) (map_of node) rest directory_meta entry

pub hangs : (name : List ℕ) (rest : Path) (entry : Entry) → Hangs name rest entry
hangs name [] entry = record { node = node_of entry []; is = refl; planted = leaf-planted (node_of entry []) [] directory_meta entry refl refl (omega arith) }
hangs name (next ∷ more) entry =
    let h = hangs next more entry in record {
      node = node_of (Directory directory_meta) (hanging (opened next more entry));
      is = refl;
      planted = chain-step (hanging (opened next more entry)) (next ∷ more) next directory_meta entry h.node (omega arith) refl h.is (subst (λ (p : Path). IsPlanted (λ _. None) (map_of h.node) p directory_meta entry) (sym (whole_rest next more)) h.planted);
    }

leads-opened : (folder : OpenValue) (name : List ℕ) (rest : Path) (entry : Entry) → is_directory (Some folder.top) ≡ true → Leads folder (opened name rest entry)
leads-opened folder name [] entry d = d
leads-opened folder name (next ∷ more) entry d = d

pub spine-opened : (name : List ℕ) (rest : Path) (entry : Entry) → IsSpine (opened name rest entry)
spine-opened name [] entry = (refl, (refl, tt))
spine-opened name (next ∷ more) entry =
    (ap (is_sorted name_cmp) (hangs next more entry).is, (leads-opened (record { name = name; top = Directory directory_meta; kids = [] }) next more entry refl, spine-opened next more entry))

pub names-opened : (name : List ℕ) (rest : Path) (entry : Entry) → names_of (opened name rest entry) ≡ name ∷ rest
names-opened name [] entry = refl
names-opened name (next ∷ more) entry = ap (λ l. name ∷ l) (names-opened next more entry)

-- ---- one folder below another

record IsStep (top : Entry) (kids old new : Kids) (path : Path) (entry : Entry) : Type 0 where
  none : get (map_of (node_of top (kids ++ old))) path ≡ None
  way : is_blocked (get (map_of (node_of top (kids ++ old)))) path ≡ false
  planted : IsPlanted (get (map_of (node_of top (kids ++ old)))) (map_of (node_of top (kids ++ new))) path directory_meta entry

-- a child in which an entry was put
module _ (top : Entry) (kids : Kids) (name : List ℕ) (a b : NodeValue) (rest : Path) (entry : Entry) (dir : is_directory (Some top) ≡ true) (h : are_below name kids ≡ true) where
  up-step : get (map_of a) rest ≡ None → is_blocked (get (map_of a)) rest ≡ false → IsPlanted (get (map_of a)) (map_of b) rest directory_meta entry → IsStep top kids ((name, a) ∷ []) ((name, b) ∷ []) (name ∷ rest) entry
  up-step none way planted = record {
    none = down top name a kids h rest ∙ none;
    way =
        is_blocked-cons (get (map_of (node_of top (kids ++ (name, a) ∷ [])))) name rest
        ∙ (λ i. is_file (get-map_of_root (node_of top (kids ++ (name, a) ∷ [])) i) || is_blocked (λ p. down top name a kids h p i) rest)
        ∙ (λ i. file-from_directory (Some top) dir i || way i);
    planted =
        node-planted top entry (kids ++ (name, a) ∷ []) (kids ++ (name, b) ∷ []) name rest
        (plant-kid (kids ++ (name, a) ∷ []) (kids ++ (name, b) ∷ []) name rest directory_meta entry b (Some a) (there (kids ++ (name, a) ∷ []) name (Some a) (found-last name a kids h)) (other-kid name a b kids h) planted);
  }

-- a child that wasn't there
module _ (top : Entry) (kids : Kids) (name : List ℕ) (rest : Path) (entry : Entry) (dir : is_directory (Some top) ≡ true) (h : are_below name kids ≡ true) where
  none-at : (q : Path) → get (map_of (node_of top kids)) (name ∷ q) ≡ None
  none-at q = get-map_of_cons (node_of top kids) name q ∙ get-joined kids name q ∙ ap (option_and_then (λ v. get (map_of v) q)) (not-below name kids h)

  way-to : is_blocked (get (map_of (node_of top kids))) (name ∷ rest) ≡ false
  way-to =
      is_blocked-cons (get (map_of (node_of top kids))) name rest
      ∙ (λ i. (ap is_file (get-map_of_root (node_of top kids)) ∙ file-from_directory (Some top) dir) i || open-from_fronts (λ p. get (map_of (node_of top kids)) (name ∷ p)) rest (λ f g. ap is_file (none-at f)) i)

  planted-in : IsPlanted (get (map_of (node_of top kids))) (map_of (node_of top (kids ++ hanging (opened name rest entry)))) (name ∷ rest) directory_meta entry
  planted-in =
      let new = hangs name rest entry in
      subst (λ (l : Kids). IsPlanted (get (map_of (node_of top kids))) (map_of (node_of top (kids ++ l))) (name ∷ rest) directory_meta entry) (sym new.is)
      (node-planted top entry kids (kids ++ (name, new.node) ∷ []) name rest (plant-kid kids (kids ++ (name, new.node) ∷ []) name rest directory_meta entry new.node None (there kids name None (not-below name kids h)) (new-kid name new.node kids h) new.planted))

-- ---- open folders, as the child that the first is, before and after

pub record Goes (old new : Kids) (path : Path) (entry : Entry) : Type 0 where
  pub name : List ℕ
  pub before : NodeValue
  pub after : NodeValue
  pub rest : Path
  pub old_is : old ≡ (name, before) ∷ []
  pub new_is : new ≡ (name, after) ∷ []
  pub path_is : path ≡ name ∷ rest
  pub none : get (map_of before) rest ≡ None
  pub way : is_blocked (get (map_of before)) rest ≡ false
  pub planted : IsPlanted (get (map_of before)) (map_of after) rest directory_meta entry

pub goes : (kept : Folders) (at : OpenValue) (gone : Folders) (name : List ℕ) (rest : Path) (entry : Entry) → AreFolders (kept ++ at ∷ []) → Rise (kept ++ at ∷ gone) → are_below name (at.kids ++ hanging gone) ≡ true
    → Goes (hanging (kept ++ at ∷ gone)) (hanging (kept ++ shut at gone ∷ opened name rest entry)) (names_of (kept ++ at ∷ []) ++ name ∷ rest) entry
goes [] at gone name rest entry dirs rise h = record {
  name = at.name;
  before = node_of at.top (at.kids ++ hanging gone);
  after = node_of at.top ((at.kids ++ hanging gone) ++ hanging (opened name rest entry));
  rest = name ∷ rest;
  old_is = refl;
  new_is = refl;
  path_is = refl;
  none = none-at at.top (at.kids ++ hanging gone) name rest entry dirs.0 h rest;
  way = way-to at.top (at.kids ++ hanging gone) name rest entry dirs.0 h;
  planted = planted-in at.top (at.kids ++ hanging gone) name rest entry dirs.0 h;
}
goes (k ∷ kept) at gone name rest entry dirs rise h =
    let g = goes kept at gone name rest entry dirs.1 rise.1 h in
    let before : are_below g.name k.kids ≡ true = before-last g.name g.before k.kids (sym (ap (λ l. is_sorted name_cmp (k.kids ++ l)) g.old_is) ∙ rise.0) in
    let one = up-step k.top k.kids g.name g.before g.after g.rest entry dirs.0 before g.none g.way g.planted in
    let all : IsStep k.top k.kids (hanging (kept ++ at ∷ gone)) (hanging (kept ++ shut at gone ∷ opened name rest entry)) (names_of (kept ++ at ∷ []) ++ name ∷ rest) entry =
    subst (λ (t : Kids × (Kids × Path)). IsStep k.top k.kids t.0 t.1.0 t.1.1 entry) (λ i. (sym g.old_is i, (sym g.new_is i, sym g.path_is i))) one in record {
      name = k.name;
      before = node_of k.top (k.kids ++ hanging (kept ++ at ∷ gone));
      after = node_of k.top (k.kids ++ hanging (kept ++ shut at gone ∷ opened name rest entry));
      rest = names_of (kept ++ at ∷ []) ++ name ∷ rest;
      old_is = refl;
      new_is = refl;
      path_is = refl;
      none = all.none;
      way = all.way;
      planted = all.planted;
    }

-- ---- they stay in order

pub spine-rise : (all : Folders) → IsSpine all → Rise all
spine-rise [] s = tt
spine-rise (k ∷ all) s = (s.0, spine-rise all s.1.1)

leads-kept : (k : OpenValue) (kept : Folders) (x : OpenValue) (more : Folders) → is_directory (Some k.top) ≡ true → Leads k (kept ++ x ∷ more)
leads-kept k [] x more d = d
leads-kept k (y ∷ kept) x more d = d

pub spine-more : (kept : Folders) (at : OpenValue) (gone : Folders) (name : List ℕ) (rest : Path) (entry : Entry) → AreFolders (kept ++ at ∷ []) → Rise (kept ++ at ∷ gone) → are_below name (at.kids ++ hanging gone) ≡ true → IsSpine (kept ++ shut at gone ∷ opened name rest entry)
spine-more [] at gone name rest entry dirs rise h =
    let new = hangs name rest entry in (
      ap (λ l. is_sorted name_cmp ((at.kids ++ hanging gone) ++ l)) new.is ∙ rise-more name new.node (at.kids ++ hanging gone) rise.0 h,
      (leads-opened (shut at gone) name rest entry dirs.0, spine-opened name rest entry),
    )
spine-more (k ∷ kept) at gone name rest entry dirs rise h =
    let g = goes kept at gone name rest entry dirs.1 rise.1 h in (
      ap (λ l. is_sorted name_cmp (k.kids ++ l)) g.new_is ∙ swap-last g.name g.before g.after k.kids (sym (ap (λ l. is_sorted name_cmp (k.kids ++ l)) g.old_is) ∙ rise.0),
      (leads-kept k kept (shut at gone) (opened name rest entry) dirs.0, spine-more kept at gone name rest entry dirs.1 rise.1 h),
    )

-- ---- the last row

pub end-name : (folder : OpenValue) (more : Folders) → folder.name ∷ (end_of folder more).0 ≡ names_of (folder ∷ more)
end-name folder [] = refl
end-name folder (next ∷ more) = ap (λ l. folder.name ∷ l) (end-name next more)

pub end-opened : (folder : OpenValue) (name : List ℕ) (rest : Path) (entry : Entry) → (end_of folder (opened name rest entry)).1 ≡ entry
end-opened folder name [] entry = refl
end-opened folder name (next ∷ more) entry = end-opened (record { name = name; top = Directory directory_meta; kids = [] }) next more entry

end-kept : (folder : OpenValue) (kept : Folders) (x : OpenValue) (name : List ℕ) (rest : Path) (entry : Entry) → (end_of folder (kept ++ x ∷ opened name rest entry)).1 ≡ entry
end-kept folder [] x name rest entry = end-opened x name rest entry
end-kept folder (y ∷ kept) x name rest entry = end-kept y kept x name rest entry

names-more : (kept : Folders) (at : OpenValue) (gone : Folders) (name : List ℕ) (rest : Path) (entry : Entry) → names_of (kept ++ shut at gone ∷ opened name rest entry) ≡ names_of (kept ++ at ∷ []) ++ name ∷ rest
names-more [] at gone name rest entry = ap (λ l. at.name ∷ l) (names-opened name rest entry)
names-more (k ∷ kept) at gone name rest entry = ap (λ l. k.name ∷ l) (names-more kept at gone name rest entry)

pub end-is : (folder : OpenValue) (more : Folders) (first : List ℕ) (path : Path) (entry : Entry) → names_of (folder ∷ more) ≡ first ∷ path → (end_of folder more).1 ≡ entry → last_of (folder ∷ more) ≡ Some (path, entry)
end-is folder more first path entry names top = λ i. Some (ap (drop 1) (end-name folder more ∙ names) i, top i)

pub last-more : (kept : Folders) (at : OpenValue) (gone : Folders) (name : List ℕ) (rest path : Path) (first : List ℕ) (entry : Entry) → first ∷ path ≡ names_of (kept ++ at ∷ []) ++ name ∷ rest → last_of (kept ++ shut at gone ∷ opened name rest entry) ≡ Some (path, entry)
last-more [] at gone name rest path first entry is = end-is (shut at gone) (opened name rest entry) first path entry (names-more [] at gone name rest entry ∙ sym is) (end-opened (shut at gone) name rest entry)
last-more (k ∷ kept) at gone name rest path first entry is =
    end-is k (kept ++ shut at gone ∷ opened name rest entry) first path entry (names-more (k ∷ kept) at gone name rest entry ∙ sym is) (end-kept k kept (shut at gone) name rest entry)
