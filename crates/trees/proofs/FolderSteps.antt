-- Folders that a COPY places where nothing lies below its destination, and that meet in directories: none of their changes fails, and
-- what is placed last at each path.
use Rattle.std.specs.Prelude.{◌≡◌, ℕ, Bool, true, false, ◌||◌, ◌&&◌, not, cond, Option, Some, None, List, [], ◌∷◌, ◌++◌, length, is_some, drop, nat_lt, ◌⊎◌}
use Rattle.std.proofs.Common.{sym, ap, refl, ◌∙◌, subst, true≢false, append-nil, append_assoc, inl, inr}
use Rattle.std.specs.List.{AllByRecursion}
use Rattle.std.specs.Option.{option_or}
use Rattle.std.specs.Ordering.{eq_by_cmp, is_lt, is_eq}
use Rattle.std.specs.declared.cmp.Ordering.{Ordering}
use Rattle.std.specs.declared.cmp.Ordering.TheVariants.{Less, Equal, Greater}
use Rattle.std.specs.FinMap.{get, find}
use Rattle.std.specs.FinMap.Entries.{is_sorted, below_all}
use Rattle.paths.specs.Order.{path_cmp, name_cmp}
use Rattle.paths.specs.Fronts.{is_front}
use Rattle.trees.specs.declared.meta.Meta.{Meta}
use Rattle.trees.specs.declared.entry.Entry.{Entry}
use Rattle.trees.specs.declared.entry.Entry.TheVariants.{Directory, File}
use Rattle.trees.specs.declared.copy.Change.{Change}
use Rattle.trees.specs.declared.copy.Change.TheVariants.{Place, Make}
use Rattle.trees.specs.declared.cause.Cause.TheVariants.{F2, F3, F5}
use Rattle.trees.specs.TreeMap.{TreeMap, IsTree, is_directory, is_file, is_blocked}
use Rattle.trees.specs.Put.{clash_of, cause_at}
use Rattle.trees.specs.Make.{make_cause}
use Rattle.trees.specs.Copy.{placed_entry, placements, placed_by, last_placed, needs_directory, changed_tree, kind_of, kind_placed, is_repeated, change_cause, first_cause}
use Rattle.trees.specs.PrivateCopy.{IsUnder, is_way, IsFreeBelow, keeping}
use Rattle.paths.proofs.FrontLaws.{name_same, name_itself, path_same, path_itself, path_eq-cons, both_first, both_second, both_hold, front-asym, front-irrefl, front-of, any-fronts}
use Rattle.trees.proofs.WayLaws.{open-front, open-from_fronts}
use Rattle.trees.proofs.TreeLaws.{file-from_directory}
use Rattle.trees.proofs.CopyLaws.{get-changed_tree, last_placed-more, needs_directory-more, way-either}
use Rattle.trees.proofs.SeenSteps.{kept}

abbrev pub Path : Type 0
Path = List (List ℕ)

-- ---- paths below a path

pub cancel : (d a b : Path) → d ++ a ≡ d ++ b → a ≡ b
cancel [] a b e = e
cancel (x ∷ xs) a b e = cancel xs a b (ap (drop 1) e)

front-cancel : (d f p : Path) → is_front (d ++ f) (d ++ p) ≡ is_front f p
front-cancel [] f p = refl
front-cancel (x ∷ xs) f p = ap (λ b. b && is_front (xs ++ f) (xs ++ p)) (name_itself x) ∙ front-cancel xs f p

tie-cancel : (d a b : Path) → eq_by_cmp path_cmp (d ++ a) (d ++ b) ≡ eq_by_cmp path_cmp a b
tie-cancel [] a b = refl
tie-cancel (x ∷ xs) a b = path_eq-cons x x (xs ++ a) (xs ++ b) ∙ ap (λ t. t && eq_by_cmp path_cmp (xs ++ a) (xs ++ b)) (name_itself x) ∙ tie-cancel xs a b

-- a front of a path below d is a front of d, or d, or below d
abbrev Lies : Path → Path → Type 0
Lies d f = (is_front f d ≡ true) ⊎ ((f ≡ d) ⊎ IsUnder d f)

front-split : (f d r : Path) → is_front f (d ++ r) ≡ true → Lies d f
front-split [] [] r h = inr (inl refl)
front-split [] (x ∷ xs) r h = inl refl
front-split (c ∷ cs) [] r h = inr (inr (c, (cs, refl)))
front-split (c ∷ cs) (x ∷ xs) r h = longer (front-split cs xs r (both_second (eq_by_cmp name_cmp c x) _ h))
  where
    same : c ≡ x
    same = name_same c x (both_first (eq_by_cmp name_cmp c x) _ h)

    longer : Lies xs cs → Lies (x ∷ xs) (c ∷ cs)
    longer (inl g) = inl (both_hold _ _ (both_first (eq_by_cmp name_cmp c x) _ h) g)
    longer (inr (inl e)) = inr (inl (λ i. same i ∷ e i))
    longer (inr (inr u)) = inr (inr (u.0, (u.1.0, λ i. same i ∷ u.1.1 i)))

-- what is below d is neither d nor a front of it
pub below-way : (d : Path) (c : List ℕ) (cs : Path) → is_way d (d ++ c ∷ cs) ≡ true → ⊥
below-way d c cs h = by (is_front (d ++ c ∷ cs) d) refl h
  where
    by : (b : Bool) → is_front (d ++ c ∷ cs) d ≡ b → (b || eq_by_cmp path_cmp (d ++ c ∷ cs) d) ≡ true → ⊥
    by true f g = front-asym (d ++ c ∷ cs) d f (front-of d c cs)
    by false f g = true≢false (sym (front-of d c cs) ∙ (λ i. is_front d (path_same (d ++ c ∷ cs) d g i)) ∙ front-irrefl d)

pub never : (b : Bool) → (b ≡ true → ⊥) → b ≡ false
never true h = absurd (h refl)
never false h = refl

none-above : (r s : Path) → is_lt (path_cmp r s) ≡ true → eq_by_cmp path_cmp s r ≡ true → ⊥
none-above r s l t = by (path_cmp r r) (ap (λ x. is_lt (path_cmp r x)) (sym (path_same s r t)) ∙ l) (path_itself r)
  where
    by : (o : Ordering) → is_lt o ≡ true → is_eq o ≡ true → ⊥
    by Less l e = true≢false (sym e)
    by Equal l e = true≢false (sym l)
    by Greater l e = true≢false (sym e)

clear : (a b : Bool) → cond (a || b) (Some F2) None ≡ None → (a ≡ false) × (b ≡ false)
clear true b e = absurd (true≢false (ap is_some e))
clear false true e = absurd (true≢false (ap is_some e))
clear false false e = (refl, refl)

-- what is below d isn't on the way to it
pub under-way : (d q : Path) → IsUnder d q → is_way d q ≡ true → ⊥
under-way d q u w = below-way d u.0 u.1.0 ((λ i. is_way d (sym u.1.1 i)) ∙ w)

-- ---- lists of changes, one after the other

or_none : (x : Option Entry) → x ≡ option_or x None
or_none None = refl
or_none (Some e) = refl

or_assoc : {A : Type 0} (a b c : Option A) → option_or (option_or a b) c ≡ option_or a (option_or b c)
or_assoc None b c = refl
or_assoc (Some e) b c = refl

pub last_placed-append : (xs ys : List Change) (q : Path) → last_placed (xs ++ ys) q ≡ option_or (last_placed ys q) (last_placed xs q)
last_placed-append [] ys q = or_none (last_placed ys q)
last_placed-append (x ∷ xs) ys q = ap (λ o. option_or o (placed_by x q)) (last_placed-append xs ys q) ∙ or_assoc (last_placed ys q) (last_placed xs q) (placed_by x q)

pub first_cause-append : (meta : Meta) (tree : TreeMap) (before xs ys : List Change) → first_cause meta tree before (xs ++ ys) ≡ option_or (first_cause meta tree before xs) (first_cause meta tree (before ++ xs) ys)
first_cause-append meta tree before [] ys = ap (λ bs. first_cause meta tree bs ys) (sym (append-nil before))
first_cause-append meta tree before (x ∷ xs) ys =
    let c = change_cause (kind_placed before) (get (changed_tree meta tree before)) x in
    ap (option_or c) (first_cause-append meta tree (before ++ x ∷ []) xs ys)
    ∙ (λ i. option_or c (option_or (first_cause meta tree (before ++ x ∷ []) xs) (first_cause meta tree (append_assoc before (x ∷ []) xs i) ys)))
    ∙ sym (or_assoc c (first_cause meta tree (before ++ x ∷ []) xs) (first_cause meta tree (before ++ x ∷ xs) ys))

-- a row doesn't go too deep below d
abbrev pub IsShallow : Path → Path × Entry → Type 0
IsShallow d row = nat_lt 64 (length (d ++ row.0)) ≡ false

-- one of these rows does
abbrev pub HasDeep : Path → List (Path × Entry) → Type 0
HasDeep d [] = ⊥
HasDeep d (row ∷ rest) = (nat_lt 64 (length (d ++ row.0)) ≡ true) ⊎ HasDeep d rest

pub found-deep : (d q : Path) (rows : List (Path × Entry)) → nat_lt 64 (length (d ++ q)) ≡ true → is_some (find path_cmp q rows) ≡ true → HasDeep d rows
found-deep d q [] deep some = absurd (true≢false (sym some))
found-deep d q (row ∷ rows) deep some = by (eq_by_cmp path_cmp q row.0) refl some (found-deep d q rows deep)
  where
    by : (tie : Bool) → eq_by_cmp path_cmp q row.0 ≡ tie → is_some (cond tie (Some row.1) (find path_cmp q rows)) ≡ true → (is_some (find path_cmp q rows) ≡ true → HasDeep d rows) → (nat_lt 64 (length (d ++ row.0)) ≡ true) ⊎ HasDeep d rows
    by true t there later = inl (ap (λ p. nat_lt 64 (length (d ++ p))) (sym (path_same q row.0 t)) ∙ deep)
    by false t there later = inr (later there)

-- ---- the changes of a folder, where `whole` is a tree of all that is placed in the end

module _ (dest : Path) (whole : TreeMap) (whole_is : IsTree whole) where
  -- a row of the folder: a path that isn't its own, at which the whole has something of the row's kind
  pub record IsRow (row : Path × Entry) : Type 0 where
    pub named : IsUnder [] row.0
    pub there : is_some (get whole row.0) ≡ true
    pub kind : is_directory (get whole row.0) ≡ is_directory (Some row.1)

  -- what changes do that were made so far
  pub record IsHanging (before : List Change) : Type 0 where
    pub placed : (q : Path) (e : Entry) → last_placed before q ≡ Some e → (u : IsUnder dest q) × (is_directory (get whole (u.0 ∷ u.1.0)) ≡ is_directory (Some e))
    pub needs : (q : Path) → needs_directory before q ≡ true → (is_way dest q ≡ true) ⊎ ((u : IsUnder dest q) × (is_directory (get whole (u.0 ∷ u.1.0)) ≡ true))

  abbrev place : Path × Entry → Change
  place row = Place (dest ++ row.0) (placed_entry keeping row.1)

  -- the destination is made
  pub hang-make : (before : List Change) → IsHanging before → IsHanging (before ++ Make dest ∷ [])
  hang-make before h = record {
    placed = λ q e g. h.placed q e (sym (last_placed-more before (Make dest) q) ∙ g);
    needs = λ q g. by_need q (needs_directory before q) refl (sym (needs_directory-more before (Make dest) q ∙ ap (λ b. needs_directory before q || b) (way-either q dest)) ∙ g);
  }
    where
      by_need : (q : Path) (b : Bool) → needs_directory before q ≡ b → (b || is_way dest q) ≡ true → (is_way dest q ≡ true) ⊎ ((u : IsUnder dest q) × (is_directory (get whole (u.0 ∷ u.1.0)) ≡ true))
      by_need q true n g = h.needs q n
      by_need q false n g = inl g

  -- a front of a row's path that is below the destination is a directory of the whole
  front-directory : (row : Path × Entry) → IsRow row → (q : Path) (u : IsUnder dest q) → is_front q (dest ++ row.0) ≡ true → is_directory (get whole (u.0 ∷ u.1.0)) ≡ true
  front-directory row is q u g =
      whole_is.parents (u.0 ∷ u.1.0) row.0 (sym (front-cancel dest (u.0 ∷ u.1.0) row.0) ∙ (λ i. is_front (sym u.1.1 i) (dest ++ row.0)) ∙ g) is.there

  hang-more : (before : List Change) (row : Path × Entry) → IsHanging before → IsRow row → IsHanging (before ++ place row ∷ [])
  hang-more before row h is = record {
    placed = λ q e g. by_tie q e (eq_by_cmp path_cmp q (dest ++ row.0)) refl (sym (last_placed-more before (place row) q) ∙ g);
    needs = λ q g. by_need q (needs_directory before q) refl (sym (needs_directory-more before (place row) q ∙ ap (λ b. needs_directory before q || b) (any-fronts q (dest ++ row.0))) ∙ g);
  }
    where
      by_tie : (q : Path) (e : Entry) (tie : Bool) → eq_by_cmp path_cmp q (dest ++ row.0) ≡ tie → option_or (cond tie (Some (placed_entry keeping row.1)) None) (last_placed before q) ≡ Some e → (u : IsUnder dest q) × (is_directory (get whole (u.0 ∷ u.1.0)) ≡ is_directory (Some e))
      by_tie q e true t g = (
        (is.named.0, (is.named.1.0, path_same q (dest ++ row.0) t ∙ ap (λ r. dest ++ r) is.named.1.1)),
        ap (λ r. is_directory (get whole r)) (sym is.named.1.1) ∙ is.kind ∙ ap (λ x. is_directory (Some x)) (sym (kept row.1)) ∙ ap is_directory g,
      )
      by_tie q e false t g = h.placed q e g

      by_need : (q : Path) (b : Bool) → needs_directory before q ≡ b → (b || is_front q (dest ++ row.0)) ≡ true → (is_way dest q ≡ true) ⊎ ((u : IsUnder dest q) × (is_directory (get whole (u.0 ∷ u.1.0)) ≡ true))
      by_need q true n g = h.needs q n
      by_need q false n g = by_place (front-split q dest row.0 g)
        where
          by_place : Lies dest q → (is_way dest q ≡ true) ⊎ ((u : IsUnder dest q) × (is_directory (get whole (u.0 ∷ u.1.0)) ≡ true))
          by_place (inl f) = inl (ap (λ b. b || eq_by_cmp path_cmp q dest) f)
          by_place (inr (inl e)) = inl ((λ i. is_front q dest || eq_by_cmp path_cmp (e i) dest) ∙ (λ i. is_front q dest || path_itself dest i) ∙ or_true (is_front q dest))
            where
              or_true : (b : Bool) → (b || true) ≡ true
              or_true true = refl
              or_true false = refl
          by_place (inr (inr u)) = inr (u, front-directory row is q u g)

  pub hang-all : (before : List Change) (rest : List (Path × Entry)) → IsHanging before → AllByRecursion IsRow rest → IsHanging (before ++ placements keeping dest rest)
  hang-all before [] h rows = subst IsHanging (sym (append-nil before)) h
  hang-all before (row ∷ rest) h rows = subst IsHanging (append_assoc before (place row ∷ []) (placements keeping dest rest)) (hang-all (before ++ place row ∷ []) rest (hang-more before row h rows.0) rows.1)

  -- what was placed at a row's path before, if anything was, is a directory, and so is the row's entry
  abbrev pub IsFresh : List Change → Path × Entry → Type 0
  IsFresh before row = (last_placed before (dest ++ row.0) ≡ None) ⊎ (is_directory (Some row.1) ≡ true)

  abbrev pub AreFresh : List Change → List (Path × Entry) → Type 0
  AreFresh before rows = AllByRecursion (IsFresh before) rows

  still-fresh : (before : List Change) (row : Path × Entry) (rest : List (Path × Entry)) → below_all path_cmp row.0 rest ≡ true → AreFresh before rest → AreFresh (before ++ place row ∷ []) rest
  still-fresh before row [] s f = tt
  still-fresh before row (x ∷ xs) s f = (one f.0, still-fresh before row xs (both_second (is_lt (path_cmp row.0 x.0)) _ s) f.1)
    where
      apart : eq_by_cmp path_cmp (dest ++ x.0) (dest ++ row.0) ≡ false
      apart = tie-cancel dest x.0 row.0 ∙ never (eq_by_cmp path_cmp x.0 row.0) (none-above row.0 x.0 (both_first _ _ s))

      one : IsFresh before x → IsFresh (before ++ place row ∷ []) x
      one (inl none) = inl (last_placed-more before (place row) (dest ++ x.0) ∙ (λ i. option_or (cond (apart i) (Some (placed_entry keeping row.1)) None) (none i)))
      one (inr directory) = inr directory

  -- ---- none of them fails

  module _ (meta : Meta) (tree : TreeMap) (free : make_cause (get tree) dest ≡ None) (none : IsFreeBelow tree dest) where
    no_file : (t : Option Entry) (b : Bool) → is_file t ≡ false → is_file (option_or t (cond b (Some (Directory meta)) None)) ≡ false
    no_file (Some e) b h = h
    no_file None true h = refl
    no_file None false h = refl

    way-free : (f : Path) → Lies dest f → is_file (get tree f) ≡ false
    way-free f (inl g) = open-front (get tree) f dest (clear _ _ free).0 g
    way-free f (inr (inl e)) = ap (λ x. is_file (get tree x)) e ∙ (clear (is_blocked (get tree) dest) (is_file (get tree dest)) free).1
    way-free f (inr (inr u)) = ap (λ x. is_file (get tree x)) u.1.1 ∙ ap is_file (none u.0 u.1.0)

    fits : (e : Entry) → is_directory (Some e) ≡ true → clash_of (Some (Directory meta)) e ≡ None
    fits (Directory m) d = refl
    fits (File m b) d = absurd (true≢false (sym d))

    fit : (x e : Entry) → is_directory (Some x) ≡ true → is_directory (Some e) ≡ true → clash_of (Some x) e ≡ None
    fit (Directory m) (Directory n) d g = refl
    fit (Directory m) (File n b) d g = absurd (true≢false (sym g))
    fit (File m c) e d g = absurd (true≢false (sym d))

    -- the destination can still be made
    way-kept : (before : List Change) → IsHanging before → (q : Path) → is_way dest q ≡ true → Lies dest q → is_file (get (changed_tree meta tree before) q) ≡ false
    way-kept before h q w lies = ap is_file (get-changed_tree meta tree before q) ∙ by (last_placed before q) refl
      where
        by : (x : Option Entry) → last_placed before q ≡ x → is_file (option_or x (option_or (get tree q) (cond (needs_directory before q) (Some (Directory meta)) None))) ≡ false
        by None l = no_file (get tree q) (needs_directory before q) (way-free q lies)
        by (Some e) l = absurd (under-way dest q (h.placed q e l).0 w)

    pub make-free : (before : List Change) → IsHanging before → make_cause (get (changed_tree meta tree before)) dest ≡ None
    make-free before h = (λ i. cond (open-from_fronts (get (changed_tree meta tree before)) dest (λ f g. way-kept before h f (ap (λ b. b || eq_by_cmp path_cmp f dest) g) (inl g)) i || way-kept before h dest own (inr (inl refl)) i) (Some F2) None)
      where
        own : is_way dest dest ≡ true
        own = λ i. front-irrefl dest i || path_itself dest i

    module _ (before : List Change) (row : Path × Entry) (h : IsHanging before) (is : IsRow row) (fresh : IsFresh before row) (shallow : nat_lt 64 (length (dest ++ row.0)) ≡ false) where
      front_free : (f : Path) → is_front f (dest ++ row.0) ≡ true → (x : Option Entry) → last_placed before f ≡ x → is_file (option_or x (option_or (get tree f) (cond (needs_directory before f) (Some (Directory meta)) None))) ≡ false
      front_free f g None l = no_file (get tree f) (needs_directory before f) (way-free f (front-split f dest row.0 g))
      front_free f g (Some e) l =
          let w = h.placed f e l in
          file-from_directory (Some e) (sym w.1 ∙ front-directory row is f w.0 g)

      open_way : is_blocked (get (changed_tree meta tree before)) (dest ++ row.0) ≡ false
      open_way = open-from_fronts (get (changed_tree meta tree before)) (dest ++ row.0) (λ f g. ap is_file (get-changed_tree meta tree before f) ∙ front_free f g (last_placed before f) refl)

      as_directory : (is_way dest (dest ++ row.0) ≡ true) ⊎ ((u : IsUnder dest (dest ++ row.0)) × (is_directory (get whole (u.0 ∷ u.1.0)) ≡ true)) → is_directory (Some row.1) ≡ true
      as_directory (inl w) = absurd (below-way dest is.named.0 is.named.1.0 ((λ i. is_way dest (dest ++ sym is.named.1.1 i)) ∙ w))
      as_directory (inr u) = sym is.kind ∙ ap (λ r. is_directory (get whole r)) (cancel dest row.0 (u.0.0 ∷ u.0.1.0) u.0.1.1) ∙ u.1

      -- what was placed here before is of the row's kind, so both are directories
      both_kinds : (e : Entry) → last_placed before (dest ++ row.0) ≡ Some e → (is_directory (Some e) ≡ true) × (is_directory (Some row.1) ≡ true)
      both_kinds e l = by fresh
        where
          same : is_directory (Some e) ≡ is_directory (Some row.1)
          same =
              let w = h.placed (dest ++ row.0) e l in
              sym w.1 ∙ ap (λ r. is_directory (get whole r)) (sym (cancel dest row.0 (w.0.0 ∷ w.0.1.0) w.0.1.1)) ∙ is.kind

          by : IsFresh before row → (is_directory (Some e) ≡ true) × (is_directory (Some row.1) ≡ true)
          by (inl gone) = absurd (true≢false (ap is_some (sym l ∙ gone)))
          by (inr directory) = (same ∙ directory, directory)

      once : (x : Option Entry) → last_placed before (dest ++ row.0) ≡ x → is_repeated (kind_of x) row.1 ≡ false
      once None l = refl
      once (Some e) l = let d = both_kinds e l in (λ i. not (d.0 i && d.1 i))

      no_clash : (x : Option Entry) → last_placed before (dest ++ row.0) ≡ x → clash_of (option_or x (option_or (get tree (dest ++ row.0)) (cond (needs_directory before (dest ++ row.0)) (Some (Directory meta)) None))) row.1 ≡ None
      no_clash (Some e) l = let d = both_kinds e l in fit e row.1 d.0 d.1
      no_clash None l = ap (λ t. clash_of (option_or t (cond (needs_directory before (dest ++ row.0)) (Some (Directory meta)) None)) row.1) gone ∙ by (needs_directory before (dest ++ row.0)) refl
        where
          gone : get tree (dest ++ row.0) ≡ None
          gone = ap (λ r. get tree (dest ++ r)) is.named.1.1 ∙ none is.named.0 is.named.1.0

          by : (b : Bool) → needs_directory before (dest ++ row.0) ≡ b → clash_of (cond b (Some (Directory meta)) None) row.1 ≡ None
          by true n = fits row.1 (as_directory (h.needs (dest ++ row.0) n))
          by false n = refl

      no_cause : change_cause (kind_placed before) (get (changed_tree meta tree before)) (place row) ≡ None
      no_cause =
          (λ i. change_cause (kind_placed before) (get (changed_tree meta tree before)) (Place (dest ++ row.0) (kept row.1 i)))
          ∙ (λ i. cond (shallow i) (Some F5) (cond (once (last_placed before (dest ++ row.0)) refl i) (Some F3) (cond (shallow i) (Some F5) (cond (open_way i) (Some F2) (clash_of (get-changed_tree meta tree before (dest ++ row.0) i) row.1)))))
          ∙ no_clash (last_placed before (dest ++ row.0)) refl

    pub no-causes : (before : List Change) (rest : List (Path × Entry)) → IsHanging before → AllByRecursion IsRow rest → is_sorted path_cmp rest ≡ true → AreFresh before rest → AllByRecursion (IsShallow dest) rest → first_cause meta tree before (placements keeping dest rest) ≡ None
    no-causes before [] h rows s f few = refl
    no-causes before (row ∷ rest) h rows s f few =
        ap (λ x. option_or x (first_cause meta tree (before ++ place row ∷ []) (placements keeping dest rest))) (no_cause before row h rows.0 f.0 few.0)
        ∙ no-causes (before ++ place row ∷ []) rest (hang-more before row h rows.0) rows.1 (both_second (below_all path_cmp row.0 rest) _ s) (still-fresh before row rest (both_first _ _ s) f.1) few.1

    -- and where one goes too deep, the first that does is the first that fails
    pub deep-causes : (before : List Change) (rest : List (Path × Entry)) → IsHanging before → AllByRecursion IsRow rest → is_sorted path_cmp rest ≡ true → AreFresh before rest → HasDeep dest rest → first_cause meta tree before (placements keeping dest rest) ≡ Some F5
    deep-causes before [] h rows s f deep = absurd deep
    deep-causes before (row ∷ rest) h rows s f deep =
        by (nat_lt 64 (length (dest ++ row.0))) refl deep (deep-causes (before ++ place row ∷ []) rest (hang-more before row h rows.0) rows.1 (both_second (below_all path_cmp row.0 rest) _ s) (still-fresh before row rest (both_first _ _ s) f.1))
      where
        by : (b : Bool) → nat_lt 64 (length (dest ++ row.0)) ≡ b → (b ≡ true) ⊎ HasDeep dest rest → (HasDeep dest rest → first_cause meta tree (before ++ place row ∷ []) (placements keeping dest rest) ≡ Some F5) → first_cause meta tree before (placements keeping dest (row ∷ rest)) ≡ Some F5
        by true d any later =
            ap (λ x. option_or x (first_cause meta tree (before ++ place row ∷ []) (placements keeping dest rest)))
            (ap (λ b. cond b (Some F5) (cond (is_repeated (kind_placed before (dest ++ row.0)) (placed_entry keeping row.1)) (Some F3) (cause_at (get (changed_tree meta tree before)) (dest ++ row.0) (placed_entry keeping row.1)))) d)
        by false d (inl t) later = absurd (true≢false (sym t))
        by false d (inr more) later = ap (λ x. option_or x (first_cause meta tree (before ++ place row ∷ []) (placements keeping dest rest))) (no_cause before row h rows.0 f.0 d) ∙ later more

-- ---- what is placed last

pub none-found : (r : Path) (rows : List (Path × Entry)) → below_all path_cmp r rows ≡ true → find path_cmp r rows ≡ None
none-found r [] s = refl
none-found r (row ∷ rows) s = ap (λ x. cond (is_eq x) (Some row.1) (find path_cmp r rows)) (less (path_cmp r row.0) (both_first _ _ s)) ∙ none-found r rows (both_second (is_lt (path_cmp r row.0)) _ s)
  where
    less : (x : Ordering) → is_lt x ≡ true → x ≡ Less
    less Less e = refl
    less Equal e = absurd (true≢false (sym e))
    less Greater e = absurd (true≢false (sym e))

pub last-found : (dest : Path) (rows : List (Path × Entry)) (q : Path) → is_sorted path_cmp rows ≡ true → last_placed (placements keeping dest rows) (dest ++ q) ≡ find path_cmp q rows
last-found dest [] q s = refl
last-found dest (row ∷ rows) q s =
    (λ i. option_or (last-found dest rows q (both_second (below_all path_cmp row.0 rows) _ s) i) (cond (tie-cancel dest q row.0 i) (Some (kept row.1 i)) None))
    ∙ by (eq_by_cmp path_cmp q row.0) refl
  where
    by : (b : Bool) → eq_by_cmp path_cmp q row.0 ≡ b → option_or (find path_cmp q rows) (cond b (Some row.1) None) ≡ cond b (Some row.1) (find path_cmp q rows)
    by true t = ap (λ x. option_or x (Some row.1)) (ap (λ x. find path_cmp x rows) (path_same q row.0 t) ∙ none-found row.0 rows (both_first _ _ s))
    by false t = sym (or_none (find path_cmp q rows))
