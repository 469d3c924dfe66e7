-- Changes of a COPY one after another, and what they keep of a tree.
use Rattle.std.specs.Prelude.{◌≡◌, ℕ, Bool, true, false, ◌&&◌, ◌||◌, cond, Option, Some, None, List, [], ◌∷◌, ◌++◌, ◌⊎◌, is_some, length, nat_lt}
use Rattle.std.proofs.Common.{sym, ap, refl, ◌∙◌, subst, true≢false, append-nil, append_assoc, inl, inr}
use Rattle.std.specs.List.{AllByRecursion}
use Rattle.std.specs.Option.{option_or}
use Rattle.std.specs.Ordering.{eq_by_cmp}
use Rattle.std.specs.FinMap.{get}
use Rattle.paths.specs.Order.{path_cmp, name_cmp}
use Rattle.paths.specs.Fronts.{is_front}
use Rattle.paths.proofs.FrontLaws.{path_same, path_itself, path_eq-cons, front-irrefl, front-asym, front-of, front-trans, no-front-of-root}
use Rattle.trees.specs.declared.meta.Meta.{Meta}
use Rattle.trees.specs.declared.entry.Entry.{Entry}
use Rattle.trees.specs.declared.entry.Entry.TheVariants.{Directory, File}
use Rattle.trees.specs.declared.cause.Cause.{Cause}
use Rattle.trees.specs.declared.cause.Cause.TheVariants.{F2, F3, F5}
use Rattle.trees.specs.TreeMap.{TreeMap, IsTree, is_directory, is_file, is_blocked}
use Rattle.trees.specs.Cause.{tree_or}
use Rattle.trees.specs.Put.{cause_at}
use Rattle.trees.specs.Make.{make_cause, with_directory}
use Rattle.trees.proofs.CopyLaws.{get-with_directory}
use Rattle.trees.proofs.WayLaws.{open-front, open-from_fronts, open-up}
use Rattle.fileactions.specs.Copying.{outcome_of, with_folder}

abbrev pub Path : Type 0
Path = List (List ℕ)

-- ---- one after another, whatever changes are

-- what a change asks is none of the causes by which it fails
past : (deep twice : Bool) (x : Option Cause) → cond deep (Some F5) (cond twice (Some F3) x) ≡ None → x ≡ None
past true twice x e = absurd (true≢false (ap is_some e))
past false true x e = absurd (true≢false (ap is_some e))
past false false x e = e

-- a placement that isn't refused isn't refused for what stands there
pub free-placement : (at : Path → Option Entry) (p : Path) (e : Entry) (twice : Bool) → cond (nat_lt 64 (length p)) (Some F5) (cond twice (Some F3) (cause_at at p e)) ≡ None → cause_at at p e ≡ None
free-placement at p e twice none = past (nat_lt 64 (length p)) twice (cause_at at p e) none

first-none : (a b : Option Cause) → option_or a b ≡ None → (a ≡ None) × (b ≡ None)
first-none None b e = (refl, e)
first-none (Some c) b e = absurd (true≢false (ap is_some e))

module _ {C : Type 0} (cause : (Path → Option Bool) → (Path → Option Entry) → C → Option Cause) (step : TreeMap → C → TreeMap) where
  -- changes of which none fails lead from one tree to another
  abbrev pub Lead : TreeMap → List C → TreeMap → Type 0
  Lead tree [] new = tree ≡ new
  Lead tree (change ∷ changes) new = ((before : Path → Option Bool) × (cause before (get tree) change ≡ None)) × Lead (step tree change) changes new

  pub split : (tree new : TreeMap) (xs ys : List C) → Lead tree (xs ++ ys) new → (mid : TreeMap) × (Lead tree xs mid × Lead mid ys new)
  split tree new [] ys way = (tree, (refl, way))
  split tree new (x ∷ xs) ys way =
      let more = split (step tree x) new xs ys way.1 in (more.0, ((way.0, more.1.0), more.1.1))

  -- a tree after changes is a tree, where each change keeps that
  module _ (Named : C → Type 0) (kept : (tree : TreeMap) (c : C) (before : Path → Option Bool) → IsTree tree → Named c → cause before (get tree) c ≡ None → IsTree (step tree c)) where
    pub lead-tree : (changes : List C) (tree new : TreeMap) → IsTree tree → AllByRecursion Named changes → Lead tree changes new → IsTree new
    lead-tree [] tree new is named way = subst IsTree way is
    lead-tree (c ∷ cs) tree new is named way = lead-tree cs (step tree c) new (kept tree c way.0.0 is named.0 way.0.1) named.1 way.1

  module _ (first : List C → List C → Option Cause) (kinds : List C → Path → Option Bool) (changed : List C → TreeMap)
      (unrolled : (before : List C) (c : C) (cs : List C) → first before (c ∷ cs) ≡ option_or (cause (kinds before) (get (changed before)) c) (first (before ++ c ∷ []) cs))
      (more : (before : List C) (c : C) → changed (before ++ c ∷ []) ≡ step (changed before) c) where
    pub leads : (before changes : List C) → first before changes ≡ None → Lead (changed before) changes (changed (before ++ changes))
    leads before [] none = ap changed (sym (append-nil before))
    leads before (c ∷ cs) none =
        let both = first-none (cause (kinds before) (get (changed before)) c) (first (before ++ c ∷ []) cs) (sym (unrolled before c cs) ∙ none) in
        let rest = leads (before ++ c ∷ []) cs both.1 in (
          (kinds before, both.0),
          subst (λ (is : List C). Lead (step (changed before) c) cs (changed is)) (append_assoc before (c ∷ []) cs)
              (subst (λ (mid : TreeMap). Lead mid cs (changed ((before ++ c ∷ []) ++ cs))) (more before c) rest),
        )

-- ---- what stands after a folder was made

pub folder-made : (meta : Meta) (tree : TreeMap) (path : Path) → make_cause (get tree) path ≡ None → with_folder meta path tree ≡ Some (with_directory meta tree path)
folder-made meta tree path none = ap (λ cause. outcome_of (tree_or cause (with_directory meta tree path))) none

-- a path is another one, or a front of it
abbrev pub is_on : Path → Path → Bool
is_on q d = is_front q d || eq_by_cmp path_cmp q d

pub front-on : (x p : Path) (name : List ℕ) → is_front x (p ++ name ∷ []) ≡ is_on x p
front-on [] [] name = refl
front-on [] (c ∷ cs) name = refl
front-on (d ∷ ds) [] name = ap (λ b. eq_by_cmp name_cmp d name && b) (no-front-of-root ds) ∙ never (eq_by_cmp name_cmp d name)
  where
    never : (b : Bool) → (b && false) ≡ false
    never true = refl
    never false = refl
front-on (d ∷ ds) (c ∷ cs) name =
    ap (λ b. eq_by_cmp name_cmp d c && b) (front-on ds cs name) ∙ (shared (eq_by_cmp name_cmp d c) (is_front ds cs) (eq_by_cmp path_cmp ds cs) ∙ ap (λ b. is_front (d ∷ ds) (c ∷ cs) || b) (sym (path_eq-cons d c ds cs)))
  where
    shared : (a x y : Bool) → (a && (x || y)) ≡ ((a && x) || (a && y))
    shared true x y = refl
    shared false x y = refl

-- either side of a test
pub either-of : (a b : Bool) → (a || b) ≡ true → (a ≡ true) ⊎ (b ≡ true)
either-of true b e = inl refl
either-of false b e = inr e

pub from-left : (a b : Bool) → a ≡ true → (a || b) ≡ true
from-left a b e = ap (λ x. x || b) e

pub from-right : (a b : Bool) → b ≡ true → (a || b) ≡ true
from-right true b e = refl
from-right false b e = e

pub not-true : (b : Bool) → (b ≡ true → ⊥) → b ≡ false
not-true true h = absurd (h refl)
not-true false h = refl

pub on-itself : (d : Path) → is_on d d ≡ true
on-itself d = from-right (is_front d d) (eq_by_cmp path_cmp d d) (path_itself d)

-- what is on the way to a path is a front of what lies in it
pub on-front : (x p : Path) (name : List ℕ) → is_on x p ≡ true → is_front x (p ++ name ∷ []) ≡ true
on-front x p name on = front-on x p name ∙ on

pub on-trans : (x f p : Path) → is_on x f ≡ true → is_on f p ≡ true → is_on x p ≡ true
on-trans x f p a b = by (either-of (is_front x f) (eq_by_cmp path_cmp x f) a) (either-of (is_front f p) (eq_by_cmp path_cmp f p) b)
  where
    by : (is_front x f ≡ true) ⊎ (eq_by_cmp path_cmp x f ≡ true) → (is_front f p ≡ true) ⊎ (eq_by_cmp path_cmp f p ≡ true) → is_on x p ≡ true
    by (inr t) g = subst (λ (y : Path). is_on y p ≡ true) (sym (path_same x f t)) b
    by (inl g) (inr t) = subst (λ (y : Path). is_on x y ≡ true) (path_same f p t) a
    by (inl g) (inl h) = from-left (is_front x p) (eq_by_cmp path_cmp x p) (front-trans x f p g h)

-- what lies in a folder isn't on the way to it
pub not-on : (p : Path) (name : List ℕ) → is_on (p ++ name ∷ []) p ≡ false
not-on p name = not-true (is_on (p ++ name ∷ []) p) (λ on. by (either-of (is_front (p ++ name ∷ []) p) (eq_by_cmp path_cmp (p ++ name ∷ []) p) on))
  where
    by : (is_front (p ++ name ∷ []) p ≡ true) ⊎ (eq_by_cmp path_cmp (p ++ name ∷ []) p ≡ true) → ⊥
    by (inl f) = front-asym (p ++ name ∷ []) p f (front-of p name [])
    by (inr t) = true≢false (sym (front-of p name []) ∙ (λ i. is_front p (path_same (p ++ name ∷ []) p t i)) ∙ front-irrefl p)

pub get-made : (meta : Meta) (tree : TreeMap) (d q : Path) → get (with_directory meta tree d) q ≡ option_or (get tree q) (cond (is_on q d) (Some (Directory meta)) None)
get-made meta tree d q = get-with_directory meta tree d q

kept : (o : Option Entry) (b : Bool) (d : Entry) → b ≡ false → option_or o (cond b (Some d) None) ≡ o
kept None true d e = absurd (true≢false e)
kept None false d e = refl
kept (Some x) b d e = refl

-- off the way nothing changes
pub off-way : (meta : Meta) (tree : TreeMap) (d q : Path) → is_on q d ≡ false → get (with_directory meta tree d) q ≡ get tree q
off-way meta tree d q off = get-made meta tree d q ∙ kept (get tree q) (is_on q d) (Directory meta) off

no-file : (o : Option Entry) (b : Bool) (meta : Meta) → is_file o ≡ false → is_file (option_or o (cond b (Some (Directory meta)) None)) ≡ false
no-file None true meta e = refl
no-file None false meta e = refl
no-file (Some x) b meta e = e

-- no file comes by a folder
pub no-file-more : (meta : Meta) (tree : TreeMap) (d q : Path) → is_file (get tree q) ≡ false → is_file (get (with_directory meta tree d) q) ≡ false
no-file-more meta tree d q none = ap is_file (get-made meta tree d q) ∙ no-file (get tree q) (is_on q d) meta none

a-folder : (o : Option Entry) (b : Bool) (meta : Meta) → is_file o ≡ false → b ≡ true → is_directory (option_or o (cond b (Some (Directory meta)) None)) ≡ true
a-folder None true meta none e = refl
a-folder None false meta none e = e
a-folder (Some (Directory m)) b meta none e = refl
a-folder (Some (File m c)) b meta none e = sym none

-- where no file stood a folder is on the way
pub folder-there : (meta : Meta) (tree : TreeMap) (d q : Path) → is_file (get tree q) ≡ false → is_on q d ≡ true → is_directory (get (with_directory meta tree d) q) ≡ true
folder-there meta tree d q none on = ap is_directory (get-made meta tree d q) ∙ a-folder (get tree q) (is_on q d) meta none on

still : (o : Option Entry) (b : Bool) (meta : Meta) → is_directory o ≡ true → is_directory (option_or o (cond b (Some (Directory meta)) None)) ≡ true
still None b meta e = absurd (true≢false (sym e))
still (Some x) b meta e = e

pub folder-stays : (meta : Meta) (tree : TreeMap) (d q : Path) → is_directory (get tree q) ≡ true → is_directory (get (with_directory meta tree d) q) ≡ true
folder-stays meta tree d q there = ap is_directory (get-made meta tree d q) ∙ still (get tree q) (is_on q d) meta there

-- nothing keeps a folder from being made on the way to where nothing keeps an entry from being placed
pub free-folder : (tree : TreeMap) (p f : Path) (name : List ℕ) → is_blocked (get tree) (p ++ name ∷ []) ≡ false → is_on f p ≡ true → make_cause (get tree) f ≡ None
free-folder tree p f name way on =
    let front : is_front f (p ++ name ∷ []) ≡ true = on-front f p name on in
    λ i. cond (open-up (get tree) f (p ++ name ∷ []) way front i || open-front (get tree) f (p ++ name ∷ []) way front i) (Some F2) None

pub still-open : (meta : Meta) (tree : TreeMap) (d q : Path) → is_blocked (get tree) q ≡ false → is_blocked (get (with_directory meta tree d)) q ≡ false
still-open meta tree d q way = open-from_fronts (get (with_directory meta tree d)) q (λ f g. no-file-more meta tree d f (open-front (get tree) f q way g))
