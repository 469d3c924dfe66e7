-- From the steps of a COPY's code to what its calls promise.
use Rattle.std.specs.Prelude.{◌≡◌, ℕ, Bool, true, false, ◌||◌, cond, Option, Some, None, Result, Ok, Err, List, length, is_some, nat_lt}
use Rattle.std.proofs.Common.{sym, ap, refl, ◌∙◌, subst, true≢false}
use Rattle.std.specs.Option.{option_or}
use Rattle.std.specs.declared.cmp.Reverse.{Reverse}
use Rattle.std.specs.Ordering.{eq_by_cmp}
use Rattle.std.specs.FinMap.{get}
use Rattle.std.proofs.lemmas.Bool.{le-ltb}
use Rattle.paths.specs.Order.{path_cmp}
use Rattle.paths.specs.Path.{IsClean}
use Rattle.trees.specs.declared.meta.Meta.{Meta}
use Rattle.trees.specs.declared.entry.Entry.{Entry}
use Rattle.trees.specs.declared.entry.Entry.TheVariants.{Directory, File}
use Rattle.trees.specs.declared.copy.Change.TheVariants.{Place, Make}
use Rattle.trees.specs.declared.cause.Cause.{Cause}
use Rattle.trees.specs.declared.cause.Cause.TheVariants.{F2, F3, F5}
use Rattle.plain.specs.declared.fault.Fault.{Fault}
use Rattle.plain.specs.declared.fault.Fault.TheVariants.{Because, Memory}
use Rattle.paths.specs.Fronts.{is_front}
use Rattle.trees.specs.TreeMap.{TreeMap, directory_meta, IsTree, is_directory, is_file, is_blocked}
use Rattle.trees.specs.Cause.{ChangesTree}
use Rattle.trees.specs.Put.{cause_at, placed, clash_of}
use Rattle.trees.specs.Make.{make_cause, with_directory, made_with, made}
use Rattle.trees.specs.PrivateNode.{IsPlanted}
use Rattle.trees.specs.Copy.{kind_of, is_repeated, change_cause}
use Rattle.trees.specs.PrivateCopy.{IsChanged, AppliesChange, kind_in}
use Rattle.trees.proofs.CauseLaws.{tree_or-ok, tree_or-none, tree_or-err}
use Rattle.trees.proofs.CopyLaws.{get-with_directory, with_directory-new, with_directory-kept}
use Rattle.trees.proofs.SubtreeLaws.{way-open}
use Rattle.trees.proofs.TreeLaws.{placed-IsTree, free-from_cause}
use Rattle.trees.proofs.TreeSteps.{placed-from_planted}

abbrev pub Paths : Type 0
Paths = List (List ℕ)

-- ---- the fault of a placement

shallow-cause : (before : List (List ℕ) → Option Bool) (at : List (List ℕ) → Option Entry) (p : List (List ℕ)) (e : Entry) (deep twice : Bool) → nat_lt 64 (length p) ≡ deep → deep ≡ false → is_repeated (before p) e ≡ twice
    → change_cause before at (Place p e) ≡ cond twice (Some F3) (cause_at at p e)
shallow-cause before at p e deep twice d n t = λ i. cond ((d ∙ n) i) (Some F5) (cond (t i) (Some F3) (cause_at at p e))

pub repeated-cause : (before : List (List ℕ) → Option Bool) (at : List (List ℕ) → Option Entry) (p : List (List ℕ)) (e : Entry) (told : Bool) → IsClean p → told ≡ is_repeated (before p) e → told ≡ true → Some F3 ≡ change_cause before at (Place p e)
repeated-cause before at p e told clean is t = sym (shallow-cause before at p e _ true refl (le-ltb 64 (length p) clean.few) (sym is ∙ t))

pub other-cause : (before : List (List ℕ) → Option Bool) (at : List (List ℕ) → Option Entry) (p a : List (List ℕ)) (e : Entry) (told : Bool) (cause : Option Cause) → IsClean p → a ≡ p → told ≡ is_repeated (before p) e → told ≡ false → cause ≡ cause_at at a e → cause ≡ change_cause before at (Place p e)
other-cause before at p a e told cause clean same is t c = c ∙ ap (λ x. cause_at at x e) same ∙ sym (shallow-cause before at p e _ false refl (le-ltb 64 (length p) clean.few) (sym is ∙ t))

-- a path that is too deep
pub deep-cause : (before : List (List ℕ) → Option Bool) (at : List (List ℕ) → Option Entry) (p : List (List ℕ)) (e : Entry) → nat_lt 64 (length p) ≡ true → change_cause before at (Place p e) ≡ Some F5
deep-cause before at p e d = λ i. cond (d i) (Some F5) (cond (is_repeated (before p) e) (Some F3) (cause_at at p e))

pub free-placement : (at : List (List ℕ) → Option Entry) (p : List (List ℕ)) (e : Entry) (deep twice : Bool) → cond deep (Some F5) (cond twice (Some F3) (cause_at at p e)) ≡ None → cause_at at p e ≡ None
free-placement at p e true twice is = absurd (true≢false (ap is_some is))
free-placement at p e false true is = absurd (true≢false (ap is_some is))
free-placement at p e false false is = is

-- ---- what was placed

updated : (new old : List (Reverse (List (List ℕ)) × Bool)) (p q : List (List ℕ)) (e : Entry) (tie : Bool) → eq_by_cmp path_cmp q p ≡ tie → kind_in new q ≡ cond tie (Some (is_directory (Some e))) (kind_in old q)
    → kind_in new q ≡ option_or (kind_of (cond (eq_by_cmp path_cmp q p) (Some e) None)) (kind_in old q)
updated new old p q e true t is = is ∙ sym (ap (λ b. option_or (kind_of (cond b (Some e) None)) (kind_in old q)) t)
updated new old p q e false t is = is ∙ sym (ap (λ b. option_or (kind_of (cond b (Some e) None)) (kind_in old q)) t)

pub place-done : (meta : Meta) (old new : TreeMap) (p a : List (List ℕ)) (e : Entry) (placed_old placed_new : List (Reverse (List (List ℕ)) × Bool)) (told : Option Cause) (kind : Bool)
    → told ≡ change_cause (kind_in placed_old) (get old) (Place p e) → told ≡ None → kind ≡ is_directory (Some e) → a ≡ p → IsTree old → IsClean p → IsPlanted (get old) new a meta e
    → ((q : List (List ℕ)) → kind_in placed_new q ≡ cond (eq_by_cmp path_cmp q p) (Some kind) (kind_in placed_old q))
    → IsChanged meta (Place p e) (kind_in placed_old) old (kind_in placed_new) new
place-done meta old new p a e placed_old placed_new told kind is none dir same tree clean h updates =
    let fine : change_cause (kind_in placed_old) (get old) (Place p e) ≡ None = sym is ∙ none in
    let map : new ≡ placed meta old p e = placed-from_planted old new a meta e h ∙ ap (λ x. placed meta old x e) same in
    record {
      fine = fine;
      map = map;
      kinds = λ q. updated placed_new placed_old p q e (eq_by_cmp path_cmp q p) refl (updates q ∙ (λ i. cond (eq_by_cmp path_cmp q p) (Some (dir i)) (kind_in placed_old q)));
      tree = subst IsTree (sym map) (placed-IsTree meta old p e tree clean (free-from_cause (get old) p e (free-placement (get old) p e _ _ fine)));
    }

-- ---- a making

with_directory-of : (meta : Meta) (old : TreeMap) (p : List (List ℕ)) (o : Option Entry) (shut : Bool) → IsTree old → IsClean p → get old p ≡ o → is_blocked (get old) p ≡ shut → cond (shut || is_file o) (Some F2) None ≡ None → IsTree (with_directory meta old p)
with_directory-of meta old p o true tree clean is way none = absurd (true≢false (ap is_some none))
with_directory-of meta old p None false tree clean is way none =
    subst IsTree (sym (with_directory-new meta old p is)) (placed-IsTree meta old p (Directory meta) tree clean (record { few = le-ltb 64 (length p) clean.few; way = way; clash = ap (λ x. clash_of x (Directory meta)) is }))
with_directory-of meta old p (Some (Directory m)) false tree clean is way none = subst IsTree (sym (with_directory-kept meta old p tree (ap is_directory is))) tree
with_directory-of meta old p (Some (File m b)) false tree clean is way none = absurd (true≢false (ap is_some none))

-- a tree in which a directory was made is a tree
pub with_directory-IsTree : (meta : Meta) (old : TreeMap) (p : List (List ℕ)) → IsTree old → IsClean p → make_cause (get old) p ≡ None → IsTree (with_directory meta old p)
with_directory-IsTree meta old p tree clean none = with_directory-of meta old p (get old p) _ tree clean refl refl none

nothing : (o : Option Entry) → is_some o ≡ false → o ≡ None
nothing None e = refl
nothing (Some x) e = absurd (true≢false e)

pub make-new : (meta : Meta) (old new : TreeMap) (p a : List (List ℕ)) → a ≡ p → make_cause (get old) a ≡ None → is_some (get old a) ≡ false → IsPlanted (get old) new a meta (Directory meta) → made_with meta old p ≡ Ok new
make-new meta old new p a same fine free h =
    tree_or-none (make_cause (get old) p) (with_directory meta old p) new
    (ap (make_cause (get old)) (sym same) ∙ fine)
    (placed-from_planted old new a meta (Directory meta) h ∙ sym (with_directory-new meta old a (nothing (get old a) free)) ∙ ap (with_directory meta old) same)

stands : (o : Option Entry) (shut : Bool) → is_some o ≡ true → cond (shut || is_file o) (Some F2) None ≡ None → is_directory o ≡ true
stands None shut there none = absurd (true≢false (sym there))
stands (Some (Directory m)) shut there none = refl
stands (Some (File m c)) true there none = absurd (true≢false (ap is_some none))
stands (Some (File m c)) false there none = absurd (true≢false (ap is_some none))

pub make-kept : (meta : Meta) (old : TreeMap) (p a : List (List ℕ)) → a ≡ p → IsTree old → make_cause (get old) a ≡ None → is_some (get old a) ≡ true → made_with meta old p ≡ Ok old
make-kept meta old p a same tree fine there =
    tree_or-none (make_cause (get old) p) (with_directory meta old p) old
    (ap (make_cause (get old)) (sym same) ∙ fine)
    (sym (with_directory-kept meta old a tree (stands (get old a) (is_blocked (get old) a) there fine)) ∙ ap (with_directory meta old) same)

pub make-new-tree : (meta : Meta) (old new : TreeMap) (p a : List (List ℕ)) → a ≡ p → IsTree old → IsClean p → make_cause (get old) a ≡ None → is_some (get old a) ≡ false → IsPlanted (get old) new a meta (Directory meta) → IsTree new
make-new-tree meta old new p a same tree clean fine free h =
    let done = tree_or-ok _ _ _ (make-new meta old new p a same fine free h) in
    subst IsTree done.1 (with_directory-IsTree meta old p tree clean done.0)

-- what stands at each path after a making
pub get-made : (tree new : TreeMap) (path q : List (List ℕ)) → made tree path ≡ Ok new
    → get new q ≡ option_or (get tree q) (cond (is_front q path || eq_by_cmp path_cmp q path) (Some (Directory directory_meta)) None)
get-made tree new path q done =
    ap (λ m. get m q) (sym (tree_or-ok (make_cause (get tree) path) (with_directory directory_meta tree path) new done).1)
    ∙ get-with_directory directory_meta tree path q

pub made-IsTree : (tree new : TreeMap) (path : List (List ℕ)) → IsTree tree → IsClean path → made tree path ≡ Ok new → IsTree new
made-IsTree tree new path tree_is clean done =
    let is = tree_or-ok (make_cause (get tree) path) (with_directory directory_meta tree path) new done in
    subst IsTree is.1 (with_directory-IsTree directory_meta tree path tree_is clean is.0)

open_directory : (at : List (List ℕ) → Option Entry) (p : List (List ℕ)) (meta : Meta) (shut : Bool) → is_blocked at p ≡ shut → shut ≡ false → at p ≡ Some (Directory meta) → make_cause at p ≡ None
open_directory at p meta shut way open_way there = λ i. cond ((way ∙ open_way) i || is_file (there i)) (Some F2) None

-- where a directory stands, nothing changes
pub made-kept : (tree : TreeMap) (path : List (List ℕ)) (meta : Meta) → IsTree tree → get tree path ≡ Some (Directory meta) → made tree path ≡ Ok tree
made-kept tree path meta is there =
    tree_or-none (make_cause (get tree) path) (with_directory directory_meta tree path) tree
    (open_directory (get tree) path meta _ refl (way-open tree path is (ap is_some there)) there)
    (sym (with_directory-kept directory_meta tree path is (ap is_directory there)))

-- from a making to a change
pub make-change : (meta : Meta) (old new : TreeMap) (p : List (List ℕ)) (before : List (List ℕ) → Option Bool) (result : Result (Unit {0}) (Fault Cause)) → IsTree new → ChangesTree (made_with meta old p) old new result
    → AppliesChange meta (Make p) before old before new result
make-change meta old new p before (Ok done) tree h =
    let is = tree_or-ok (make_cause (get old) p) (with_directory meta old p) new h in
    record { fine = is.0; map = sym is.1; kinds = λ q. refl; tree = tree }
make-change meta old new p before (Err (Because cause)) tree h = tree_or-err (make_cause (get old) p) (with_directory meta old p) cause h.0
make-change meta old new p before (Err Memory) tree h = tt
