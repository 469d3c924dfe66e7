-- From changes that a COPY makes one after another, in lists, to what its calls promise.
use Rattle.std.specs.Prelude.{◌≡◌, ◌<◌, ◌+◌, ℕ, Bool, Option, Some, None, Result, Ok, Err, List, [], ◌∷◌, ◌++◌, drop, length, get_or}
use Rattle.std.proofs.Common.{sym, ap, refl, ◌∙◌, subst, append-nil, append_assoc}
use Rattle.std.proofs.lemmas.List.{drop_more}
use Rattle.std.specs.Result.{IsErrAnd}
use Rattle.std.specs.Option.{option_or}
use Rattle.std.specs.FinMap.{get}
use Rattle.trees.specs.declared.meta.Meta.{Meta}
use Rattle.trees.specs.declared.copy.Change.{Change}
use Rattle.trees.specs.declared.copy.CopyOptions.{CopyOptions}
use Rattle.trees.specs.declared.copy.Source.{Source}
use Rattle.trees.specs.declared.cause.Cause.{Cause}
use Rattle.plain.specs.declared.fault.Fault.{Fault}
use Rattle.plain.specs.declared.fault.Fault.TheVariants.{Because, Memory}
use Rattle.trees.specs.TreeMap.{TreeMap, IsTree}
use Rattle.trees.specs.Copy.{path_changes, paths_changes, source_changes, changes_of, changed_tree, kind_placed, change_cause, first_cause}
use Rattle.trees.specs.PrivateCopy.{AppliesChange, AppliesChanges, AppliesMore, AreMade, TellsCause, with_change, kind_by}
use Rattle.trees.proofs.CopyLaws.{changed_tree-more, kind_placed-more}
use Rattle.trees.proofs.FolderSteps.{first_cause-append}

abbrev pub Kinds : Type 0
Kinds = List (List ℕ) → Option Bool

-- ---- one change

-- why a change fails in what the ones before made of a tree
change-is : (meta : Meta) (tree : TreeMap) (made : List Change) (before : Kinds) (old : TreeMap) (change : Change) (m : AreMade meta tree made before old)
    → change_cause (kind_placed made) (get (changed_tree meta tree made)) change ≡ change_cause before (get old) change
change-is meta tree made before old change m = λ i. change_cause (λ q. m.kinds q i) (get (sym m.map i)) change

cause-is : (meta : Meta) (tree : TreeMap) (made : List Change) (before : Kinds) (old : TreeMap) (change : Change) (cause : Option Cause) → AreMade meta tree made before old → change_cause before (get old) change ≡ cause
    → first_cause meta tree [] (made ++ change ∷ []) ≡ option_or cause None
cause-is meta tree made before old change cause m is =
    first_cause-append meta tree [] made (change ∷ [])
    ∙ (λ i. option_or (m.fine i) (option_or ((change-is meta tree made before old change m ∙ is) i) None))

-- from one change to a list of one
pub one-change : (meta : Meta) (change : Change) (before : Kinds) (old : TreeMap) (after : Kinds) (new : TreeMap) (r : Result (Unit {0}) (Fault Cause)) → AppliesChange meta change before old after new r → AppliesMore meta (change ∷ []) before old after new r
one-change meta change before old after new (Ok done) s = (
  s.tree,
  λ tree made m. record {
    fine = cause-is meta tree made before old change None m s.fine;
    map = s.map ∙ ap (λ t. with_change meta t change) m.map ∙ sym (changed_tree-more meta tree made change);
    kinds = λ q. kind_placed-more made change q ∙ ap (option_or (kind_by change q)) (m.kinds q) ∙ sym (s.kinds q);
    tree = s.tree;
  },
)
one-change meta change before old after new (Err (Because cause)) told = λ tree made m. cause-is meta tree made before old change (Some cause) m told
one-change meta change before old after new (Err Memory) told = λ tree made m. tt

-- ---- lists of changes, one after another

-- of all changes some were made, and the rest is left
pub record HasMade (meta : Meta) (all : List Change) (kinds_old : Kinds) (old : TreeMap) (rest : List Change) (kinds_now : Kinds) (now : TreeMap) : Type 0 where
  pub before : List Change
  pub whole : before ++ rest ≡ all
  pub tree : IsTree now
  pub made : (first : TreeMap) (done : List Change) → AreMade meta first done kinds_old old → AreMade meta first (done ++ before) kinds_now now

pub made-start : (meta : Meta) (all rest : List Change) (kinds : Kinds) (old : TreeMap) → rest ≡ all → IsTree old → HasMade meta all kinds old rest kinds old
made-start meta all rest kinds old same tree = record {
  before = [];
  whole = same;
  tree = tree;
  made = λ first done m. subst (λ xs. AreMade meta first xs kinds old) (sym (append-nil done)) m;
}

tells-more : (meta : Meta) (tree : TreeMap) (xs ys : List Change) (fault : Fault Cause) → TellsCause fault (first_cause meta tree [] xs) → TellsCause fault (first_cause meta tree [] (xs ++ ys))
tells-more meta tree xs ys (Because cause) told = first_cause-append meta tree [] xs ys ∙ ap (λ c. option_or c (first_cause meta tree xs ys)) told
tells-more meta tree xs ys Memory told = tt

module _ (meta : Meta) (all : List Change) (kinds_old : Kinds) (old : TreeMap) (rest : List Change) (kinds_now : Kinds) (now : TreeMap) (h : HasMade meta all kinds_old old rest kinds_now now) where
  module _ (some more : List Change) (kinds_then : Kinds) (then_tree : TreeMap) (next : rest ≡ some ++ more) where
    -- some more of them are made
    pub made-step : AppliesMore meta some kinds_now now kinds_then then_tree (Ok tt) → HasMade meta all kinds_old old more kinds_then then_tree
    made-step s = record {
      before = h.before ++ some;
      whole = append_assoc h.before some more ∙ ap (λ xs. h.before ++ xs) (sym next) ∙ h.whole;
      tree = s.0;
      made = λ first done m. subst (λ xs. AreMade meta first xs kinds_then then_tree) (append_assoc done h.before some) (s.1 first (done ++ h.before) (h.made first done m));
    }

    -- one of these fails
    pub made-fault : (kinds_end : Kinds) (end : TreeMap) (fault : Fault Cause) → AppliesMore meta some kinds_now now kinds_then then_tree (Err fault) → AppliesMore meta all kinds_old old kinds_end end (Err fault)
    made-fault kinds_end end fault told = λ first done m.
        subst (λ xs. TellsCause fault (first_cause meta first [] xs))
        (append_assoc (done ++ h.before) some more ∙ append_assoc done h.before (some ++ more) ∙ ap (λ xs. done ++ (h.before ++ xs)) (sym next) ∙ ap (λ xs. done ++ xs) h.whole)
        (tells-more meta first ((done ++ h.before) ++ some) more fault (told first (done ++ h.before) (h.made first done m)))

  -- all are made
  pub made-end : rest ≡ [] → AppliesMore meta all kinds_old old kinds_now now (Ok tt)
  made-end none = (h.tree, λ first done m. subst (λ xs. AreMade meta first (done ++ xs) kinds_now now) (sym (append-nil h.before) ∙ ap (λ xs. h.before ++ xs) (sym none) ∙ h.whole) (h.made first done m))

-- a fault is told as it is handed on
pub handed-on : (meta : Meta) (changes : List Change) (before : Kinds) (old : TreeMap) (after : Kinds) (new : TreeMap) (fault : Fault Cause) (r : Result (Unit {0}) (Fault Cause)) → IsErrAnd r (λ e. e ≡ fault)
    → AppliesMore meta changes before old after new (Err fault) → AppliesMore meta changes before old after new r
handed-on meta changes before old after new fault (Ok done) is told = absurd is
handed-on meta changes before old after new fault (Err other) is told = subst (λ (f : Fault Cause). AppliesMore meta changes before old after new (Err f)) (sym is) told

-- the changes of the matches that are left begin with those of the next one
pub next-path : (o : CopyOptions) (into : Bool) (from : TreeMap) (dest : List (List ℕ)) (paths : List (List (List ℕ))) (index : ℕ) (path : List (List ℕ)) → index < length paths → path ≡ get_or paths index path
    → paths_changes o into from dest (drop index paths) ≡ path_changes o into from dest path ++ paths_changes o into from dest (drop (index + 1) paths)
next-path o into from dest paths index path less is = ap (paths_changes o into from dest) (drop_more paths index path less ∙ ap (λ (q : List (List ℕ)). q ∷ drop (index + 1) paths) (sym is))

-- and those of the sources with those of the next one
pub next-source : (o : CopyOptions) (into : Bool) (from : TreeMap) (dest : List (List ℕ)) (sources : List Source) (index : ℕ) (source : Source) → index < length sources → source ≡ get_or sources index source
    → changes_of o into from dest (drop index sources) ≡ source_changes o into from dest source ++ changes_of o into from dest (drop (index + 1) sources)
next-source o into from dest sources index source less is = ap (changes_of o into from dest) (drop_more sources index source less ∙ ap (λ (q : Source). q ∷ drop (index + 1) sources) (sym is))

-- the same, told by what equals the meta and the changes
pub told-by : (meta parent : Meta) (changes list : List Change) (before : Kinds) (old : TreeMap) (after : Kinds) (new : TreeMap) (r : Result (Unit {0}) (Fault Cause)) → parent ≡ meta → list ≡ changes → AppliesMore parent list before old after new r
    → AppliesMore meta changes before old after new r
told-by meta parent changes list before old after new r same all h = subst (λ (m : Meta). AppliesMore m changes before old after new r) same (subst (λ (cs : List Change). AppliesMore parent cs before old after new r) all h)

-- ---- a COPY as a whole

none-made : (meta : Meta) (old : TreeMap) (kinds : Kinds) → ((q : List (List ℕ)) → None ≡ kinds q) → IsTree old → AreMade meta old [] kinds old
none-made meta old kinds none tree = record { fine = refl; map = refl; kinds = none; tree = tree }

-- where nothing was placed before, all changes are those that are made now
pub made-all : (meta : Meta) (changes : List Change) (before : Kinds) (old : TreeMap) (after : Kinds) (new : TreeMap) (r : Result (Unit {0}) (Fault Cause)) → ((q : List (List ℕ)) → None ≡ before q) → IsTree old
    → AppliesMore meta changes before old after new r → AppliesChanges meta changes old new r
made-all meta changes before old after new (Ok done) none tree s =
    let m = s.1 old [] (none-made meta old before none tree) in
    (m.fine, (m.map, m.tree))
made-all meta changes before old after new (Err fault) none tree told = told old [] (none-made meta old before none tree)
