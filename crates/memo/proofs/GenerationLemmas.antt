-- What is kept of the entries of a generation stays the same if more is kept.
use Rattle.std.proofs.Common.{◌≡◌, ◌∙◌, ◌+◌, ◌<◌, ◌≤◌, ◌⊎◌, inl, inr, ℕ, zero, suc, List, [], ◌∷◌, ◌++◌, length, map, take, get_or, Option, Some, None, Ok, Err, Result, IfOk, IfNone, OnOk, OnErr, refl, sym, ap, subst, arith}
use Rattle.std.specs.Prelude.{IfSome, slice_get, slice_index_or}
use Rattle.std.specs.List.{Contains}
use Rattle.std.proofs.lemmas.List.{append-nil, append_assoc, get_or_append_left, get_or_default, map_push, length-append, map-append}
use Rattle.std.proofs.lemmas.Option.{get_or_from_slice_get, slice_get_within}
use Rattle.std.proofs.Math.Seq.{get_or-append_seam, take-suc}
use Rattle.trees.specs.TreeMap.{TreeMap, empty_tree}
use Rattle.llb.specs.declared.op.Op.{Op}
use Rattle.memo.specs.declared.step.Step.{Step}
use Rattle.memo.specs.declared.index.Index.{Index}
use Rattle.memo.specs.Key.{key_of}
use Rattle.memo.specs.Memo.{Entry, GenerationValue, entry_of, Has, Lacks}
use Rattle.memo.specs.PrivateGeneration.{tree_at, trees_at, entry_at, entries_at, AreBelow, IsPlaced, ArePlaced, IsIndexed, IsFor, Stands, IsMore, step_of}
use Rattle.memo.specs.PrivateIndex.{under}
use Rattle.memo.proofs.IndexKept.{last_cases}

-- ---- more trees

tree_at-more : (trees more : List TreeMap) (number : ℕ) → number < length trees → tree_at (trees ++ more) number ≡ tree_at trees number
tree_at-more trees more number below = get_or_append_left trees more empty_tree number below

pub trees_at-more : (trees more : List TreeMap) (numbers : List ℕ) → AreBelow (length trees) numbers → trees_at (trees ++ more) numbers ≡ trees_at trees numbers
trees_at-more trees more [] below = refl
trees_at-more trees more (number ∷ numbers) below =
    let first : tree_at (trees ++ more) number ≡ tree_at trees number = tree_at-more trees more number (below 0 number (omega arith)) in
    let rest : trees_at (trees ++ more) numbers ≡ trees_at trees numbers = trees_at-more trees more numbers (λ k d l. below (suc k) d (omega (arith, l))) in
    ap (λ tree. tree ∷ trees_at (trees ++ more) numbers) first ∙ ap (λ others. tree_at trees number ∷ others) rest

entry_at-more : (trees more : List TreeMap) (step : Step) → IsPlaced (length trees) step → entry_at (trees ++ more) step ≡ entry_at trees step
entry_at-more trees more step is =
    ap (λ inputs. entry_of step.op inputs (tree_at (trees ++ more) step.tree)) (trees_at-more trees more step.inputs is.inputs)
    ∙ ap (λ tree. entry_of step.op (trees_at trees step.inputs) tree) (tree_at-more trees more step.tree is.tree)

entries_at-more : (trees more : List TreeMap) (steps : List Step) → ArePlaced (length trees) steps → entries_at (trees ++ more) steps ≡ entries_at trees steps
entries_at-more trees more [] are = refl
entries_at-more trees more (step ∷ steps) are =
    let first : entry_at (trees ++ more) step ≡ entry_at trees step = entry_at-more trees more step (are 0 step refl) in
    let rest : entries_at (trees ++ more) steps ≡ entries_at trees steps = entries_at-more trees more steps (λ k other e. are (suc k) other e) in
    ap (λ entry. entry ∷ entries_at (trees ++ more) steps) first ∙ ap (λ others. entry_at trees step ∷ others) rest

pub below-more : (count more : ℕ) (numbers : List ℕ) → AreBelow count numbers → count ≤ more → AreBelow more numbers
below-more count more numbers below le = λ k d l. omega (arith, below k d l, le)

placed-more : (count more : ℕ) (step : Step) → IsPlaced count step → count ≤ more → IsPlaced more step
placed-more count more step is le = record { inputs = below-more count more step.inputs is.inputs le; tree = omega (arith, is.tree, le) }

more-length : (old new : List TreeMap) → IsMore old new → length old ≤ length new
more-length old new is = subst (λ trees. length old ≤ length trees) (sym is.is) (omega (arith, length-append old is.more))

-- the entries stay if more trees are kept
pub more-entries : (old new : List TreeMap) (steps : List Step) → IsMore old new → ArePlaced (length old) steps → entries_at new steps ≡ entries_at old steps
more-entries old new steps is are = subst (λ trees. entries_at trees steps ≡ entries_at old steps) (sym is.is) (entries_at-more old is.more steps are)

pub more-placed : (old new : List TreeMap) (steps : List Step) → IsMore old new → ArePlaced (length old) steps → ArePlaced (length new) steps
more-placed old new steps is are = λ k step e. placed-more (length old) (length new) step (are k step e) (more-length old new is)

pub more-none : (trees : List TreeMap) → IsMore trees trees
more-none trees = record { more = []; is = sym (append-nil trees) }

-- one tree more, or none
pub more-one : {X Y : Type 0} (old new : List TreeMap) (tree : TreeMap) (result : Result X Y) → OnOk result (new ≡ old ++ tree ∷ []) → OnErr result (new ≡ old) → IsMore old new
more-one old new tree (Ok x) ok err = record { more = tree ∷ []; is = ok }
more-one old new tree (Err y) ok err = subst (IsMore old) (sym err) (more-none old)

-- ---- more steps

pub entries_at-push : (trees : List TreeMap) (steps : List Step) (step : Step) → entries_at trees (steps ++ step ∷ []) ≡ entries_at trees steps ++ entry_at trees step ∷ []
entries_at-push trees steps step = map_push (entry_at trees) steps step

placed-cases : (count : ℕ) (steps : List Step) (step : Step) (k : ℕ) (other : Step) → ArePlaced count steps → IsPlaced count step → (slice_get steps k ≡ Some other) ⊎ ((k ≡ length steps) × (other ≡ step)) → IsPlaced count other
placed-cases count steps step k other are is (inl e) = are k other e
placed-cases count steps step k other are is (inr e) = subst (IsPlaced count) (sym e.1) is

pub placed-push : (count : ℕ) (steps : List Step) (step : Step) → ArePlaced count steps → IsPlaced count step → ArePlaced count (steps ++ step ∷ [])
placed-push count steps step are is = λ k other e. placed-cases count steps step k other are is (last_cases steps step k other e)

-- one step more, or none
pub pushed-placed : {X Y : Type 0} (count : ℕ) (old new : List Step) (step : Step) (result : Result X Y) → OnOk result (new ≡ old ++ step ∷ []) → OnErr result (new ≡ old) → ArePlaced count old → IsPlaced count step → ArePlaced count new
pushed-placed count old new step (Ok x) ok err are is = subst (ArePlaced count) (sym ok) (placed-push count old step are is)
pushed-placed count old new step (Err y) ok err are is = subst (ArePlaced count) (sym err) are

-- ---- an entry that is sought

same-entry : (trees : List TreeMap) (op : Op) (inputs : List TreeMap) (step : Step) → IsFor trees op inputs step → entry_at trees step ≡ entry_of op inputs (tree_at trees step.tree)
same-entry trees op inputs step is =
    ap (λ o. entry_of o (trees_at trees step.inputs) (tree_at trees step.tree)) is.same_op ∙ ap (λ ts. entry_of op ts (tree_at trees step.tree)) is.same_inputs

-- a step that is kept for it shows it
pub found-entry : (trees : List TreeMap) (steps : List Step) (op : Op) (inputs : List TreeMap) (k : ℕ) (step : Step) → slice_get steps k ≡ Some step → IsFor trees op inputs step → Has (entries_at trees steps) op inputs (tree_at trees step.tree)
found-entry trees [] op inputs k step e is = cc
found-entry trees (first ∷ steps) op inputs zero step e is =
    let same : first ≡ step = cc in
    (0, omega arith, ap (entry_at trees) same ∙ same-entry trees op inputs step is)
found-entry trees (first ∷ steps) op inputs (suc k) step e is =
    let rest : Has (entries_at trees steps) op inputs (tree_at trees step.tree) = found-entry trees steps op inputs k step e is in
    (suc rest.0, omega (arith, rest.1), rest.2)

-- a step that stands there is that of an operation on the trees of some numbers
pub stands-for : (steps : List Step) (op : Op) (inputs : List ℕ) (step : Step) → Stands steps step → step.op ≡ op → step.inputs ≡ inputs → Stands steps (step_of op inputs step.tree)
stands-for steps op inputs step is same_op same_inputs =
    let one : step_of step.op step.inputs step.tree ≡ step_of op step.inputs step.tree = ap (λ o. step_of o step.inputs step.tree) same_op in
    let other : step_of op step.inputs step.tree ≡ step_of op inputs step.tree = ap (λ ns. step_of op ns step.tree) same_inputs in
    record { place = is.place; there = is.there ∙ ap Some (one ∙ other) }

-- a number that was found by numbers is that of a tree
pub kept-below : (trees : List TreeMap) (steps : List Step) (op : Op) (inputs : List ℕ) (found : Option ℕ) → ArePlaced (length trees) steps → IfSome found (λ number. Stands steps (step_of op inputs number)) → IfSome found (λ number. number < length trees)
kept-below trees steps op inputs None are is = is
kept-below trees steps op inputs (Some number) are is =
    let placed : IsPlaced (length trees) (step_of op inputs number) = are is.place (step_of op inputs number) is.there in
    placed.tree

-- and shows an entry over the trees of the numbers
pub kept-has : (trees : List TreeMap) (steps : List Step) (op : Op) (inputs : List ℕ) (found : Option ℕ) → IfSome found (λ number. Stands steps (step_of op inputs number)) → IfSome found (λ number. Has (entries_at trees steps) op (trees_at trees inputs) (tree_at trees number))
kept-has trees steps op inputs None is = is
kept-has trees steps op inputs (Some number) is =
    let kept : IsFor trees op (trees_at trees inputs) (step_of op inputs number) = record { same_op = refl; same_inputs = refl } in
    found-entry trees steps op (trees_at trees inputs) is.place (step_of op inputs number) is.there kept

record IsAt (trees : List TreeMap) (steps : List Step) (k : ℕ) (entry : Entry) : Type 0 where
  step : Step
  there : slice_get steps k ≡ Some step
  is : entry_at trees step ≡ entry

-- and an entry is that of a step
at-entry : (trees : List TreeMap) (steps : List Step) (k : ℕ) (entry : Entry) → k < length (entries_at trees steps) → slice_index_or (entries_at trees steps) k entry ≡ entry → IsAt trees steps k entry
at-entry trees [] k entry l e = absurd (omega (arith, l))
at-entry trees (step ∷ steps) zero entry l e = record { step = step; there = refl; is = e }
at-entry trees (step ∷ steps) (suc k) entry l e =
    let rest : IsAt trees steps k entry = at-entry trees steps k entry (omega (arith, l)) e in
    record { step = rest.step; there = rest.there; is = rest.is }

pub entry-step : (trees : List TreeMap) (steps : List Step) (op : Op) (inputs : List TreeMap) (tree : TreeMap) → Has (entries_at trees steps) op inputs tree → (k : ℕ) × ((step : Step) × ((slice_get steps k ≡ Some step) × IsFor trees op inputs step))
entry-step trees steps op inputs tree has =
    let at : IsAt trees steps has.0 (entry_of op inputs tree) = at-entry trees steps has.0 (entry_of op inputs tree) has.1 has.2 in
    (has.0, (at.step, (at.there, record { same_op = ap (λ (entry : Entry). entry.op) at.is; same_inputs = ap (λ (entry : Entry). entry.inputs) at.is })))

-- ---- trees at numbers

pub get-map : {X Y : Type 0} (f : X → Y) (xs : List X) (k : ℕ) (x : X) → slice_get xs k ≡ Some x → slice_get (map f xs) k ≡ Some (f x)
get-map f [] k x e = cc
get-map f (y ∷ ys) zero x e = let same : y ≡ x = cc in ap (λ z. Some (f z)) same
get-map f (y ∷ ys) (suc k) x e = get-map f ys k x e

-- of lists of trees that are the same those at a place are
pub both-at : (kept : List TreeMap) (numbers : List ℕ) (trees : List TreeMap) (k number : ℕ) (tree : TreeMap) → slice_get numbers k ≡ Some number → slice_get trees k ≡ Some tree → trees_at kept numbers ≡ trees → tree_at kept number ≡ tree
both-at kept numbers trees k number tree e f same =
    let at : Some (tree_at kept number) ≡ Some tree = sym (get-map (tree_at kept) numbers k number e) ∙ (ap (λ ts. slice_get ts k) same ∙ f) in
    cc

-- ---- what is found

-- a step that is kept for an operation shows that its tree is had
pub found-has : (kept : List TreeMap) (steps : List Step) (op : Op) (inputs : List TreeMap) (step : Step) (tree : TreeMap) → Stands steps step → IsFor kept op inputs step → slice_get kept step.tree ≡ Some tree → Has (entries_at kept steps) op inputs tree
found-has kept steps op inputs step tree stands is e =
    let at : tree_at kept step.tree ≡ tree = get_or_from_slice_get kept step.tree tree empty_tree e in
    subst (Has (entries_at kept steps) op inputs) at (found-entry kept steps op inputs stands.place step stands.there is)

lacks-all : (kept : List TreeMap) (steps : List Step) (index : Index) (op : Op) (inputs : List TreeMap) (numbers : List ℕ) → IsIndexed steps index → numbers ≡ under index (key_of op) → ((k : ℕ) (step : Step) → k < length numbers → slice_get steps (get_or numbers k 0) ≡ Some step → ¬ IsFor kept op inputs step) → Lacks (entries_at kept steps) op inputs
lacks-all kept steps index op inputs numbers is e none = λ tree has.
    let found = entry-step kept steps op inputs tree has in
    let step : Step = found.1.0 in
    let there : slice_get steps found.0 ≡ Some step = found.1.1.0 in
    let right : IsFor kept op inputs step = found.1.1.1 in
    let entered : Contains numbers found.0 = subst (λ ns. Contains ns found.0) (sym e) (subst (λ o. Contains (under index (key_of o)) found.0) right.same_op (is.entered found.0 step there)) in
    let at : get_or numbers entered.0 0 ≡ found.0 = get_or_default numbers entered.0 0 found.0 entered.1 ∙ entered.2 in
    none entered.0 step entered.1 (subst (λ n. slice_get steps n ≡ Some step) (sym at) there) right

-- if none of those under its key is kept for an operation, there is no entry of it
pub lacks-none : {Y : Type 0} (kept : List TreeMap) (steps : List Step) (index : Index) (op : Op) (inputs : List TreeMap) (numbers : List ℕ) (result : Option Y) → IsIndexed steps index → numbers ≡ under index (key_of op) → IfNone result ((k : ℕ) (step : Step) → k < length numbers → slice_get steps (get_or numbers k 0) ≡ Some step → ¬ IsFor kept op inputs step) → IfNone result (Lacks (entries_at kept steps) op inputs)
lacks-none kept steps index op inputs numbers (Some y) is e none = none
lacks-none kept steps index op inputs numbers None is e none = lacks-all kept steps index op inputs numbers is e none

-- ---- what is kept

abbrev given : List Entry → List TreeMap → GenerationValue
given entries trees = record { entries = entries; trees = trees }

-- a tree more changes no entry
pub kept-now : (old new : List TreeMap) (steps : List Step) (tree : TreeMap) (value : GenerationValue) → given (entries_at old steps) old ≡ value → ArePlaced (length old) steps → new ≡ old ++ tree ∷ [] → given (entries_at new steps) new ≡ given value.entries (value.trees ++ tree ∷ [])
kept-now old new steps tree value view are ok =
    let more : given (entries_at (old ++ tree ∷ []) steps) (old ++ tree ∷ []) ≡ given (entries_at old steps) (old ++ tree ∷ []) = ap (λ es. given es (old ++ tree ∷ [])) (entries_at-more old (tree ∷ []) steps are) in
    let here : given (entries_at new steps) new ≡ given (entries_at old steps) (old ++ tree ∷ []) = subst (λ ts. given (entries_at ts steps) ts ≡ given (entries_at old steps) (old ++ tree ∷ [])) (sym ok) more in
    subst (λ (v : GenerationValue). given (entries_at new steps) new ≡ given v.entries (v.trees ++ tree ∷ [])) view here

pub kept-view : {X Y : Type 0} (old new : List TreeMap) (steps : List Step) (tree : TreeMap) (value : GenerationValue) (result : Result X Y) → given (entries_at old steps) old ≡ value → ArePlaced (length old) steps → OnOk result (new ≡ old ++ tree ∷ []) → OnOk result (given (entries_at new steps) new ≡ given value.entries (value.trees ++ tree ∷ []))
kept-view old new steps tree value (Err y) view are ok = ok
kept-view old new steps tree value (Ok x) view are ok = kept-now old new steps tree value view are ok

pub more-on : (first second third : List TreeMap) → IsMore first second → IsMore second third → IsMore first third
more-on first second third this that = record {
  more = this.more ++ that.more;
  is = that.is ∙ (ap (λ trees. trees ++ that.more) this.is ∙ append_assoc first this.more that.more);
}

-- the tree that was kept last has the number of those before it
last-at : (old new : List TreeMap) (tree : TreeMap) (number : ℕ) → new ≡ old ++ tree ∷ [] → number ≡ length old → tree_at new number ≡ tree
last-at old new tree number more e =
    subst (λ trees. tree_at trees number ≡ tree) (sym more) (subst (λ n. tree_at (old ++ tree ∷ []) n ≡ tree) (sym e) (get_or-append_seam old tree [] empty_tree))

others-at : (old new : List TreeMap) (tree : TreeMap) (numbers : List ℕ) (trees : List TreeMap) → new ≡ old ++ tree ∷ [] → AreBelow (length old) numbers → trees_at old numbers ≡ trees → trees_at new numbers ≡ trees
others-at old new tree numbers trees more below same =
    subst (λ ts. trees_at ts numbers ≡ trees) (sym more) (trees_at-more old (tree ∷ []) numbers below ∙ same)

pub numbers-push : (old new : List TreeMap) (tree : TreeMap) (numbers after : List ℕ) (number : ℕ) (trees : List TreeMap) → new ≡ old ++ tree ∷ [] → number ≡ length old → after ≡ numbers ++ number ∷ [] → AreBelow (length old) numbers → trees_at old numbers ≡ trees → trees_at new after ≡ trees ++ tree ∷ []
numbers-push old new tree numbers after number trees more e push below same =
    ap (trees_at new) push ∙ (map_push (tree_at new) numbers number
    ∙ (ap (λ ts. ts ++ tree_at new number ∷ []) (others-at old new tree numbers trees more below same)
    ∙ ap (λ t. trees ++ t ∷ []) (last-at old new tree number more e)))

cons_below : (count number : ℕ) (numbers : List ℕ) → number < count → AreBelow count numbers → (k d : ℕ) → k < length (number ∷ numbers) → slice_index_or (number ∷ numbers) k d < count
cons_below count number numbers is are zero d l = is
cons_below count number numbers is are (suc k) d l = are k d (omega (arith, l))

below-one : (count : ℕ) (numbers : List ℕ) (number : ℕ) → AreBelow count numbers → number < count → AreBelow count (numbers ++ number ∷ [])
below-one count [] number are is = cons_below count number [] is (λ k d l. absurd (omega (arith, l)))
below-one count (first ∷ numbers) number are is =
    cons_below count first (numbers ++ number ∷ []) (are 0 first (omega arith)) (below-one count numbers number (λ k d l. are (suc k) d (omega (arith, l))) is)

pub below-push : (old new : List TreeMap) (tree : TreeMap) (numbers after : List ℕ) (number : ℕ) → new ≡ old ++ tree ∷ [] → number ≡ length old → after ≡ numbers ++ number ∷ [] → AreBelow (length old) numbers → AreBelow (length new) after
below-push old new tree numbers after number more e push below =
    let long : length new ≡ length old + 1 = ap (λ ts. length ts) more ∙ length-append old (tree ∷ []) in
    subst (AreBelow (length new)) (sym push) (below-one (length new) numbers number (below-more (length old) (length new) numbers below (omega (arith, long))) (omega (arith, long, e)))

-- the step of trees of which the last was kept last
pub kept-entry : (op : Op) (old new : List TreeMap) (tree : TreeMap) (numbers : List ℕ) (number : ℕ) (trees : List TreeMap) → new ≡ old ++ tree ∷ [] → number ≡ length old → AreBelow (length old) numbers → trees_at old numbers ≡ trees → entry_at new (record { op = op; inputs = numbers; tree = number }) ≡ entry_of op trees tree
kept-entry op old new tree numbers number trees more e below same =
    ap (λ ts. entry_of op ts (tree_at new number)) (others-at old new tree numbers trees more below same) ∙ ap (λ t. entry_of op trees t) (last-at old new tree number more e)

-- an entry more, if its step was added
pub added-entries : {X Y : Type 0} (old new : List TreeMap) (steps after : List Step) (step : Step) (entry : Entry) (result : Result X Y) → IsMore old new → ArePlaced (length old) steps → entry_at new step ≡ entry → OnOk result (after ≡ steps ++ step ∷ []) → OnOk result (entries_at new after ≡ entries_at old steps ++ entry ∷ [])
added-entries old new steps after step entry (Err y) more are is ok = ok
added-entries old new steps after step entry (Ok x) more are is ok =
    ap (entries_at new) ok ∙ (entries_at-push new steps step
    ∙ (ap (λ es. es ++ entry_at new step ∷ []) (more-entries old new steps more are)
    ∙ ap (λ e. entries_at old steps ++ e ∷ []) is))

pub added-placed : {X Y : Type 0} (old new : List TreeMap) (steps after : List Step) (step : Step) (result : Result X Y) → IsMore old new → ArePlaced (length old) steps → IsPlaced (length new) step → OnOk result (after ≡ steps ++ step ∷ []) → OnOk result (ArePlaced (length new) after)
added-placed old new steps after step (Err y) more are is ok = ok
added-placed old new steps after step (Ok x) more are is ok = subst (ArePlaced (length new)) (sym ok) (placed-push (length new) steps step (more-placed old new steps more are) is)

-- what a result says it says of more
pub ok-more : {X Y : Type 0} (P Q : X → Type 0) (result : Result X Y) → ((x : X) → P x → Q x) → IfOk result P → IfOk result Q
ok-more P Q (Ok x) more is = more x is
ok-more P Q (Err y) more is = is

-- ---- one tree after another

-- the trees of the numbers so far are those so far, and so they are with the next one
pub next-at : (kept : List TreeMap) (numbers : List ℕ) (trees : List TreeMap) (at : ℕ) (tree : TreeMap) → at < length numbers → slice_get trees at ≡ Some tree
    → tree_at kept (get_or numbers at 0) ≡ tree → trees_at kept (take at numbers) ≡ take at trees → trees_at kept (take (at + 1) numbers) ≡ take (at + 1) trees
next-at kept numbers trees at tree below there same before =
    let more : suc at ≡ at + 1 = omega arith in
    let last : get_or trees at empty_tree ≡ tree = get_or_from_slice_get trees at tree empty_tree there in
    subst (λ n. trees_at kept (take n numbers) ≡ take n trees) more
    (ap (trees_at kept) (take-suc numbers at 0 below) ∙ map-append (tree_at kept) (take at numbers) (get_or numbers at 0 ∷ [])
    ∙ ap (λ ts. ts ++ (tree_at kept (get_or numbers at 0) ∷ [])) before ∙ ap (λ t. take at trees ++ (t ∷ [])) (same ∙ sym last)
    ∙ sym (take-suc trees at empty_tree (slice_get_within trees at tree there)))
