-- What a board is settled with may be added to a memo, under the numbers of trees that the memo keeps.
use Rattle.std.proofs.Common.{◌≡◌, ◌∙◌, ◌<◌, ◌≤◌, ◌⊎◌, inl, inr, ℕ, zero, suc, false, List, [], ◌∷◌, ◌++◌, length, map, Option, Some, None, Result, Ok, Err, IfOk, OnOk, OnErr, refl, sym, ap, subst, arith}
use Rattle.std.specs.Prelude.{IfSome, slice_get, slice_index_or, slice_set}
use Rattle.std.specs.List.{All}
use Rattle.std.proofs.lemmas.Bool.{cases_eq, cases_lt}
use Rattle.std.proofs.lemmas.List.{append-nil, length-append, get_or_append_left, get_or_past, get_or-set_same, get_or-set_other}
use Rattle.std.proofs.lemmas.List.Elements.{All-push}
use Rattle.std.proofs.lemmas.Option.{slice_get_within, slice_get-get_or, get_or_from_slice_get}
use Rattle.std.proofs.Math.Seq.{get_or-append_seam}
use Rattle.trees.specs.TreeMap.{TreeMap, empty_tree}
use Rattle.llb.specs.declared.op.Op.{Op}
use Rattle.llb.specs.declared.op.Op.TheVariants.{Source as SourceOp, Exec as ExecOp, Copy as CopyOp, MakeDirs as MakeDirsOp, Merge as MergeOp}
use Rattle.llb.specs.declared.vertex.Vertex.{Vertex}
use Rattle.plans.specs.Plan.{Problem, vertex_value}
use Rattle.plans.specs.Sources.{SourcesValue}
use Rattle.plans.specs.Value.{Out, Value, trees_at, result_of}
use Rattle.board.specs.Play.{Run, value_at, IsReplay}
use Rattle.board.specs.Problem.{IsProblem, values_in}
use Rattle.board.proofs.PlayLemmas.{replay-value}
use Rattle.board.proofs.ProblemLemmas.{value-there}
use Rattle.board.proofs.SoundLemmas.{sound}
use Rattle.memo.specs.Kept.{Keeps, KeepsAll, kept_trees}
use Rattle.memo.specs.Memo.{Entry, MemoValue, is_source, entry_of, with_kept, IsLawful, Adds, Grows}
use Rattle.memo.proofs.GrowLemmas.{grows-same, grows-on, added-grows}
use Rattle.solver.proofs.RecallLemmas.{numbers-push}
use Rattle.solver.specs.Recall.{IsKept}
use Rattle.solver.specs.PrivateRemembering.{AreKept, Remembers, IsPut}

-- ---- what may be added

-- an operation that is no source gives the same, whatever the sources are
sourceless : (out : Out) (sources others : SourcesValue) (op : Op) (trees : List TreeMap) → is_source op ≡ false → result_of out sources op trees ≡ result_of out others op trees
sourceless out sources others (SourceOp source) trees e = cc
sourceless out sources others (ExecOp exec) trees e = refl
sourceless out sources others (CopyOp files) trees e = refl
sourceless out sources others (MakeDirsOp path) trees e = refl
sourceless out sources others MergeOp trees e = refl

-- the tree of a vertex that is no source is what its operation gives on the trees of its inputs
pub value-lawful : (problem : Problem) (id : ℕ) (v : Vertex) (inputs : List TreeMap) (tree : TreeMap) → IsProblem problem → slice_get problem.vertices id ≡ Some v → is_source v.op ≡ false → slice_index_or (values_in problem) id None ≡ Some (Ok tree) → trees_at (values_in problem) v.inputs ≡ Some inputs → IsLawful problem.out (entry_of v.op inputs tree)
unfolding vertex_value
value-lawful problem id v inputs tree is there runs value trees =
    record { no_source = runs; gives = λ sources. sourceless problem.out sources problem.sources v.op inputs runs ∙ (sym (value-there problem id v inputs is there trees) ∙ value) }

-- a vertex that is settled with a tree has it as its value
pub settled-tree : (problem : Problem) (run : Run) (id : ℕ) (tree : TreeMap) → IsProblem problem → IsReplay problem run → value_at run.state.settled id ≡ Some (Ok tree) → slice_index_or (values_in problem) id None ≡ Some (Ok tree)
unfolding vertex_value
settled-tree problem run id tree is replay value = replay-value problem run (sound problem is) replay id (Ok tree) value

-- ---- numbers by vertex

-- without a number there is none that is wrong
pub kept-none : (values : List Value) (trees : List TreeMap) (numbers : List (Option ℕ)) → numbers ≡ [] → AreKept values trees numbers
kept-none values trees numbers none = λ vertex number e.
    let past : length numbers ≤ vertex = omega (arith, ap length none) in
    let nothing : ◌≡◌ {A = Option ℕ} None (Some number) = sym (get_or_past numbers vertex None past) ∙ e in
    cc

kept_cases : (values : List Value) (trees : List TreeMap) (numbers : List (Option ℕ)) (found : Option ℕ) (vertex number : ℕ) → AreKept values trees numbers → IfSome found (IsKept values trees (length numbers)) → slice_index_or (numbers ++ found ∷ []) vertex None ≡ Some number → (vertex < length numbers) ⊎ (length numbers ≤ vertex) → IsKept values trees vertex number
kept_cases values trees numbers found vertex number are is e (inl below) =
    are vertex number (sym (get_or_append_left numbers (found ∷ []) None vertex below) ∙ e)
kept_cases values trees numbers found vertex number are is e (inr above) =
    let last = last_at numbers found vertex number above e in
    let here : IsKept values trees (length numbers) number = subst (λ o. IfSome o (IsKept values trees (length numbers))) last.1 is in
    subst (λ v. IsKept values trees v number) (sym last.0) here
  where
    last_at : (ns : List (Option ℕ)) (o : Option ℕ) (v n : ℕ) → length ns ≤ v → slice_index_or (ns ++ o ∷ []) v None ≡ Some n → (v ≡ length ns) × (o ≡ Some n)
    last_at [] o zero n l e = (refl, e)
    last_at [] o (suc v) n l e = cc
    last_at (m ∷ ns) o zero n l e = absurd (omega (arith, l))
    last_at (m ∷ ns) o (suc v) n l e =
        let rest = last_at ns o v n (omega (arith, l)) e in
        (ap suc rest.0, rest.1)

-- one vertex more, whose number may be missing
pub kept-push : (values : List Value) (trees : List TreeMap) (numbers : List (Option ℕ)) (found : Option ℕ) (at : ℕ) → length numbers ≡ at → AreKept values trees numbers → IfSome found (IsKept values trees at) → AreKept values trees (numbers ++ found ∷ [])
kept-push values trees numbers found at long are is = λ vertex number e.
    kept_cases values trees numbers found vertex number are (subst (λ n. IfSome found (IsKept values trees n)) (sym long) is) e (cases_lt vertex (length numbers))

-- ---- a memo that has grown

-- a tree that is kept stays so
pub kept-on : {E : Type 0} (values : List Value) (old new : MemoValue E) (vertex number : ℕ) → Grows old new → IsKept values old.recent.trees vertex number → IsKept values new.recent.trees vertex number
kept-on values old new vertex number grows is =
    let trees : List TreeMap = old.recent.trees in
    let more : IsKept values (trees ++ grows.trees) vertex number = record {
      below = omega (arith, is.below, length-append trees grows.trees);
      value = is.value ∙ ap (λ t. Some (Ok t)) (sym (get_or_append_left trees grows.trees empty_tree number is.below));
    } in
    subst (λ ts. IsKept values ts vertex number) (sym grows.more_trees) more

pub all-kept-on : {E : Type 0} (values : List Value) (old new : MemoValue E) (numbers : List (Option ℕ)) → Grows old new → AreKept values old.recent.trees numbers → AreKept values new.recent.trees numbers
all-kept-on values old new numbers grows are = λ vertex number e. kept-on values old new vertex number grows (are vertex number e)

-- nothing more is kept
pub remembers-same : {E : Type 0} (values : List Value) (memo : MemoValue E) (numbers : List (Option ℕ)) → AreKept values memo.recent.trees numbers → Remembers values memo memo numbers
remembers-same values memo numbers are = record { grows = grows-same memo; kept = are }

pub remembers-on : {E : Type 0} (values : List Value) (first second third : MemoValue E) (numbers : List (Option ℕ)) → Grows first second → Remembers values second third numbers → Remembers values first third numbers
remembers-on values first second third numbers grows that = record { grows = grows-on first second third grows that.grows; kept = that.kept }

-- an entry more, or none
pub remembers-added : {E X Y : Type 0} (values : List Value) (first second third : MemoValue E) (numbers : List (Option ℕ)) (entry : Entry) (result : Result X Y) → Grows first second → AreKept values second.recent.trees numbers → OnOk result (Adds second third entry) → OnErr result (third ≡ second) → Remembers values first third numbers
remembers-added values first second third numbers entry result grows are ok err =
    let adds : Grows second third = added-grows second third entry result ok err in
    record { grows = grows-on first second third grows adds; kept = all-kept-on values second third numbers adds are }

-- ---- a tree more

keep-grows : {E : Type 0} (memo : MemoValue E) (tree : TreeMap) → Grows memo (with_kept memo tree)
keep-grows memo tree = record {
  executor = refl;
  as_long = refl;
  entries = [];
  more_entries = sym (append-nil memo.recent.entries);
  trees = tree ∷ [];
  more_trees = refl;
  earlier = refl;
}

last-stands : (trees : List TreeMap) (tree : TreeMap) (number : ℕ) → number ≡ length trees → slice_get (trees ++ tree ∷ []) number ≡ Some tree
last-stands trees tree number e =
    let within : number < length (trees ++ tree ∷ []) = omega (arith, e, length-append trees (tree ∷ [])) in
    let here : slice_index_or (trees ++ tree ∷ []) number empty_tree ≡ tree = subst (λ n. slice_index_or (trees ++ tree ∷ []) n empty_tree ≡ tree) (sym e) (get_or-append_seam trees tree [] empty_tree) in
    slice_get-get_or (trees ++ tree ∷ []) number empty_tree within ∙ ap Some here

-- the tree that was kept last stands under its number
pub kept-stands : {E Y : Type 0} (old new : MemoValue E) (tree : TreeMap) (result : Result ℕ Y) → IfOk result (λ number. number ≡ length old.recent.trees) → OnOk result (new ≡ with_kept old tree) → IfOk result (λ number. slice_get new.recent.trees number ≡ Some tree)
kept-stands old new tree (Ok number) last e =
    subst (λ (m : MemoValue _). slice_get m.recent.trees number ≡ Some tree) (sym e) (last-stands old.recent.trees tree number last)
kept-stands old new tree (Err y) last e = last

pub kept-grows : {E X Y : Type 0} (old new : MemoValue E) (tree : TreeMap) (result : Result X Y) → OnOk result (new ≡ with_kept old tree) → OnErr result (new ≡ old) → Grows old new
kept-grows old new tree (Ok x) ok err = subst (Grows old) (sym ok) (keep-grows old tree)
kept-grows old new tree (Err y) ok err = subst (Grows old) (sym err) (grows-same old)

-- a tree that stands under a number is that of its vertex
pub kept-there : (values : List Value) (trees : List TreeMap) (tree : TreeMap) (vertex number : ℕ) → slice_get trees number ≡ Some tree → slice_index_or values vertex None ≡ Some (Ok tree) → IsKept values trees vertex number
kept-there values trees tree vertex number there value = record {
  below = slice_get_within trees number tree there;
  value = value ∙ ap (λ t. Some (Ok t)) (sym (get_or_from_slice_get trees number tree empty_tree there));
}

put_case : (values : List Value) (trees : List TreeMap) (old : List (Option ℕ)) (place number vertex other : ℕ) → AreKept values trees old → IsKept values trees place number → place < length old → slice_index_or (slice_set old place (Some number)) vertex None ≡ Some other → (vertex ≡ place) ⊎ (vertex ≡ place → ⊥) → IsKept values trees vertex other
put_case values trees old place number vertex other are is l e (inl here) =
    let there : slice_index_or (slice_set old place (Some number)) place None ≡ Some other = subst (λ k. slice_index_or (slice_set old place (Some number)) k None ≡ Some other) here e in
    let same : Some number ≡ Some other = sym (get_or-set_same old place (Some number) None l) ∙ there in
    let one : number ≡ other = cc in
    subst (λ k. IsKept values trees k other) (sym here) (subst (IsKept values trees place) one is)
put_case values trees old place number vertex other are is l e (inr apart) =
    are vertex other (sym (get_or-set_other old place vertex (Some number) None apart) ∙ e)

-- a number that is put beside the others
put-kept : (values : List Value) (trees : List TreeMap) (old new : List (Option ℕ)) (place number : ℕ) → AreKept values trees old → IsKept values trees place number → IsPut old new place number → AreKept values trees new
put-kept values trees old new place number are is (inl same) = subst (AreKept values trees) (sym same) are
put-kept values trees old new place number are is (inr set) = λ vertex other e.
    put_case values trees old place number vertex other are is set.0 (subst (λ ns. slice_index_or ns vertex None ≡ Some other) set.1 e) (cases_eq vertex place)

-- the number of a tree more
pub remembers-there : {E : Type 0} (values : List Value) (old new : MemoValue E) (tree : TreeMap) (vertex number : ℕ) (numbers after : List (Option ℕ)) → Grows old new → slice_get new.recent.trees number ≡ Some tree → slice_index_or values vertex None ≡ Some (Ok tree) → AreKept values old.recent.trees numbers → IsPut numbers after vertex number → Remembers values old new after
remembers-there values old new tree vertex number numbers after grows there value are is = record {
  grows = grows;
  kept = put-kept values new.recent.trees numbers after vertex number (all-kept-on values old new numbers grows are) (kept-there values new.recent.trees tree vertex number there value) is;
}

-- no number more
pub remembers-grown : {E : Type 0} (values : List Value) (old new : MemoValue E) (numbers : List (Option ℕ)) → Grows old new → AreKept values old.recent.trees numbers → Remembers values old new numbers
remembers-grown values old new numbers grows are = record { grows = grows; kept = all-kept-on values old new numbers grows are }

-- ---- the trees of inputs

trees_on : (trees more : List TreeMap) (numbers : List ℕ) → All (λ number. number < length trees) numbers → map (λ number. slice_index_or (trees ++ more) number empty_tree) numbers ≡ map (λ number. slice_index_or trees number empty_tree) numbers
trees_on trees more [] below = refl
trees_on trees more (number ∷ numbers) below =
    let first : slice_index_or (trees ++ more) number empty_tree ≡ slice_index_or trees number empty_tree = get_or_append_left trees more empty_tree number (below 0 number (omega arith)) in
    let rest : map (λ n. slice_index_or (trees ++ more) n empty_tree) numbers ≡ map (λ n. slice_index_or trees n empty_tree) numbers = trees_on trees more numbers (λ k d l. below (suc k) d (omega (arith, l))) in
    ap (λ tree. tree ∷ map (λ n. slice_index_or (trees ++ more) n empty_tree) numbers) first ∙ ap (λ others. slice_index_or trees number empty_tree ∷ others) rest

pub kept_trees-on : {E : Type 0} (old new : MemoValue E) (numbers : List ℕ) → Grows old new → KeepsAll old.recent numbers → kept_trees new.recent numbers ≡ kept_trees old.recent numbers
kept_trees-on old new numbers grows keeps =
    subst (λ (ts : List TreeMap). map (λ n. slice_index_or ts n empty_tree) numbers ≡ kept_trees old.recent numbers) (sym grows.more_trees) (trees_on old.recent.trees grows.trees numbers keeps)

longer : {E : Type 0} (old new : MemoValue E) (number : ℕ) → Grows old new → number < length old.recent.trees → number < length new.recent.trees
longer old new number grows below =
    subst (λ (ts : List TreeMap). number < length ts) (sym grows.more_trees) (omega (arith, below, length-append old.recent.trees grows.trees))

-- one input more, whose tree is kept
pub inputs-push : {E : Type 0} (values : List Value) (ids : List ℕ) (id : ℕ) (old new : MemoValue E) (numbers : List ℕ) (number : ℕ) → Grows old new → KeepsAll old.recent numbers → trees_at values ids ≡ Some (kept_trees old.recent numbers) → IsKept values new.recent.trees id number → trees_at values (ids ++ id ∷ []) ≡ Some (kept_trees new.recent (numbers ++ number ∷ []))
inputs-push values ids id old new numbers number grows keeps trees is =
    numbers-push values ids id new.recent numbers number (trees ∙ ap Some (sym (kept_trees-on old new numbers grows keeps))) is

pub keeps-push : {E : Type 0} (values : List Value) (id : ℕ) (old new : MemoValue E) (numbers : List ℕ) (number : ℕ) → Grows old new → KeepsAll old.recent numbers → IsKept values new.recent.trees id number → KeepsAll new.recent (numbers ++ number ∷ [])
keeps-push values id old new numbers number grows keeps is =
    All-push (Keeps new.recent) numbers number (λ k d l. longer old new (slice_index_or numbers k d) grows (keeps k d l)) is.below
