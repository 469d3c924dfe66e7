-- What a memo has by the numbers of trees is the value of a vertex, and the result of its claim.
use Rattle.std.proofs.Common.{◌≡◌, ◌∙◌, ◌⊎◌, inl, inr, ℕ, zero, suc, Bool, List, [], ◌∷◌, ◌++◌, length, Option, Some, None, Result, Ok, Err, IfOk, OnOk, refl, sym, ap, subst, arith}
use Rattle.std.specs.Prelude.{IfSome, slice_get, slice_index_or}
use Rattle.std.specs.Option.{option_map, option_map_or}
use Rattle.std.proofs.lemmas.List.{map_push}
use Rattle.std.proofs.lemmas.Option.{slice_get_within, get_or_from_slice_get}
use Rattle.trees.specs.TreeMap.{TreeMap, empty_tree}
use Rattle.trees.specs.declared.cause.Cause.{Cause}
use Rattle.runs.specs.declared.run.RunRequest.{RunRequest}
use Rattle.llb.specs.declared.op.Op.{Op}
use Rattle.llb.specs.declared.op.Op.TheVariants.{Source as SourceOp, Exec as ExecOp, Copy as CopyOp, MakeDirs as MakeDirsOp, Merge as MergeOp}
use Rattle.llb.specs.declared.vertex.Vertex.{Vertex}
use Rattle.plans.specs.Plan.{Problem, vertex_value, caches_of, IsLeftBy, IsLeftByRun}
use Rattle.plans.specs.Request.{request_of}
use Rattle.plans.specs.Value.{Out, Value, tree_of, with_tree, trees_at, result_of}
use Rattle.board.specs.Claim.{ClaimValue, IsClaim, IsResult, IsGivenBack}
use Rattle.board.specs.Leaving.{Leaving, LeaveTheSame, IsLeftFor}
use Rattle.board.specs.Problem.{IsProblem, values_in}
use Rattle.board.proofs.LeavingLemmas.{left-more}
use Rattle.board.proofs.ProblemLemmas.{value-there}
use Rattle.memo.specs.declared.number.Age.{Age}
use Rattle.memo.specs.declared.number.Age.TheVariants.{Recent, Earlier}
use Rattle.memo.specs.Kept.{Keeps, kept_tree, kept_trees}
use Rattle.memo.specs.Memo.{GenerationValue, MemoValue, entry_of, new_memo, IsLawful, Has, Holds, Knows}
use Rattle.memo.specs.Numbers.{generation_of}
use Rattle.solver.specs.declared.finding.Finding.{Finding}
use Rattle.solver.specs.Recall.{IsKept, IsFinding, AreOf, number_in, stays, leaves_or_stays, MayStay}

-- ---- results

-- the trees that were taken with a claim may be given back
pub taken-given : (problem : Problem) (claim : ClaimValue) → IsClaim problem claim → IsGivenBack problem claim claim.caches
taken-given problem claim is = is.caches ∙ sym (ap (λ o. length (option_map_or (λ (v : Vertex). caches_of v.op) o [])) is.there)

-- a tree that is the value of a claim's vertex is the claim's result
value-result : (problem : Problem) (claim : ClaimValue) (tree : TreeMap) → IsProblem problem → IsClaim problem claim → slice_index_or (values_in problem) claim.vertex None ≡ Some (Ok tree) → IsResult problem claim (Ok tree)
unfolding vertex_value
value-result problem claim tree is of value = λ v e.
    let one : of.vertex ≡ v = (let f : Some of.vertex ≡ Some v = sym of.there ∙ e in cc) in
    subst (λ (u : Vertex). result_of problem.out problem.sources u.op claim.inputs ≡ Some (Ok tree)) one
    (sym (value-there problem claim.vertex of.vertex claim.inputs is of.there of.inputs) ∙ value)

-- and so is one that is kept under a number of the vertex's
pub kept-result : (problem : Problem) (claim : ClaimValue) (out : Out) (values : List Value) (kept : List TreeMap) (number : ℕ) (tree : TreeMap) → IsProblem problem → IsClaim problem claim → AreOf problem out values → IsKept values kept claim.vertex number → slice_get kept number ≡ Some tree → IsResult problem claim (Ok tree)
kept-result problem claim out values kept number tree is of named here there =
    let value : slice_index_or values claim.vertex None ≡ Some (Ok tree) = here.value ∙ ap (λ t. Some (Ok t)) (get_or_from_slice_get kept number tree empty_tree there) in
    value-result problem claim tree is of (subst (λ vs. slice_index_or vs claim.vertex None ≡ Some (Ok tree)) named.same_values value)

-- what an operation lawfully gave on the trees of a vertex's inputs is the vertex's value
lawful-value : (problem : Problem) (id : ℕ) (v : Vertex) (inputs : List TreeMap) (tree : TreeMap) → IsProblem problem → slice_get problem.vertices id ≡ Some v → trees_at (values_in problem) v.inputs ≡ Some inputs → IsLawful problem.out (entry_of v.op inputs tree) → slice_index_or (values_in problem) id None ≡ Some (Ok tree)
unfolding vertex_value
lawful-value problem id v inputs tree is there trees lawful = value-there problem id v inputs is there trees ∙ lawful.gives problem.sources

-- so the number that a memo has for it is one of the vertex's tree
pub lawful-kept : (problem : Problem) (id : ℕ) (v : Vertex) (asked out : Out) (values : List Value) (generation : GenerationValue) (inputs : List ℕ) (found : Option ℕ) → IsProblem problem → slice_get problem.vertices id ≡ Some v → asked ≡ out → AreOf problem out values → trees_at values v.inputs ≡ Some (kept_trees generation inputs) → IfSome found (Keeps generation) → IfSome found (λ number. IsLawful asked (entry_of v.op (kept_trees generation inputs) (kept_tree generation number))) → IfSome found (IsKept values generation.trees id)
lawful-kept problem id v asked out values generation inputs None is there same named trees keeps lawful = keeps
lawful-kept problem id v asked out values generation inputs (Some number) is there same named trees keeps lawful =
    let tree : TreeMap = kept_tree generation number in
    let lent : List TreeMap = kept_trees generation inputs in
    let own : IsLawful problem.out (entry_of v.op lent tree) = subst (λ o. IsLawful o (entry_of v.op lent tree)) (same ∙ named.same_out) lawful in
    let all : trees_at (values_in problem) v.inputs ≡ Some lent = subst (λ vs. trees_at vs v.inputs ≡ Some lent) named.same_values trees in
    let value : slice_index_or (values_in problem) id None ≡ Some (Ok tree) = lawful-value problem id v lent tree is there all own in
    let is : IsKept values generation.trees id number = record { below = keeps; value = subst (λ vs. slice_index_or vs id None ≡ Some (Ok tree)) (sym named.same_values) value } in
    is

-- what a result says it says of more
pub ok-more : {X Y : Type 0} (P Q : X → Type 0) (result : Result X Y) → ((x : X) → P x → Q x) → IfOk result P → IfOk result Q
ok-more P Q (Ok x) more is = more x is
ok-more P Q (Err y) more is = is

pub on-ok-more : {X Y : Type 0} (P Q : Type 0) (result : Result X Y) → (P → Q) → OnOk result P → OnOk result Q
on-ok-more P Q (Ok x) more is = more is
on-ok-more P Q (Err y) more is = is

-- what is found at a place stands there
pub some-there : {X Y : Type 0} (now : X → Y) (P : X → Type 0) (found : Option X) (there : Option Y) → option_map now found ≡ there → ((x : X) → there ≡ Some (now x) → P x) → IfSome found P
some-there now P None there e then = tt
some-there now P (Some x) there e then = then x (sym e)

pub some-all : {X : Type 0} (P : Type 0) (found : Option X) → P → IfSome found (λ x. P)
some-all P None is = tt
some-all P (Some x) is = is

-- ---- what stays in caches

-- in the caches of an operation of which a memo has an entry the trees may stay, as of a request that it knows
held-stays : {E : Type 0} (memo : MemoValue E) (knows : RunRequest → Type 0) (op : Op) (inputs : List TreeMap) (tree : TreeMap) (caches : List TreeMap)
    → ((request : RunRequest) → Knows memo request → knows request) → Holds memo op inputs tree → IsLeftBy (stays knows) op inputs caches caches
held-stays memo knows (SourceOp source) inputs tree caches all holds = refl
held-stays memo knows (ExecOp exec) [] tree caches all holds = refl
held-stays memo knows (ExecOp exec) (root ∷ trees) tree caches all holds = by_request (request_of exec root trees) refl
  where
    by_request : (request : Result RunRequest Cause) → request_of exec root trees ≡ request → IsLeftByRun (stays knows) request caches caches
    by_request (Err cause) asked = refl
    by_request (Ok request) asked = (all request (record { exec = exec; root = root; trees = trees; tree = tree; holds = holds; asked = asked }), refl)
held-stays memo knows (CopyOp files) inputs tree caches all holds = refl
held-stays memo knows (MakeDirsOp path) inputs tree caches all holds = refl
held-stays memo knows MergeOp inputs tree caches all holds = refl

has-holds : {E : Type 0} (memo : MemoValue E) (age : Age) (op : Op) (inputs : List TreeMap) (tree : TreeMap) → Has (generation_of memo age).entries op inputs tree → Holds memo op inputs tree
has-holds memo Recent op inputs tree has = inl has
has-holds memo Earlier op inputs tree has = inr has

-- so they may in the caches of a claim, where the memo has an entry for its operation on the trees of its inputs
pub found-stays : {E : Type 0} (memo : MemoValue E) (age : Age) (knows : RunRequest → Type 0) (problem : Problem) (claim : ClaimValue) (v : Vertex) (out : Out) (values : List Value) (numbers : List ℕ) (found : Option ℕ)
    → IsClaim problem claim → AreOf problem out values → slice_get problem.vertices claim.vertex ≡ Some v
    → trees_at values v.inputs ≡ Some (kept_trees (generation_of memo age) numbers)
    → ((request : RunRequest) → Knows memo request → knows request)
    → IfSome found (λ number. Has (generation_of memo age).entries v.op (kept_trees (generation_of memo age) numbers) (kept_tree (generation_of memo age) number))
    → IfSome found (λ number. IsLeftFor (stays knows) problem claim claim.caches)
found-stays memo age knows problem claim v out values numbers None of named there trees all has = tt
found-stays memo age knows problem claim v out values numbers (Some number) of named there trees all has = λ u at.
    let generation : GenerationValue = generation_of memo age in
    let tree : TreeMap = kept_tree generation number in
    let same : of.vertex ≡ v = (let f : Some of.vertex ≡ Some v = sym of.there ∙ there in cc) in
    let one : v ≡ u = (let f : Some v ≡ Some u = sym there ∙ at in cc) in
    let own : trees_at (values_in problem) v.inputs ≡ Some claim.inputs = subst (λ (w : Vertex). trees_at (values_in problem) w.inputs ≡ Some claim.inputs) same of.inputs in
    let kept : trees_at (values_in problem) v.inputs ≡ Some (kept_trees generation numbers) = subst (λ vs. trees_at vs v.inputs ≡ Some (kept_trees generation numbers)) named.same_values trees in
    let lent : kept_trees generation numbers ≡ claim.inputs = (let f : Some (kept_trees generation numbers) ≡ Some claim.inputs = sym kept ∙ own in cc) in
    let held : Holds memo v.op claim.inputs tree = subst (λ inputs. Holds memo v.op inputs tree) lent (has-holds memo age v.op (kept_trees generation numbers) tree has) in
    subst (λ (w : Vertex). IsLeftBy (stays knows) w.op claim.inputs claim.caches claim.caches) one (held-stays memo knows v.op claim.inputs tree claim.caches all held)

-- where the trees of known requests may stay, they may in a claim's caches
pub stays-left : (knows : RunRequest → Type 0) (leaves : Leaving) (problem : Problem) (claim : ClaimValue) → MayStay knows leaves → IsLeftFor (stays knows) problem claim claim.caches → IsLeftFor leaves problem claim claim.caches
stays-left knows leaves problem claim may is =
    left-more (stays knows) leaves problem claim claim.caches (λ request before after known. subst (λ trees. leaves request before trees) (sym known.1) (may request before known.0)) is

pub stay-same : (knows : RunRequest → Type 0) (leaves other : Leaving) → LeaveTheSame leaves other → MayStay knows other → MayStay knows leaves
stay-same knows leaves other same may = λ request trees known. (same request trees trees).1 (may request trees known)

-- beside what an executor leaves
pub stay-beside : (knows : RunRequest → Type 0) (leaves : Leaving) → MayStay knows (leaves_or_stays knows leaves)
stay-beside knows leaves = λ request trees known. inr (known, refl)

-- a memo without an entry knows no request
knows-nothing : {E : Type 0} (executor : E) (for_one : Bool) (request : RunRequest) → Knows (new_memo executor for_one) request → ⊥
knows-nothing executor for_one request known = in_none known.holds
  where
    in_none : {op : Op} {inputs : List TreeMap} {tree : TreeMap} → Has [] op inputs tree ⊎ Has [] op inputs tree → ⊥
    in_none (inl has) = omega (arith, has.1)
    in_none (inr has) = omega (arith, has.1)

pub nothing-stays : {E : Type 0} (executor : E) (for_one : Bool) (leaves : Leaving) → LeaveTheSame (leaves_or_stays (Knows (new_memo executor for_one)) leaves) leaves
nothing-stays executor for_one leaves = λ request before after. (left request before after, inl)
  where
    left : (request : RunRequest) (before after : List TreeMap) → leaves_or_stays (Knows (new_memo executor for_one)) leaves request before after → leaves request before after
    left request before after (inl is) = is
    left request before after (inr is) = absurd (knows-nothing executor for_one request is.0)

-- ---- trees of inputs

record Parts (value : Value) (rest : Option (List TreeMap)) (all : List TreeMap) : Type 0 where
  tree : TreeMap
  others : List TreeMap
  first : value ≡ Some (Ok tree)
  more : rest ≡ Some others
  whole : all ≡ tree ∷ others

parts_of : (value : Value) (rest : Option (List TreeMap)) (all : List TreeMap) → with_tree (tree_of value) rest ≡ Some all → Parts value rest all
parts_of None rest all e = cc
parts_of (Some (Err cause)) rest all e = cc
parts_of (Some (Ok tree)) None all e = cc
parts_of (Some (Ok tree)) (Some others) all e =
    let same : tree ∷ others ≡ all = cc in
    record { tree = tree; others = others; first = refl; more = refl; whole = sym same }

-- of some vertices that have trees each one has the tree at its place
input-tree : (values : List Value) (ids : List ℕ) (trees : List TreeMap) (k id : ℕ) (tree : TreeMap) → trees_at values ids ≡ Some trees → slice_get ids k ≡ Some id → slice_get trees k ≡ Some tree → slice_index_or values id None ≡ Some (Ok tree)
input-tree values [] trees k id tree e there h = cc
input-tree values (i ∷ ids) trees zero id tree e there h =
    let parts = parts_of (slice_index_or values i None) (trees_at values ids) trees e in
    let same : i ≡ id = cc in
    let first : Some parts.tree ≡ Some tree = subst (λ ts. slice_get ts 0 ≡ Some tree) parts.whole h in
    let one : parts.tree ≡ tree = cc in
    subst (λ j. slice_index_or values j None ≡ Some (Ok tree)) same (parts.first ∙ ap (λ t. Some (Ok t)) one)
input-tree values (i ∷ ids) trees (suc k) id tree e there h =
    let parts = parts_of (slice_index_or values i None) (trees_at values ids) trees e in
    input-tree values ids parts.others k id tree parts.more there (subst (λ ts. slice_get ts (suc k) ≡ Some tree) parts.whole h)

-- the tree of an input of a claim is the value of that vertex
pub claim-tree : (problem : Problem) (claim : ClaimValue) (v : Vertex) (k id : ℕ) (tree : TreeMap) (out : Out) (values : List Value) → IsClaim problem claim → AreOf problem out values → slice_get problem.vertices claim.vertex ≡ Some v → slice_get v.inputs k ≡ Some id → slice_get claim.inputs k ≡ Some tree → slice_index_or values id None ≡ Some (Ok tree)
claim-tree problem claim v k id tree out values of named there input h =
    let one : of.vertex ≡ v = (let f : Some of.vertex ≡ Some v = sym of.there ∙ there in cc) in
    let trees : trees_at (values_in problem) v.inputs ≡ Some claim.inputs = subst (λ (u : Vertex). trees_at (values_in problem) u.inputs ≡ Some claim.inputs) one of.inputs in
    let value : slice_index_or (values_in problem) id None ≡ Some (Ok tree) = input-tree (values_in problem) v.inputs claim.inputs k id tree trees input h in
    subst (λ vs. slice_index_or vs id None ≡ Some (Ok tree)) (sym named.same_values) value

with_push : (first : Option TreeMap) (rest after : Option (List TreeMap)) (ts : List TreeMap) (t : TreeMap) → with_tree first rest ≡ Some ts → ((us : List TreeMap) → rest ≡ Some us → after ≡ Some (us ++ t ∷ [])) → with_tree first after ≡ Some (ts ++ t ∷ [])
with_push None rest after ts t e next = cc
with_push (Some first) None after ts t e next = cc
with_push (Some first) (Some us) after ts t e next =
    let same : first ∷ us ≡ ts = cc in
    subst (λ ws. with_tree (Some first) after ≡ Some (ws ++ t ∷ [])) same (rw (next us refl) refl)

-- one input more, which has a tree
trees_at-push : (values : List Value) (is : List ℕ) (i : ℕ) (ts : List TreeMap) (t : TreeMap) → trees_at values is ≡ Some ts → slice_index_or values i None ≡ Some (Ok t) → trees_at values (is ++ i ∷ []) ≡ Some (ts ++ t ∷ [])
trees_at-push values [] i ts t e h =
    let same : [] ≡ ts = cc in
    subst (λ us. trees_at values (i ∷ []) ≡ Some (us ++ t ∷ [])) same (rw h refl)
trees_at-push values (j ∷ js) i ts t e h =
    with_push (tree_of (slice_index_or values j None)) (trees_at values js) (trees_at values (js ++ i ∷ [])) ts t e (λ us f. trees_at-push values js i us t f h)

-- and whose number is known
pub numbers-push : (values : List Value) (ids : List ℕ) (id : ℕ) (generation : GenerationValue) (numbers : List ℕ) (number : ℕ) → trees_at values ids ≡ Some (kept_trees generation numbers) → IsKept values generation.trees id number → trees_at values (ids ++ id ∷ []) ≡ Some (kept_trees generation (numbers ++ number ∷ []))
numbers-push values ids id generation numbers number trees is =
    trees_at-push values ids id (kept_trees generation numbers) (kept_tree generation number) trees is.value ∙ ap Some (sym (map_push (kept_tree generation) numbers number))

-- ---- findings

-- a number of a tree that is a vertex's value is one of the vertex's tree
pub found-kept : (values : List Value) (kept named : List TreeMap) (vertex : ℕ) (found : Option ℕ) (tree : TreeMap) → kept ≡ named → IfSome found (λ number. slice_get kept number ≡ Some tree) → slice_index_or values vertex None ≡ Some (Ok tree) → IfSome found (IsKept values named vertex)
found-kept values kept named vertex None tree same is value = is
found-kept values kept named vertex (Some number) tree same is value =
    let here : IsKept values kept vertex number = record {
      below = slice_get_within kept number tree is;
      value = value ∙ ap (λ t. Some (Ok t)) (sym (get_or_from_slice_get kept number tree empty_tree is));
    } in
    subst (λ ts. IsKept values ts vertex number) same here

-- what is kept of trees that are named otherwise
pub kept-named : (values : List Value) (kept named : List TreeMap) (vertex : ℕ) (found : Option ℕ) → kept ≡ named → IfSome found (IsKept values kept vertex) → IfSome found (IsKept values named vertex)
kept-named values kept named vertex found same is = subst (λ ts. IfSome found (IsKept values ts vertex)) same is

-- numbers of a vertex's tree make a finding
pub finding-of : (values : List Value) (recent earlier : List TreeMap) (vertex : ℕ) (one other : Option ℕ) (known : Bool) → IfSome one (IsKept values recent vertex) → IfSome other (IsKept values earlier vertex) → IsFinding values recent earlier vertex (record { recent = one; earlier = other; is_remembered = known })
finding-of values recent earlier vertex one other known a b = record { in_recent = a; in_earlier = b }

-- the number of a finding in a generation is one of the vertex's tree
pub finding-kept : {E : Type 0} (memo : MemoValue E) (values : List Value) (recent earlier : List TreeMap) (vertex : ℕ) (finding : Finding) (age : Age) → memo.recent.trees ≡ recent → memo.earlier.trees ≡ earlier → IsFinding values recent earlier vertex finding → IfSome (number_in finding age) (IsKept values (generation_of memo age).trees vertex)
finding-kept memo values recent earlier vertex finding Recent r e is = kept-named values recent memo.recent.trees vertex finding.recent (sym r) is.in_recent
finding-kept memo values recent earlier vertex finding Earlier r e is = kept-named values earlier memo.earlier.trees vertex finding.earlier (sym e) is.in_earlier
