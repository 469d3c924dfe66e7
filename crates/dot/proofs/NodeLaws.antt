-- Each vertex is one node.
use Rattle.std.specs.Prelude.{◌≡◌, ℕ, ◌+◌, ◌==◌, ◌&&◌, Bool, true, false, List, [], ◌∷◌, ◌++◌, length, nat_le, nat_lt, bytes_eq, slice_index_or, refl, if◌then◌else◌}
use Rattle.std.proofs.Common.{◌∙◌, arith, cond}
use Rattle.std.proofs.lemmas.Bool.Decides.{nat_tests}
use Rattle.std.proofs.lemmas.List.Sums.{sum_by-append, sum_by-cons}
use Rattle.runs.specs.declared.run.CacheUse.{CacheUse}
use Rattle.llb.specs.declared.op.Op.{Op}
use Rattle.llb.specs.declared.vertex.Vertex.{Vertex}
use Rattle.llb.specs.Graph.{GraphValue}
use Rattle.plans.specs.Plan.{caches_of}
use Rattle.dot.specs.Labels.{Titles, is_source, title_at, stage_in}
use Rattle.dot.specs.Drawn.{Statement, node, sources, ended, begun, between, steps, ids_of, caches, inputs, mounts, edges, statements}
use Rattle.dot.specs.Claimed.{is_node_of, nodes_of}

-- one statement as a number of nodes
abbrev one : ℕ → Statement → ℕ
one k s = cond (is_node_of k s) 1 0

nodes_both : (k : ℕ) (these those : List Statement) → nodes_of k (these ++ those) ≡ nodes_of k these + nodes_of k those
nodes_both k these those = sum_by-append (one k) these those

no_ended : (k : ℕ) (stage : List ℕ) → nodes_of k (ended stage) ≡ 0
no_ended k [] = refl
no_ended k (b ∷ bs) = refl

no_begun : (k : ℕ) (stage : List ℕ) → nodes_of k (begun stage) ≡ 0
no_begun k [] = refl
no_begun k (b ∷ bs) = refl

no_switch : (same : Bool) (k : ℕ) (stage next : List ℕ) → nodes_of k (if same then [] else ended stage ++ begun next) ≡ 0
no_switch true k stage next = refl
no_switch false k stage next = omega (arith, nodes_both k (ended stage) (begun next), no_ended k stage, no_begun k next)

no_between : (k : ℕ) (stage next : List ℕ) → nodes_of k (between stage next) ≡ 0
no_between k stage next = no_switch (bytes_eq stage next) k stage next

no_caches : (k number : ℕ) (ids : List (List ℕ)) → nodes_of k (caches number ids) ≡ 0
no_caches k number [] = refl
no_caches k number (id ∷ ids) = omega (arith, no_caches k (number + 1) ids)

no_inputs : (k to : ℕ) (op : Op) (place : ℕ) (froms : List ℕ) → nodes_of k (inputs to op place froms) ≡ 0
no_inputs k to op place [] = refl
no_inputs k to op place (from ∷ froms) = omega (arith, no_inputs k to op (place + 1) froms)

no_mounts : (k : ℕ) (ids : List (List ℕ)) (to : ℕ) (uses : List CacheUse) → nodes_of k (mounts ids to uses) ≡ 0
no_mounts k ids to [] = refl
no_mounts k ids to (use_ ∷ uses) = omega (arith, no_mounts k ids to uses)

no_edges : (k : ℕ) (ids : List (List ℕ)) (number : ℕ) (vs : List Vertex) → nodes_of k (edges ids number vs) ≡ 0
no_edges k ids number [] = refl
no_edges k ids number (v ∷ vs) =
    omega (
      arith,
      nodes_both k (inputs number v.op 0 v.inputs) (mounts ids number (caches_of v.op) ++ edges ids (number + 1) vs),
      nodes_both k (mounts ids number (caches_of v.op)) (edges ids (number + 1) vs),
      no_inputs k number v.op 0 v.inputs,
      no_mounts k ids number (caches_of v.op),
      no_edges k ids (number + 1) vs,
    )

-- a source is counted among the sources
step_source : (k total : ℕ) (s : Statement) (more after : List Statement) → nodes_of k more + nodes_of k after ≡ total
    → nodes_of k (s ∷ more) + nodes_of k after ≡ one k s + total
step_source k total s more after sum = omega (arith, sum, sum_by-cons (one k) s more)

-- another operation is counted among the others
step_other : (k total : ℕ) (s : Statement) (more gap after : List Statement) → nodes_of k gap ≡ 0 → nodes_of k more + nodes_of k after ≡ total
    → nodes_of k more + nodes_of k (gap ++ (s ∷ after)) ≡ one k s + total
step_other k total s more gap after none sum = omega (arith, sum, none, nodes_both k gap (s ∷ after), sum_by-cons (one k) s after)

none_left : (n : ℕ) → n ≡ 0 → 0 + n ≡ 0
none_left n none = omega (arith, none)

-- a vertex is counted once, among the sources or among the others
step : (is : Bool) (k total : ℕ) (s : Statement) (more gap as_before after : List Statement) → nodes_of k gap ≡ 0
    → nodes_of k more + nodes_of k as_before ≡ total → nodes_of k more + nodes_of k after ≡ total
    → nodes_of k (if is then s ∷ more else more) + nodes_of k (if is then as_before else gap ++ (s ∷ after)) ≡ one k s + total
step true k total s more gap as_before after none source other = step_source k total s more as_before source
step false k total s more gap as_before after none source other = step_other k total s more gap after none other

-- the vertices from this number on, one of which may be k
abbrev counted : ℕ → ℕ → List Vertex → ℕ
counted k number [] = 0
counted k number (v ∷ vs) = cond (number == k) 1 0 + counted k (number + 1) vs

-- those of all vertices
all_counted : (titles : Titles) (target : ℕ) (places : List (List ℕ)) (k : ℕ) (stage : List ℕ) (number : ℕ) (vs : List Vertex)
    → nodes_of k (sources titles target places number vs) + nodes_of k (steps titles target places stage number vs) ≡ counted k number vs
all_counted titles target places k stage number [] = none_left (nodes_of k (ended stage)) (no_ended k stage)
all_counted titles target places k stage number (v ∷ vs) =
    let next : List ℕ = stage_in (title_at titles (slice_index_or places number [])) in
    step (is_source v.op) k (counted k (number + 1) vs) (node titles target (slice_index_or places number []) number v.op)
    (sources titles target places (number + 1) vs) (between stage next) (steps titles target places stage (number + 1) vs)
    (steps titles target places next (number + 1) vs) (no_between k stage next) (all_counted titles target places k stage (number + 1) vs)
    (all_counted titles target places k next (number + 1) vs)

-- which is k is said by numbers alone
counted_is : (k number : ℕ) (vs : List Vertex) → counted k number vs ≡ cond (nat_le number k && nat_lt k (number + length vs)) 1 0
counted_is k number [] = grind (arith, nat_tests)
counted_is k number (v ∷ vs) = let rest = counted_is k (number + 1) vs in grind (arith, nat_tests)

counted_first : (k : ℕ) (vs : List Vertex) → counted k 0 vs ≡ cond (nat_lt k (length vs)) 1 0
counted_first k vs = let all = counted_is k 0 vs in grind (arith, nat_tests)

pub each_once : (titles : Titles) (graph : GraphValue) (target k : ℕ)
    → nodes_of k (statements titles graph target) ≡ (if nat_lt k (length graph.vertices) then 1 else 0)
each_once titles graph target k =
    let first : List Statement = sources titles target graph.places 0 graph.vertices in
    let second : List Statement = caches 0 (ids_of graph.vertices) in
    let third : List Statement = steps titles target graph.places [] 0 graph.vertices in
    let last : List Statement = edges (ids_of graph.vertices) 0 graph.vertices in
    let sum : nodes_of k (first ++ (second ++ (third ++ last))) ≡ nodes_of k first + nodes_of k third =
    omega (
      arith,
      nodes_both k first (second ++ (third ++ last)),
      nodes_both k second (third ++ last),
      nodes_both k third last,
      no_caches k 0 (ids_of graph.vertices),
      no_edges k (ids_of graph.vertices) 0 graph.vertices,
    )
    in
    sum ∙ (all_counted titles target graph.places k [] 0 graph.vertices ∙ counted_first k graph.vertices)
