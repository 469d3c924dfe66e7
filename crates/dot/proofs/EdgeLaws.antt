-- Each input is one edge.
use Rattle.std.specs.Prelude.{◌≡◌, ℕ, ◌+◌, Bool, true, false, List, [], ◌∷◌, ◌++◌, map, bytes_eq, slice_index_or, refl, if◌then◌else◌}
use Rattle.std.proofs.Common.{◌∙◌, ap}
use Rattle.std.proofs.lemmas.List.Elements.{filter_map-append}
use Rattle.runs.specs.declared.run.CacheUse.{CacheUse}
use Rattle.llb.specs.declared.op.Op.{Op}
use Rattle.llb.specs.declared.vertex.Vertex.{Vertex}
use Rattle.llb.specs.Graph.{GraphValue}
use Rattle.plans.specs.Plan.{caches_of}
use Rattle.dot.specs.Labels.{Titles, is_source, title_at, stage_in}
use Rattle.dot.specs.Drawn.{Statement, Node, sources, ended, begun, between, steps, ids_of, caches, inputs, mounts, edges, statements}
use Rattle.dot.specs.Claimed.{ends_of, edges_in, inputs_of}

edges_both : (these those : List Statement) → edges_in (these ++ those) ≡ edges_in these ++ edges_in those
edges_both these those = filter_map-append ends_of these those

-- statements without an edge, before others
none_before : (these those : List Statement) → edges_in these ≡ [] → edges_in (these ++ those) ≡ edges_in those
none_before these those none = edges_both these those ∙ ap (λ (found : List (ℕ × ℕ)). found ++ edges_in those) none

none_if : (is : Bool) (number : ℕ) (label shape : List ℕ) (is_target : Bool) (more : List Statement) → edges_in more ≡ []
    → edges_in (if is then Node number label shape is_target ∷ more else more) ≡ []
none_if true number label shape is_target more none = none
none_if false number label shape is_target more none = none

no_sources : (titles : Titles) (target : ℕ) (places : List (List ℕ)) (number : ℕ) (vs : List Vertex) → edges_in (sources titles target places number vs) ≡ []
no_sources titles target places number [] = refl
no_sources titles target places number (v ∷ vs) =
    none_if (is_source v.op) number _ _ _ (sources titles target places (number + 1) vs) (no_sources titles target places (number + 1) vs)

no_caches : (number : ℕ) (ids : List (List ℕ)) → edges_in (caches number ids) ≡ []
no_caches number [] = refl
no_caches number (id ∷ ids) = no_caches (number + 1) ids

no_ended : (stage : List ℕ) → edges_in (ended stage) ≡ []
no_ended [] = refl
no_ended (b ∷ bs) = refl

no_begun : (stage : List ℕ) → edges_in (begun stage) ≡ []
no_begun [] = refl
no_begun (b ∷ bs) = refl

no_switch : (same : Bool) (stage next : List ℕ) → edges_in (if same then [] else ended stage ++ begun next) ≡ []
no_switch true stage next = refl
no_switch false stage next = none_before (ended stage) (begun next) (no_ended stage) ∙ no_begun next

none_else : (is : Bool) (number : ℕ) (label shape : List ℕ) (is_target : Bool) (as_before gap after : List Statement) → edges_in as_before ≡ []
    → edges_in gap ≡ [] → edges_in after ≡ [] → edges_in (if is then as_before else gap ++ (Node number label shape is_target ∷ after)) ≡ []
none_else true number label shape is_target as_before gap after none empty other = none
none_else false number label shape is_target as_before gap after none empty other =
    none_before gap (Node number label shape is_target ∷ after) empty ∙ other

no_steps : (titles : Titles) (target : ℕ) (places : List (List ℕ)) (stage : List ℕ) (number : ℕ) (vs : List Vertex)
    → edges_in (steps titles target places stage number vs) ≡ []
no_steps titles target places stage number [] = no_ended stage
no_steps titles target places stage number (v ∷ vs) =
    let next : List ℕ = stage_in (title_at titles (slice_index_or places number [])) in
    none_else (is_source v.op) number _ _ _ (steps titles target places stage (number + 1) vs) (between stage next)
    (steps titles target places next (number + 1) vs) (no_steps titles target places stage (number + 1) vs)
    (no_switch (bytes_eq stage next) stage next) (no_steps titles target places next (number + 1) vs)

no_mounts : (ids : List (List ℕ)) (to : ℕ) (uses : List CacheUse) → edges_in (mounts ids to uses) ≡ []
no_mounts ids to [] = refl
no_mounts ids to (cache ∷ uses) = no_mounts ids to uses

of_inputs : (to : ℕ) (op : Op) (place : ℕ) (froms : List ℕ) → edges_in (inputs to op place froms) ≡ map (λ from. (from, to)) froms
of_inputs to op place [] = refl
of_inputs to op place (from ∷ froms) = ap (λ (found : List (ℕ × ℕ)). (from, to) ∷ found) (of_inputs to op (place + 1) froms)

of_edges : (ids : List (List ℕ)) (number : ℕ) (vs : List Vertex) → edges_in (edges ids number vs) ≡ inputs_of number vs
of_edges ids number [] = refl
of_edges ids number (v ∷ vs) =
    let mine : List Statement = inputs number v.op 0 v.inputs in
    let more : List Statement = edges ids (number + 1) vs in
    edges_both mine (mounts ids number (caches_of v.op) ++ more)
    ∙ (ap (λ (found : List (ℕ × ℕ)). found ++ edges_in (mounts ids number (caches_of v.op) ++ more)) (of_inputs number v.op 0 v.inputs)
    ∙ ap (λ (found : List (ℕ × ℕ)). map (λ from. (from, number)) v.inputs ++ found)
    (none_before (mounts ids number (caches_of v.op)) more (no_mounts ids number (caches_of v.op)) ∙ of_edges ids (number + 1) vs))

pub each_edge : (titles : Titles) (graph : GraphValue) (target : ℕ) → edges_in (statements titles graph target) ≡ inputs_of 0 graph.vertices
each_edge titles graph target =
    let second : List Statement = caches 0 (ids_of graph.vertices) in
    let third : List Statement = steps titles target graph.places [] 0 graph.vertices in
    let last : List Statement = edges (ids_of graph.vertices) 0 graph.vertices in
    none_before (sources titles target graph.places 0 graph.vertices) (second ++ (third ++ last)) (no_sources titles target graph.places 0 graph.vertices)
    ∙ (none_before second (third ++ last) (no_caches 0 (ids_of graph.vertices))
    ∙ (none_before third last (no_steps titles target graph.places [] 0 graph.vertices) ∙ of_edges (ids_of graph.vertices) 0 graph.vertices))
