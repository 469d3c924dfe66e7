use Rattle.std.proofs.Common.{◌≡◌, ◌<◌, ◌∙◌, List, ℕ, Bool, ap, length, sym, subst}
use Rattle.llb.specs.declared.vertex.Vertex.{Vertex}
use Rattle.llb.specs.Graph.{GraphValue, IsGraph, AreVertices}
use Rattle.reached.specs.Reached.{AreReached}
use Rattle.rewrite.proofs.FlattenedFacts.{made_fit}
use Rattle.rewrite.proofs.MadeFacts.{differ_in, flat_of, graph_of, joined_distinct, spelled_by, taken_lined, taken_named}
use Rattle.rewrite.proofs.links.flatten_graph.Goals as goal

pub mark_reached-requires-clause-vertices : goal.mark_reached-requires-clause-vertices
mark_reached-requires-clause-vertices c =
    subst AreVertices (ap (λ (g : GraphValue). g.vertices) c.into_parts-vertices.ensures.value ∙ sym c.as_slice.ensures) c.into_parts-vertices.ensures.graph.vertices

pub mark_reached-requires-clause-target : goal.mark_reached-requires-clause-target
mark_reached-requires-clause-target c =
    subst (λ (vs : List Vertex). c.args.target < length vs) (ap (λ (g : GraphValue). g.vertices) c.into_parts-vertices.ensures.value ∙ sym c.as_slice.ensures) c.requires

pub do_merges_differ-requires : goal.do_merges_differ-requires
do_merges_differ-requires c =
    ap length c.as_slice-3.ensures ∙ (c.in_ok-before.ensures.long ∙ ap length (c.as_slice.ensures ∙ sym c.as_slice-2.ensures))

pub spell_merges-requires-clause-graph : goal.spell_merges-requires-clause-graph
spell_merges-requires-clause-graph c =
    let is = subst IsGraph c.into_parts-vertices.ensures.value c.into_parts-vertices.ensures.graph in
    subst (λ (vs : List Vertex). IsGraph (graph_of vs c.as_slice-5.result.now)) (sym c.as_slice-4.ensures)
    (subst (λ (ps : List (List ℕ)). IsGraph (graph_of c.into_parts-vertices.result.0 ps)) (sym c.as_slice-5.ensures) is)

pub spell_merges-requires-clause-long : goal.spell_merges-requires-clause-long
spell_merges-requires-clause-long c =
    ap length c.as_slice-6.ensures ∙ (c.in_ok-before.ensures.long ∙ ap length (c.as_slice.ensures ∙ sym c.as_slice-4.ensures))

pub join_all-requires-clause-joinable : goal.join_all-requires-clause-joinable
join_all-requires-clause-joinable c =
    made_fit c.args.target c.into_parts-vertices.result.0 c.in_ok-vertices.field-0.vertices c.into_parts-vertices.result.1 c.in_ok-vertices.field-0.marks c.as_slice-7.result.now
    (subst IsGraph c.into_parts-vertices.ensures.value c.into_parts-vertices.ensures.graph) c.in_ok-vertices.ensures c.as_slice-7.ensures

pub join_all-requires-clause-differ : goal.join_all-requires-clause-differ
join_all-requires-clause-differ c same =
    let vs : List Vertex = c.into_parts-vertices.result.0 in
    let before : List Bool = c.in_ok-before.before in
    let all : AreReached vs c.args.target before = subst (λ (xs : List Vertex). AreReached xs c.args.target before) c.as_slice.ensures c.in_ok-before.ensures in
    joined_distinct vs c.in_ok-vertices.field-0.vertices c.into_parts-vertices.result.1 c.args.target c.in_ok-vertices.field-0.marks c.as_slice-7.result.now before
    (subst IsGraph c.into_parts-vertices.ensures.value c.into_parts-vertices.ensures.graph) c.in_ok-vertices.ensures all c.as_slice-7.ensures
    (differ_in vs c.as_slice-2.result.now before c.as_slice-3.result.now c.in_ok-differ.differ c.in_ok-differ.ensures c.as_slice-2.ensures c.as_slice-3.ensures same)

pub take_lines-requires-clause-named : goal.take_lines-requires-clause-named
take_lines-requires-clause-named c =
    let vs : List Vertex = c.into_parts-vertices.result.0 in
    let ps : List (List ℕ) = c.into_parts-vertices.result.1 in
    let before : List Bool = c.in_ok-before.before in
    let all : AreReached vs c.args.target before = subst (λ (xs : List Vertex). AreReached xs c.args.target before) c.as_slice.ensures c.in_ok-before.ensures in
    let by = spelled_by vs c.as_slice-4.result.now ps c.as_slice-5.result.now before c.as_slice-6.result.now c.in_ok-differ.differ c.in_ok-spelled.spelled c.in_ok-spelled.ensures.spelled
    c.in_ok-spelled.ensures.none c.as_slice-4.ensures c.as_slice-5.ensures c.as_slice-6.ensures in
    let within : c.args.target < length vs = subst (λ (g : GraphValue). c.args.target < length g.vertices) c.into_parts-vertices.ensures.value c.requires in
    taken_named vs c.in_ok-vertices.field-0.vertices ps c.args.target c.in_ok-vertices.field-0.marks c.as_slice-7.result.now before c.in_ok-joined.field-0.names
    c.in_ok-joined.field-0.graph c.in_ok-spelled.spelled c.in_ok-differ.differ (subst IsGraph c.into_parts-vertices.ensures.value c.into_parts-vertices.ensures.graph)
    c.in_ok-vertices.ensures all c.as_slice-7.ensures c.in_ok-joined.ensures by c.as_slice-8.result.now c.as_slice-9.result.now c.as_slice-8.ensures c.as_slice-9.ensures within

pub take_lines-requires-clause-lines : goal.take_lines-requires-clause-lines
take_lines-requires-clause-lines c =
    let vs : List Vertex = c.into_parts-vertices.result.0 in
    let ps : List (List ℕ) = c.into_parts-vertices.result.1 in
    let before : List Bool = c.in_ok-before.before in
    let all : AreReached vs c.args.target before = subst (λ (xs : List Vertex). AreReached xs c.args.target before) c.as_slice.ensures c.in_ok-before.ensures in
    let by = spelled_by vs c.as_slice-4.result.now ps c.as_slice-5.result.now before c.as_slice-6.result.now c.in_ok-differ.differ c.in_ok-spelled.spelled c.in_ok-spelled.ensures.spelled
    c.in_ok-spelled.ensures.none c.as_slice-4.ensures c.as_slice-5.ensures c.as_slice-6.ensures in
    taken_lined vs c.in_ok-vertices.field-0.vertices ps c.args.target c.in_ok-vertices.field-0.marks c.as_slice-7.result.now before c.in_ok-joined.field-0.names
    c.in_ok-joined.field-0.graph c.in_ok-spelled.spelled c.in_ok-differ.differ (subst IsGraph c.into_parts-vertices.ensures.value c.into_parts-vertices.ensures.graph)
    c.in_ok-vertices.ensures all c.as_slice-7.ensures c.in_ok-joined.ensures by c.as_slice-9.result.now c.as_slice-9.ensures

pub returns : goal.returns
returns c =
    let vs : List Vertex = c.into_parts-vertices.result.0 in
    let ps : List (List ℕ) = c.into_parts-vertices.result.1 in
    let before : List Bool = c.in_ok-before.before in
    let all : AreReached vs c.args.target before = subst (λ (xs : List Vertex). AreReached xs c.args.target before) c.as_slice.ensures c.in_ok-before.ensures in
    let by = spelled_by vs c.as_slice-4.result.now ps c.as_slice-5.result.now before c.as_slice-6.result.now c.in_ok-differ.differ c.in_ok-spelled.spelled c.in_ok-spelled.ensures.spelled
    c.in_ok-spelled.ensures.none c.as_slice-4.ensures c.as_slice-5.ensures c.as_slice-6.ensures in
    flat_of vs c.in_ok-vertices.field-0.vertices ps c.args.target c.in_ok-vertices.field-0.marks c.as_slice-7.result.now before c.in_ok-joined.field-0.names
    c.in_ok-joined.field-0.graph c.in_ok-spelled.spelled c.in_ok-differ.differ (subst IsGraph c.into_parts-vertices.ensures.value c.into_parts-vertices.ensures.graph)
    c.in_ok-vertices.ensures all c.as_slice-7.ensures c.in_ok-joined.ensures by c.args.graph c.in_ok-graph.graph c.as_slice-8.result.now c.as_slice-9.result.now
    c.into_parts-vertices.ensures.value c.vertices-known.ensures.graph
    (differ_in vs c.as_slice-2.result.now before c.as_slice-3.result.now c.in_ok-differ.differ c.in_ok-differ.ensures c.as_slice-2.ensures c.as_slice-3.ensures)
    c.as_slice-8.ensures c.as_slice-9.ensures c.in_ok-graph.ensures
