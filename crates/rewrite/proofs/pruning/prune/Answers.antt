use Rattle.std.proofs.Common.{ap, subst}
use Rattle.llb.specs.Graph.{IsGraph}
use Rattle.rewrite.proofs.FreshFacts.{once_distinct}
use Rattle.rewrite.proofs.PrunedFacts.{made, made_joinable, made_named, made_pruned, made_keeps, pruned_needs, kept_sources}
use Rattle.rewrite.proofs.pruning.prune.Goals as goal

pub join_all-requires-clause-joinable : goal.join_all-requires-clause-joinable
join_all-requires-clause-joinable g c =
    made_joinable _ _ _ c.vertices.result.now _ c.in_ok-marks.marks c.as_slice.result.now c.into_parts-vertices.ensures.graph c.vertices.ensures.value
    c.in_ok-marks.ensures c.as_slice.ensures c.into_parts-vertices.ensures.value

pub join_all-requires-clause-differ : goal.join_all-requires-clause-differ
join_all-requires-clause-differ g c always =
    once_distinct _ c.as_slice.result.now (subst IsGraph c.into_parts-vertices.ensures.value c.into_parts-vertices.ensures.graph)

pub find_name-target-requires : goal.find_name-target-requires
find_name-target-requires g c =
    let is = made c.args.plan _ _ _ _ _ _ c.vertices.result.now _ c.in_ok-marks.marks c.as_slice.result.now c.in_ok-kept.field-0.names
    c.into_parts-graph.ensures.value c.vertices.ensures.value c.in_ok-marks.ensures c.as_slice.ensures c.into_parts-vertices.ensures.value
    c.in_ok-kept.ensures in
    made_named c.args.plan _ _ _ _ _ _ _ c.as_slice-2.result.now c.into_parts-graph.ensures.plan is c.as_slice-2.ensures

pub new-requires-clause-sources : goal.new-requires-clause-sources
new-requires-clause-sources g c =
    let is = made c.args.plan _ _ _ _ _ _ c.vertices.result.now _ c.in_ok-marks.marks c.as_slice.result.now c.in_ok-kept.field-0.names
    c.into_parts-graph.ensures.value c.vertices.ensures.value c.in_ok-marks.ensures c.as_slice.ensures c.into_parts-vertices.ensures.value
    c.in_ok-kept.ensures in
    kept_sources c.args.plan _ _ _ _ _ _ _ c.into_parts-graph.ensures.plan is.parts is.are

pub returns-clause-pruned : goal.returns-clause-pruned
returns-clause-pruned g c =
    let is = made c.args.plan _ _ _ _ _ _ c.vertices.result.now _ c.in_ok-marks.marks c.as_slice.result.now c.in_ok-kept.field-0.names
    c.into_parts-graph.ensures.value c.vertices.ensures.value c.in_ok-marks.ensures c.as_slice.ensures c.into_parts-vertices.ensures.value
    c.in_ok-kept.ensures in
    made_pruned c.args.plan c.new.result _ _ _ _ _ _ _ _ _ c.into_parts-vertices.ensures.graph c.vertices-known.ensures.graph is c.as_slice-2.ensures
    c.find_name-target.ensures c.new.ensures

pub returns-clause-keeps : goal.returns-clause-keeps
returns-clause-keeps g c =
    made_keeps c.args.plan c.new.result _ c.into_parts-graph.ensures.plan c.vertices-known.ensures.graph (ap (λ p. p.graph) c.new.ensures)
    (returns-clause-pruned g c)

pub returns-clause-needed : goal.returns-clause-needed
returns-clause-needed g c = pruned_needs c.args.plan c.new.result (returns-clause-pruned g c)
