use Rattle.std.proofs.Common.{◌∙◌, ap, sym, subst, ◌<◌, length}
use Rattle.llb.specs.Graph.{GraphValue}
use Rattle.rewrite.proofs.FlattenedFacts.{flat_sources, flat_needs, joined_flattened, made_flat_keeps, made_merges_flat, lent_named, target_within}
use Rattle.rewrite.proofs.links.flatten_links.Goals as goal

pub flatten_graph-requires : goal.flatten_graph-requires
flatten_graph-requires g c = target_within c.args.plan _ _ _ _ c.into_parts-graph.ensures.value c.into_parts-graph.ensures.plan

pub find_name-target-requires : goal.find_name-target-requires
find_name-target-requires g c =
    lent_named _ _ _ _ c.as_slice.result.now (target_within c.args.plan _ _ _ _ c.into_parts-graph.ensures.value c.into_parts-graph.ensures.plan) c.in_ok-flat.ensures c.as_slice.ensures

pub new-requires-clause-sources : goal.new-requires-clause-sources
new-requires-clause-sources g c =
    flat_sources c.args.plan _ _ _ _ _ _ c.into_parts-graph.ensures.plan c.into_parts-graph.ensures.value c.in_ok-flat.ensures

pub returns-clause-flattened : goal.returns-clause-flattened
returns-clause-flattened g c =
    joined_flattened c.args.plan c.new.result _ _ _ _ _ _ _ _ c.into_parts-graph.ensures.value c.in_ok-flat.ensures c.as_slice.ensures c.find_name-target.ensures c.new.ensures

pub returns-clause-flat : goal.returns-clause-flat
returns-clause-flat g c = made_merges_flat c.args.plan c.new.result c.into_parts-graph.ensures.plan (returns-clause-flattened g c)

pub returns-clause-keeps : goal.returns-clause-keeps
returns-clause-keeps g c =
    made_flat_keeps c.args.plan c.new.result _ c.into_parts-graph.ensures.plan c.vertices-known.ensures.graph (ap (λ p. p.graph) c.new.ensures)
    (returns-clause-flattened g c)

pub returns-clause-needed : goal.returns-clause-needed
returns-clause-needed g c = flat_needs c.args.plan c.new.result (returns-clause-flattened g c)
