use Rattle.std.proofs.Common.{ℕ, List, Option, false, length, refl, sym, subst, ◌∙◌, arith}
use Rattle.std.specs.Prelude.{slice_index_or}
use Rattle.std.specs.List.{All}
use Rattle.llb.specs.Places.{AreLines}
use Rattle.rewrite.specs.PrivateJoined.{HasName, ComesNew, IsNamedJoined, AreJoined}
use Rattle.rewrite.proofs.FreshFacts.{comes_new, joinable_first}
use Rattle.rewrite.proofs.JoinFacts.{graph_of, inputs_named, lines_at_are, lines_are, join_first, join_there, join_within, join_on, join_whole}
use Rattle.rewrite.proofs.joining.join_all.Goals as goal

pub loop-vertex-init : goal.loop-vertex-init
loop-vertex-init c =
    join_first (graph_of c.args.vertices c.args.places) c.args.marks.now _ _ _ (c.into_iter-vertex-iterator.ensures.into_iter_gives.0 ∙ c.into_vec-vertex-items.ensures)
    c.new-graph.ensures c.new-names.ensures.items

pub join_marked-requires-clause-named : goal.join_marked-requires-clause-named
join_marked-requires-clause-named c marked =
    let old = graph_of c.args.vertices c.args.places in
    let there = join_there old c.args.marks.now _ _ c.loop-vertex.at c.loop-vertex.graph c.loop-vertex.names.items c.in-Some.vertex
    c.loop-vertex.invariant c.in-Some.ensures.steps.0 in
    subst (λ (ns : List (Option ℕ)). All (HasName ns) c.in-Some.vertex.inputs) (sym c.as_slice-in-loop-vertex.ensures.value)
    (inputs_named old c.args.marks.now c.loop-vertex.at c.loop-vertex.graph c.loop-vertex.names.items c.in-Some.vertex c.requires.joinable
    c.loop-vertex.invariant.joined there marked)

pub join_marked-requires-clause-well_formed : goal.join_marked-requires-clause-well_formed
join_marked-requires-clause-well_formed c marked =
    c.requires.joinable.well_formed c.loop-vertex.at c.in-Some.vertex marked
    (join_there (graph_of c.args.vertices c.args.places) c.args.marks.now _ _ c.loop-vertex.at c.loop-vertex.graph c.loop-vertex.names.items c.in-Some.vertex
    c.loop-vertex.invariant c.in-Some.ensures.steps.0)

pub join_marked-requires-clause-fresh : goal.join_marked-requires-clause-fresh
join_marked-requires-clause-fresh c marked differ =
    let old = graph_of c.args.vertices c.args.places in
    let there = join_there old c.args.marks.now _ _ c.loop-vertex.at c.loop-vertex.graph c.loop-vertex.names.items c.in-Some.vertex
    c.loop-vertex.invariant c.in-Some.ensures.steps.0 in
    let within = join_within old c.args.marks.now _ _ c.loop-vertex.at c.loop-vertex.graph c.loop-vertex.names.items c.in-Some.vertex
    c.loop-vertex.invariant c.in-Some.ensures.steps.0 in
    subst (λ (ns : List (Option ℕ)). ComesNew c.loop-vertex.graph ns c.in-Some.vertex) (sym c.as_slice-in-loop-vertex.ensures.value)
    (comes_new old c.loop-vertex.graph c.args.marks.now c.loop-vertex.names.items c.loop-vertex.at (omega (arith, within))
    (joinable_first old c.args.marks.now c.requires.joinable) (c.requires.differ differ) c.loop-vertex.invariant.joined c.in-Some.vertex there marked)

pub join_marked-requires-clause-lines : goal.join_marked-requires-clause-lines
join_marked-requires-clause-lines c =
    let old = graph_of c.args.vertices c.args.places in
    let within = join_within old c.args.marks.now _ _ c.loop-vertex.at c.loop-vertex.graph c.loop-vertex.names.items c.in-Some.vertex
    c.loop-vertex.invariant c.in-Some.ensures.steps.0 in
    let same = lines_are old c.args.places c.as_slice.result.now c.loop-vertex.at c.index-as_slice-at.result c.as_slice-lines.result.now refl c.as_slice.ensures
    (omega (arith, within, c.requires.joinable.beside)) c.index-as_slice-at.is c.as_slice-lines.ensures in
    subst AreLines (sym same) (lines_at_are old c.loop-vertex.at c.requires.joinable.places)

pub loop-vertex-preserved : goal.loop-vertex-preserved
loop-vertex-preserved c =
    let old = graph_of c.args.vertices c.args.places in
    let within = join_within old c.args.marks.now _ _ c.loop-vertex.at c.loop-vertex.graph c.loop-vertex.names.items c.in-Some.vertex
    c.loop-vertex.invariant c.in-Some.ensures.steps.0 in
    let same = lines_are old c.args.places c.as_slice.result.now c.loop-vertex.at c.index-as_slice-at.result c.as_slice-lines.result.now refl c.as_slice.ensures
    (omega (arith, within, c.requires.joinable.beside)) c.index-as_slice-at.is c.as_slice-lines.ensures in
    let named = subst (λ (ns : List (Option ℕ)). IsNamedJoined c.loop-vertex.graph c.join_marked.new.graph ns c.in-Some.vertex c.as_slice-lines.result.now
    (slice_index_or c.args.marks.now c.loop-vertex.at false) c.in_ok-name.name)
    c.as_slice-in-loop-vertex.ensures.value c.in_ok-name.ensures in
    join_on old c.args.marks.now _ _ c.loop-vertex.at c.loop-vertex.graph c.join_marked.new.graph c.loop-vertex.names.items
    c.push.new.self.items c.in-Some.vertex c.as_slice-lines.result.now
    (slice_index_or c.args.marks.now c.loop-vertex.at false) c.in_ok-name.name c.loop-vertex.invariant c.in-Some.ensures.steps.0 same refl named
    c.in_ok-push.ensures.items

pub returns : goal.returns
returns c =
    subst (AreJoined (graph_of c.args.vertices c.args.places) c.args.marks.now (length c.args.vertices) c.loop-vertex.graph) (sym c.from_vec-names.ensures)
    (join_whole (graph_of c.args.vertices c.args.places) c.args.marks.now _ c.loop-vertex.at c.loop-vertex.graph c.loop-vertex.names.items
    c.loop-vertex.invariant (sym c.loop-vertex.vertex-iterator.rest.ok.0 ∙ c.in-None.ensures.steps.0))
