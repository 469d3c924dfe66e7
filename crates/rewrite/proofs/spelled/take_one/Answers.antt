use Rattle.std.proofs.Common.{◌≡◌, ◌<◌, ◌∙◌, List, ℕ, length, sym, subst, arith}
use Rattle.std.specs.Prelude.{Contains}
use Rattle.std.proofs.lemmas.Bool.{true≢false}
use Rattle.std.proofs.lemmas.List.Elements.{All-weaker}
use Rattle.std.proofs.lemmas.Option.{slice_get_within}
use Rattle.llb.specs.declared.vertex.Vertex.{Vertex}
use Rattle.rewrite.specs.Pruned.{AreNames}
use Rattle.rewrite.specs.PrivateSpelled.{merge_on}
use Rattle.rewrite.proofs.SpelledFacts.{full_never, stands_there, takes_none, took}
use Rattle.rewrite.proofs.spelled.take_one.Goals as goal

pub returns-then-not-stands : goal.returns-then-not-stands
returns-then-not-stands c =
    let news = c.rename-inputs.result in
    let inputs = c.from_vec-inputs.ensures ∙ (c.in_ok-from_slice.ensures.items ∙ c.as_slice.ensures) in
    let are : AreNames c.args.names.now c.args.one.now.inputs news = subst (λ (ids : List ℕ). AreNames c.args.names.now ids news) inputs c.rename-inputs.ensures in
    takes_none c.args.graph.now c.args.names.now c.args.one.now news c.vertices.ensures.graph are
    (λ among. true≢false (sym (c.stands.ensures.1 (subst (λ (vs : List Vertex). Contains vs (merge_on news)) (sym c.vertices.ensures.value) among)) ∙ c.if-not-stands.true))

pub add_all-requires-clause-inputs : goal.add_all-requires-clause-inputs
add_all-requires-clause-inputs c =
    let news = c.rename-inputs.result in
    let vs = c.args.graph.now.vertices in
    let among : Contains vs (merge_on news) = subst (λ (vs : List Vertex). Contains vs (merge_on news)) c.vertices.ensures.value (c.stands.ensures.0 c.if-not-stands.false) in
    let there = stands_there vs (merge_on news) among in
    let within = slice_get_within vs there.0 (merge_on news) there.1 in
    All-weaker (λ i. i < there.0) (λ i. i < length vs) (λ i lt. omega (arith, lt, within)) news (c.vertices.ensures.graph.vertices.after there.0 (merge_on news) there.1)

pub add_all-requires-clause-well_formed : goal.add_all-requires-clause-well_formed
add_all-requires-clause-well_formed c named =
    let news = c.rename-inputs.result in
    let vs = c.args.graph.now.vertices in
    let among : Contains vs (merge_on news) = subst (λ (vs : List Vertex). Contains vs (merge_on news)) c.vertices.ensures.value (c.stands.ensures.0 c.if-not-stands.false) in
    let there = stands_there vs (merge_on news) among in
    c.vertices.ensures.graph.vertices.well_formed there.0 (merge_on news) there.1

pub unreachable-requires : goal.unreachable-requires
unreachable-requires c =
    let news = c.rename-inputs.result in
    let among : Contains c.args.graph.now.vertices (merge_on news) =
    subst (λ (vs : List Vertex). Contains vs (merge_on news)) c.vertices.ensures.value (c.stands.ensures.0 c.if-not-stands.false) in
    full_never _ _ (merge_on news) _ _ _ _ c.add_all.ensures.adds c.in-Err-Because.is c.in-Err-Because.field-0-is among

pub returns-in-Ok : goal.returns-in-Ok
returns-in-Ok c =
    let news = c.rename-inputs.result in
    let inputs = c.from_vec-inputs.ensures ∙ (c.in_ok-from_slice.ensures.items ∙ c.as_slice.ensures) in
    let are : AreNames c.args.names.now c.args.one.now.inputs news = subst (λ (ids : List ℕ). AreNames c.args.names.now ids news) inputs c.rename-inputs.ensures in
    let among : Contains c.args.graph.now.vertices (merge_on news) =
    subst (λ (vs : List Vertex). Contains vs (merge_on news)) c.vertices.ensures.value (c.stands.ensures.0 c.if-not-stands.false) in
    took c.args.graph.now c.add_all.new.self c.args.names.now c.args.one.now news c.as_slice-2.result.now _ c.in-Ok.field-0 c.vertices.ensures.graph are among
    c.add_all.ensures.adds c.as_slice-2.ensures c.in-Ok.is
