use Rattle.std.proofs.Common.{◌≡◌, ◌∙◌, ◌++◌, ◌∷◌, [], List, ℕ, Some, length, slice_get, sym, subst, ap, rules}
use Rattle.llb.specs.declared.vertex.Vertex.{Vertex}
use Rattle.llb.specs.Graph.{IsAfterInputs, IsNew}
use Rattle.llb.specs.Index.{IsIndexed}
use Rattle.llb.specs.Places.{AreLines}
use Rattle.llb.proofs.GraphKept.{append_keeps, found_keeps}
use Rattle.llb.proofs.IndexKept.{entered_either, longer_indexed, last_there}
use Rattle.llb.proofs.graph.Graph.add_all.Goals as goal

pub invariant_of-self-in-Some : goal.invariant_of-self-in-Some
invariant_of-self-in-Some c =
    let stood = subst (λ (vs : List Vertex). slice_get vs c.in-Some.at ≡ Some c.args.vertex) c.as_slice-2.ensures.value c.in-Some.ensures.found in
    let indexed = subst (λ (vs : List Vertex). IsIndexed vs c.enter_rest.new.self) c.as_slice.ensures.value c.in-Ok.ensures.indexed in (
      found_keeps _ _ _ c.args.vertex c.args.lines.now c.in-Some.at c.self.invariant.0 stood c.requires.lines c.in_ok-add_lines.ensures.ok,
      (c.in-Ok.ensures.index, indexed),
    )

pub invariant_of-self-2 : goal.invariant_of-self-2
invariant_of-self-2 c =
    let put = c.in_ok-id.ensures in
    let inputs = subst (λ g. IsAfterInputs (length g.vertices) c.args.vertex) (sym c.self.view_is) c.requires.inputs in
    let fresh = subst (λ (vs : List Vertex). IsNew vs c.args.vertex) c.as_slice-2.ensures.value c.in_default-find.ensures.fresh in
    let lines : c.from_vec-lines.result ≡ c.args.lines.now = search rules in
    let are = subst (λ (ls : List ℕ). AreLines ls) (sym lines) c.requires.lines in
    let is_graph = append_keeps _ _ _ _ c.args.vertex c.from_vec-lines.result c.self.invariant.0 inputs (c.requires.well_formed c.environment-known.ensures.names) are fresh put.room put.vertices put.places in
    let indexed = subst (λ (vs : List Vertex). IsIndexed vs c.enter_rest.new.self) c.as_slice.ensures.value c.in-Ok.ensures.indexed in
    let longer = longer_indexed _ (c.args.vertex ∷ []) _ indexed in
    let all : length c.enter_rest.new.self.hashes.items ≡ length c.self.inside.vertices.items = c.in-Ok.ensures.all ∙ ap (λ (vs : List Vertex). length vs) c.as_slice.ensures.value in
    let there : slice_get (c.self.inside.vertices.items ++ c.args.vertex ∷ []) (length c.enter_rest.new.self.hashes.items) ≡ Some c.args.vertex =
    ap (slice_get (c.self.inside.vertices.items ++ c.args.vertex ∷ [])) all ∙ last_there c.self.inside.vertices.items c.args.vertex in
    let entered = entered_either (c.self.inside.vertices.items ++ c.args.vertex ∷ []) c.enter_rest.new.self c.enter-entered.new.self c.args.vertex
    c.hash_of-hash.result c.enter-entered.result c.enter-entered.ensures.ok c.enter-entered.ensures.err longer there c.hash_of-hash.ensures in
    (is_graph, (c.enter-entered.ensures.index, subst (λ (vs : List Vertex). IsIndexed vs c.enter-entered.new.self) (sym put.vertices) entered))
