use Rattle.std.proofs.Common.{ap, ◌∙◌, refl, sym, subst, length, true≢false, Some}
use Rattle.llb.specs.Graph.{GraphValue, AreVertices}
use Rattle.addresses.specs.Address.{addresses_of}
use Rattle.definition.proofs.ReadingFacts.{placed-new, placed-again, placed-clash, address-vertex}
use Rattle.definition.proofs.known.Known.placed.Goals as goal

pub returns-in_default-place-clause-next : goal.returns-in_default-place-clause-next
returns-in_default-place-clause-next c =
    placed-new _ c.self.inside.addresses c.args.spelled _ _ _ _ _ _ _ (subst (λ (g : GraphValue). AreVertices g.vertices) c.self.view_is c.vertices.ensures.graph.vertices) c.len-once.ensures.once (c.self.invariant ∙ ap (λ (g : GraphValue). addresses_of g.vertices) c.self.view_is)
    c.as_slice.ensures c.as_slice-2.ensures c.in-Ok.ensures c.in-Some.is refl c.in-Ok-address_on.ensures c.place.ensures c.in_default-place.is

pub returns-in_default-place-clause-address : goal.returns-in_default-place-clause-address
returns-in_default-place-clause-address c =
    address-vertex _ c.self.inside.addresses c.args.spelled _ _ _ _ _ _ _ (subst (λ (g : GraphValue). AreVertices g.vertices) c.self.view_is c.vertices.ensures.graph.vertices) c.len-once.ensures.once (c.self.invariant ∙ ap (λ (g : GraphValue). addresses_of g.vertices) c.self.view_is)
    c.as_slice.ensures c.as_slice-2.ensures c.in-Ok.ensures c.in-Some.is refl c.in-Ok-address_on.ensures c.place.ensures

pub returns-then-is_there-clause-next : goal.returns-then-is_there-clause-next
returns-then-is_there-clause-next c =
    placed-again _ c.self.inside.addresses c.args.spelled _ _ _ _ _ _ _ (subst (λ (g : GraphValue). AreVertices g.vertices) c.self.view_is c.vertices.ensures.graph.vertices) c.len-once.ensures.once (c.self.invariant ∙ ap (λ (g : GraphValue). addresses_of g.vertices) c.self.view_is)
    c.as_slice.ensures c.as_slice-2.ensures c.in-Ok.ensures c.in-Some.is refl c.in-Ok-address_on.ensures c.place.ensures _ _ (ap length c.vertices.ensures.value ∙ ap (λ (g : GraphValue). length g.vertices) c.self.view_is) (c.has-is_there.ensures.0 c.if-is_there.true)

pub returns-clause-next : goal.returns-clause-next
returns-clause-next c =
    placed-clash _ c.self.inside.addresses c.args.spelled _ _ _ _ _ _ _ (subst (λ (g : GraphValue). AreVertices g.vertices) c.self.view_is c.vertices.ensures.graph.vertices) c.len-once.ensures.once (c.self.invariant ∙ ap (λ (g : GraphValue). addresses_of g.vertices) c.self.view_is)
    c.as_slice.ensures c.as_slice-2.ensures c.in-Ok.ensures c.in-Some.is refl c.in-Ok-address_on.ensures c.place.ensures _ c.new.result (ap length c.vertices.ensures.value ∙ ap (λ (g : GraphValue). length g.vertices) c.self.view_is) (c.in-Some-place.is ∙ ap Some (sym c.new.ensures))
    (λ h. true≢false (sym (c.has-is_there.ensures.1 h) ∙ c.if-is_there.false))
