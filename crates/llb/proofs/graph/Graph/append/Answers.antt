use Rattle.std.proofs.Common.{length, sym, subst}
use Rattle.llb.specs.Graph.{IsAfterInputs, IsNew}
use Rattle.llb.proofs.LastKept.{put_keeps}
use Rattle.llb.proofs.graph.Graph.append.Goals as goal

pub invariant_of-self : goal.invariant_of-self
invariant_of-self c =
    let inputs = subst (λ g. IsAfterInputs (length g.vertices) c.args.vertex) (sym c.self.view_is) c.requires.inputs in
    let fresh = subst (λ g. IsNew g.vertices c.args.vertex) (sym c.self.view_is) c.requires.fresh in
    put_keeps _ _ _ _ c.args.vertex c.args.lines _ c.put_last.result c.self.invariant.0 c.self.invariant.1.0 c.self.invariant.1.1 inputs
    (c.requires.well_formed c.environment-known.ensures.names) c.requires.lines fresh c.put_last.ensures
