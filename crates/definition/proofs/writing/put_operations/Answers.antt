use Rattle.std.proofs.Common.{◌≡◌, ap, subst}
use Rattle.llb.specs.Graph.{GraphValue}
use Rattle.definition.specs.PrivateWriting.{IsClash}
use Rattle.definition.proofs.TextFacts.{fault-put}
use Rattle.definition.proofs.writing.put_operations.Goals as goal

pub returns-in-Err : goal.returns-in-Err
returns-in-Err c =
    let graph : GraphValue = record { vertices = c.vertices-vertices.result.now; places = c.args.graph.now.places } in
    let same : graph ≡ c.args.graph.now = ap (λ vs. record { vertices = vs; places = c.args.graph.now.places }) c.vertices-vertices.ensures.value in
    subst (λ (g : GraphValue). IsClash g c.in-Err.fault) same
    (fault-put graph c.loop-place.place c.index-vertices-place.result c.loop-place.known c.put_operation.new.known _ c.in-Err.fault c.loop-place.invariant.0.0
    c.loop-place-test.true c.index-vertices-place.is c.in-Err.ensures)
