use Rattle.std.proofs.Common.{◌∙◌, true, sym, arith}
use Rattle.std.specs.List.{list_all}
use Rattle.std.proofs.lemmas.List.{at_drop_all}
use Rattle.rewrite.specs.PrivateFlat.{stands_flat}
use Rattle.rewrite.proofs.LinkFacts.{flat_told}
use Rattle.rewrite.proofs.links.is_flat.Goals as goal

pub returns : goal.returns
returns c =
    let none_left = at_drop_all (list_all (stands_flat c.args.vertices.now)) c.args.vertices.now c.loop-vertex.vertex-index (omega (arith, c.loop-vertex-test.false)) in
    flat_told c.args.vertices.now true (sym none_left ∙ c.loop-vertex.invariant)
