use Rattle.std.proofs.Common.{ℕ, List, refl, subst, sym}
use Rattle.std.specs.Prelude.{IsTrue}
use Rattle.llb.specs.WellFormed.{is_well_formed_on}
use Rattle.rewrite.specs.Pruned.{AreNames}
use Rattle.rewrite.proofs.JoinFacts.{names_inside, names_long, joined_by}
use Rattle.rewrite.proofs.joining.join.Goals as goal

pub put-requires-clause-inputs : goal.put-requires-clause-inputs
put-requires-clause-inputs c =
    let are = c.rename-inputs.ensures in
    names_inside c.args.names.now _ c.args.vertex.inputs c.rename-inputs.result c.requires.inside are

pub put-requires-clause-well_formed : goal.put-requires-clause-well_formed
put-requires-clause-well_formed c =
    let are = c.rename-inputs.ensures in
    subst (λ n. IsTrue (is_well_formed_on c.args.vertex.op n)) (sym (names_long c.args.names.now c.args.vertex.inputs c.rename-inputs.result are))
    c.requires.well_formed

pub put-requires-clause-fresh : goal.put-requires-clause-fresh
put-requires-clause-fresh c is_new =
    let are = c.rename-inputs.ensures in
    c.requires.fresh is_new _ (record { op = refl; inputs = are })

pub returns-in-Ok : goal.returns-in-Ok
returns-in-Ok c =
    let are = c.rename-inputs.ensures in
    joined_by _ _ c.args.names.now c.args.vertex c.rename-inputs.result c.args.lines.now c.in-Ok.id are c.in-Ok.ensures.adds
