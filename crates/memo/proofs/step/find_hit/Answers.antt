use Rattle.std.proofs.Common.{◌≡◌, Some, List, length, sym, subst}
use Rattle.std.specs.Prelude.{slice_get}
use Rattle.trees.specs.TreeMap.{TreeMap}
use Rattle.memo.specs.PrivateGeneration.{IsPlaced, AreAt}
use Rattle.memo.specs.PrivateSought.{inputs_of}
use Rattle.memo.proofs.GenerationLemmas.{found-has}
use Rattle.memo.proofs.NumberLemmas.{at-numbers}
use Rattle.memo.proofs.step.find_hit.Goals as goal

pub hit_of-requires : goal.hit_of-requires
hit_of-requires c = c.requires.placed c.in-Some.ensures.stands.place c.in-Some.step.now c.in-Some.ensures.stands.there

pub returns-in-Some-clause-found : goal.returns-in-Some-clause-found
returns-in-Some-clause-found c =
    let kept = c.args.kept.now in
    let inputs : List TreeMap = inputs_of c.args.sought.now in
    let step = c.in-Some.step.now in
    let tree = c.hit_of.result.tree.now in
    let at : slice_get kept step.tree ≡ Some tree = subst (λ n. slice_get kept n ≡ Some tree) c.hit_of.ensures.number c.hit_of.ensures.tree in
    found-has kept c.args.steps.now c.args.sought.now.op.now inputs step tree c.in-Some.ensures.stands c.in-Some.ensures.found at

pub returns-in-Some-clause-inputs : goal.returns-in-Some-clause-inputs
returns-in-Some-clause-inputs c =
    let kept = c.args.kept.now in
    let inputs : List TreeMap = inputs_of c.args.sought.now in
    let step = c.in-Some.step.now in
    let placed : IsPlaced (length kept) step = c.requires.placed c.in-Some.ensures.stands.place step c.in-Some.ensures.stands.there in
    subst (λ ns. AreAt kept ns inputs) (sym c.hit_of.ensures.inputs) (at-numbers kept step.inputs inputs placed.inputs c.in-Some.ensures.found.same_inputs)
