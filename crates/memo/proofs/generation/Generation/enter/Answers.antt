use Rattle.std.proofs.Common.{◌<◌, ℕ, length, sym, subst}
use Rattle.memo.specs.declared.step.Step.{Step}
use Rattle.memo.specs.PrivateGeneration.{AreBelow, IsPlaced}
use Rattle.memo.proofs.GenerationLemmas.{pushed-placed}
use Rattle.memo.proofs.generation.Generation.enter.Goals as goal

pub invariant_of-self : goal.invariant_of-self
invariant_of-self c =
    let count : ℕ = length c.self.inside.trees.items in
    let step : Step = record { op = c.args.op.now; inputs = c.args.inputs; tree = c.args.tree } in
    let placed : IsPlaced count step = record {
      inputs = subst (λ g. AreBelow (length g.trees) c.args.inputs) (sym c.self.view_is) c.requires.inputs;
      tree = subst (λ g. c.args.tree < length g.trees) (sym c.self.view_is) c.requires.tree;
    } in
    let made : IsPlaced count c.in_ok-step.step = subst (IsPlaced count) (sym c.in_ok-step.ensures) placed in
    (pushed-placed count c.self.inside.steps.items c.push.new.steps.items c.in_ok-step.step c.push.result c.push.ensures.ok c.push.ensures.err c.self.invariant.0 made, c.push.ensures.indexed)
