use Rattle.std.proofs.Common.{◌<◌, length, subst}
use Rattle.std.specs.Prelude.{IfSome}
use Rattle.memo.specs.Memo.{Has}
use Rattle.memo.specs.PrivateGeneration.{Stands, step_of, tree_at, trees_at}
use Rattle.memo.proofs.GenerationLemmas.{kept-below, kept-has}
use Rattle.memo.proofs.generation.Generation.find_kept.Goals as goal

pub returns-clause-below : goal.returns-clause-below
returns-clause-below c =
    let found = c.result_number.result in
    let stands : IfSome found (λ number. Stands c.self.inside.steps.items (step_of c.args.op.now c.args.inputs.now number)) = subst (λ ss. IfSome found (λ number. Stands ss (step_of c.args.op.now c.args.inputs.now number))) c.as_slice.ensures.value c.result_number.ensures in
    subst (λ g. IfSome found (λ number. number < length g.trees)) c.self.view_is (kept-below c.self.inside.trees.items c.self.inside.steps.items c.args.op.now c.args.inputs.now found c.self.invariant.0 stands)

pub returns-clause-found : goal.returns-clause-found
returns-clause-found c =
    let found = c.result_number.result in
    let stands : IfSome found (λ number. Stands c.self.inside.steps.items (step_of c.args.op.now c.args.inputs.now number)) = subst (λ ss. IfSome found (λ number. Stands ss (step_of c.args.op.now c.args.inputs.now number))) c.as_slice.ensures.value c.result_number.ensures in
    subst (λ g. IfSome found (λ number. Has g.entries c.args.op.now (trees_at g.trees c.args.inputs.now) (tree_at g.trees number))) c.self.view_is
    (kept-has c.self.inside.trees.items c.self.inside.steps.items c.args.op.now c.args.inputs.now found stands)
