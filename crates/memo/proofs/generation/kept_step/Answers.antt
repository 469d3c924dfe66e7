use Rattle.std.proofs.Common.{◌≡◌, List, map, sym, subst}
use Rattle.trees.specs.TreeMap.{TreeMap}
use Rattle.memo.specs.declared.step.Step.{Step}
use Rattle.memo.specs.Memo.{entry_of}
use Rattle.memo.specs.PrivateGeneration.{entry_at}
use Rattle.memo.proofs.GenerationLemmas.{kept-entry, ok-more}
use Rattle.memo.proofs.generation.kept_step.Goals as goal

pub returns-in-Ok-clause-step : goal.returns-in-Ok-clause-step
returns-in-Ok-clause-step c =
    let op = c.args.op.now in
    let trees : List TreeMap = map (λ lent. lent.now) c.args.inputs.now in
    let tree = c.args.tree.now in
    let new = c.keep.new.trees.items in
    let step : Step = record { op = op; inputs = c.in_ok-inputs.inputs; tree = c.in-Ok.tree } in
    let is : entry_at new step ≡ entry_of op trees tree =
    kept-entry op c.keep_all.new.trees.items new tree c.in_ok-inputs.inputs c.in-Ok.tree trees c.in-Ok.ensures.ok c.in-Ok.ensures.number c.in_ok-inputs.ensures.below c.in_ok-inputs.ensures.numbers in
    ok-more (λ made. made ≡ step) (λ made. entry_at new made ≡ entry_of op trees tree) c.of.result (λ made e. subst (λ s. entry_at new s ≡ entry_of op trees tree) (sym e) is) c.of.ensures
