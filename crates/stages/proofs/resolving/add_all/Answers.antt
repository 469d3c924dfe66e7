use Rattle.std.proofs.Common.{sym, subst, ◌∙◌}
use Rattle.std.specs.Prelude.{Ok}
use Rattle.std.specs.FinMap.{get}
use Rattle.stages.specs.Naming.{names_in}
use Rattle.stages.specs.PrivateResolving.{Drafts}
use Rattle.stages.proofs.DraftFacts.{so_far_step, so_far_all}
use Rattle.stages.proofs.resolving.add_all.Goals as goal

pub loop-instruction-preserved : goal.loop-instruction-preserved
loop-instruction-preserved g c =
    so_far_step _ _ _ c.in-Some.instruction _ _ c.loop-instruction.draft c.in-Ok.draft c.loop-instruction.invariant c.in-Some.ensures.steps.0
    c.in-Ok.ensures.0 c.in-Ok.ensures.1

pub returns : goal.returns
returns g c =
    subst (λ is. Drafts (names_in c.args.images.now) (get c.args.args.now) is (Ok c.loop-instruction.draft)) c.into_iter-instruction-iterator.ensures.into_iter_gives.0
    (so_far_all _ _ _ _ c.loop-instruction.draft c.loop-instruction.invariant (sym c.loop-instruction.instruction-iterator.rest.ok.0 ∙ c.in-None.ensures.steps.0))
