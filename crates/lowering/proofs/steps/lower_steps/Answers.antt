use Rattle.std.proofs.Common.{List, length, ◌*◌, [], refl, sym, subst, ◌∙◌}
use Rattle.std.specs.List.{All}
use Rattle.rows.specs.declared.row.Step.{Step}
use Rattle.rows.specs.WellFormed.{HasTree, NamesOnly, IsStep}
use Rattle.lowering.specs.PrivateRoom.{HasRoom}
use Rattle.lowering.specs.PrivateGrowth.{HasTip, AreStepsPut}
use Rattle.lowering.proofs.StepFacts.{steps_none, steps_step, steps_formed, steps_named, steps_room, steps_all}
use Rattle.lowering.proofs.steps.lower_steps.Goals as goal

pub loop-step-init : goal.loop-step-init
loop-step-init c =
    let same = sym c.into_iter-step-iterator.ensures.into_iter_gives.0 in
    record {
      done = [];
      split = refl;
      are = steps_none c.args.graph.now c.args.tips.now c.args.base c.requires.base;
      formed = subst (All IsStep) same c.requires.steps;
      named = subst (All (λ (step : Step). NamesOnly (HasTip c.args.tips.now) step.action)) same c.requires.named;
      inside = c.requires.inside;
      from = c.requires.room.sources;
      has = subst (All (λ (step : Step). NamesOnly (HasTree c.requires.room.sources) step.action)) same c.requires.room.has;
      room = subst (λ (ss : List Step). HasRoom c.requires.room.sources c.args.graph.now (2 * length ss)) same c.requires.room.room;
    }

pub lower_step-requires-clause-step : goal.lower_step-requires-clause-step
lower_step-requires-clause-step c = steps_formed _ _ _ _ _ _ _ _ c.in-Some.step c.loop-step.invariant c.in-Some.ensures.steps.0

pub lower_step-requires-clause-named : goal.lower_step-requires-clause-named
lower_step-requires-clause-named c = steps_named _ _ _ _ _ _ _ _ c.in-Some.step c.loop-step.invariant c.in-Some.ensures.steps.0

pub lower_step-requires-clause-inside : goal.lower_step-requires-clause-inside
lower_step-requires-clause-inside c = c.loop-step.invariant.inside

pub lower_step-requires-clause-base : goal.lower_step-requires-clause-base
lower_step-requires-clause-base c = c.loop-step.invariant.are.inside

pub lower_step-requires-clause-room : goal.lower_step-requires-clause-room
lower_step-requires-clause-room c = steps_room _ _ _ _ _ _ _ _ c.in-Some.step c.loop-step.invariant c.in-Some.ensures.steps.0

pub loop-step-preserved : goal.loop-step-preserved
loop-step-preserved c = steps_step _ _ _ _ _ _ _ _ _ _ c.in-Some.step c.loop-step.invariant c.in-Some.ensures.steps.0 c.in_ok-last.ensures

pub returns : goal.returns
returns c =
    let all = steps_all _ _ _ _ _ _ _ c.loop-step.invariant (sym c.loop-step.step-iterator.rest.ok.0 ∙ c.in-None.ensures.steps.0) in
    subst (λ ss. AreStepsPut c.args.graph.now c.loop-step.graph c.args.tips.now c.args.base ss c.loop-step.last)
    c.into_iter-step-iterator.ensures.into_iter_gives.0 all
