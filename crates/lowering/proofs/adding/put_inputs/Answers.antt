use Rattle.std.proofs.Common.{◌∷◌, [], refl, sym, ap, ◌∙◌, subst, ℕ, List, ◌++◌}
use Rattle.std.specs.List.{All}
use Rattle.lowering.specs.PrivateGrowth.{HasTip, AreInputsPut}
use Rattle.rows.specs.WellFormed.{HasTree}
use Rattle.lowering.proofs.InputFacts.{inputs_none, inputs_step, inputs_named, inputs_room, inputs_all}
use Rattle.lowering.proofs.adding.put_inputs.Goals as goal

pub loop-origin-init : goal.loop-origin-init
loop-origin-init c =
    let inputs = c.in_ok-push.ensures.ok ∙ ap (λ (is : List ℕ). is ++ c.args.base ∷ []) c.new-inputs.ensures in
    record {
      done = [];
      split = refl;
      are = inputs_none c.args.graph.now c.args.tips.now c.args.line c.args.base c.push.new.self c.requires.base inputs;
      named = subst (All (HasTip c.args.tips.now)) (sym c.into_iter-origin-iterator.ensures.into_iter_gives.0) c.requires.named;
      inside = c.requires.inside;
      from = c.requires.room.sources;
      has = subst (All (HasTree c.requires.room.sources)) (sym c.into_iter-origin-iterator.ensures.into_iter_gives.0) c.requires.room.has;
      room = c.requires.room.room;
    }

pub put_origin-requires-clause-named : goal.put_origin-requires-clause-named
put_origin-requires-clause-named c = inputs_named _ _ _ _ _ _ _ _ c.in-Some.origin _ c.loop-origin.invariant c.in-Some.ensures.steps.0

pub put_origin-requires-clause-inside : goal.put_origin-requires-clause-inside
put_origin-requires-clause-inside c = c.loop-origin.invariant.inside

pub put_origin-requires-clause-room : goal.put_origin-requires-clause-room
put_origin-requires-clause-room c = inputs_room _ _ _ _ _ _ _ _ c.in-Some.origin _ c.loop-origin.invariant c.in-Some.ensures.steps.0

pub loop-origin-preserved : goal.loop-origin-preserved
loop-origin-preserved c =
    inputs_step _ _ _ _ _ _ _ _ _ c.in-Some.origin _ _ c.in_ok-id.id c.loop-origin.invariant c.in-Some.ensures.steps.0 c.in_ok-id.ensures
    c.in_ok-push-2.ensures.ok

pub returns : goal.returns
returns c =
    let all = inputs_all _ _ _ _ _ _ _ _ c.loop-origin.invariant (sym c.loop-origin.origin-iterator.rest.ok.0 ∙ c.in-None.ensures.steps.0) in
    subst (λ os. AreInputsPut c.args.graph.now c.loop-origin.graph c.args.tips.now c.args.line c.args.base os c.loop-origin.inputs)
    c.into_iter-origin-iterator.ensures.into_iter_gives.0 all
