use Rattle.std.proofs.Common.{◌∙◌, ap, ◌++◌, ◌∷◌, [], ℕ, List}
use Rattle.lowering.proofs.StepFacts.{linked_ok, scratch_room, copy_room, merge_room}
use Rattle.lowering.proofs.steps.lower_linked.Goals as goal

pub put-requires-clause-room : goal.put-requires-clause-room
put-requires-clause-room c = scratch_room c.args.graph.now _ c.requires.room

pub put_operation-requires-clause-room : goal.put_operation-requires-clause-room
put_operation-requires-clause-room c = copy_room _ _ c.args.line c.in_ok-scratch.scratch _ _ _ c.in_ok-scratch.ensures c.in_ok-origins.ensures c.requires.room

pub put-requires-2-clause-room : goal.put-requires-2-clause-room
put-requires-2-clause-room c =
    merge_room _ _ _ c.args.tips.now c.args.line c.in_ok-scratch.scratch c.in_ok-copy.copy _ _ _ _ c.in_ok-scratch.ensures c.in_ok-origins.ensures
    c.in_ok-copy.ensures c.requires.room

pub returns : goal.returns
returns c =
    let both = c.in_ok-push-2.ensures.ok
    ∙ ap (λ (is : List ℕ). is ++ c.in_ok-copy.copy ∷ []) (c.in_ok-push.ensures.ok ∙ ap (λ (is : List ℕ). is ++ c.args.base ∷ []) c.new-both.ensures) in
    linked_ok _ _ _ _ c.args.tips.now c.args.line c.args.base c.in_ok-scratch.scratch c.in_ok-copy.copy c.args.files c.args.from _ _ _ c.put-2.result
    c.new-none.ensures c.in_ok-scratch.ensures c.in_ok-origins.ensures c.in_ok-copy.ensures both c.put-2.ensures
