use Rattle.std.proofs.Common.{subst, sym, ◌≡◌, ◌∙◌}
use Rattle.std.proofs.lemmas.Result.{IfOk-weaker}
use Rattle.globs.specs.Component.{HasFront}
use Rattle.globs.proofs.Beginnings.{front-more, front-done}
use Rattle.globs.proofs.part.plain_front.Goals as goal

pub loop-part-preserved : goal.loop-part-preserved
loop-part-preserved c =
    front-more c.args.parts.now _ _ c.loop-part.part-index c.part-item.result c.in-Exactly.character c.loop-part.invariant c.loop-part-test.true c.part-item.is c.in-Exactly.is c.in_ok-push-in-Exactly.ensures.bytes

pub returns : goal.returns
returns c =
    IfOk-weaker c.from_str.result (λ front. front ≡ c.as_str.result.now) (HasFront c.args.parts.now)
    (λ front is. subst (HasFront c.args.parts.now) (sym (is ∙ c.as_str.ensures.value)) (front-done c.args.parts.now _ c.loop-part.part-index c.loop-part.invariant))
    c.from_str.ensures
