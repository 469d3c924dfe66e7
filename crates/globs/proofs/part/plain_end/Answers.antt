use Rattle.std.proofs.Common.{subst, sym, ◌≡◌, ◌∙◌, ◌+◌, arith, List, ℕ, string_bytes}
use Rattle.std.proofs.lemmas.Result.{IfOk-weaker}
use Rattle.globs.specs.Component.{HasEnd}
use Rattle.globs.proofs.Ends.{IsEndSoFar, end-start, end-more, end-anew, end-done}
use Rattle.globs.proofs.part.plain_end.Goals as goal
use Rattle.globs.proofs.part.plain_end.Goals.{in-Exactly+in_ok-push-in-Exactly, in-AnyRun}

pub loop-part-init : goal.loop-part-init
loop-part-init c = end-start _ _ c.new-end.ensures.bytes

pub loop-part-preserved : goal.loop-part-preserved
loop-part-preserved c = elim c.match-part.branch [
  | in-Exactly+in_ok-push-in-Exactly w ↦
      subst (λ (end : List ℕ). IsEndSoFar c.args.parts.now end (c.loop-part.part-index + 1)) (λ i. string_bytes (sym w.end-is i))
      (end-more c.args.parts.now _ _ c.loop-part.part-index c.part-item.result w.in-Exactly.character c.loop-part.invariant c.loop-part-test.true c.part-item.is w.in-Exactly.is w.in_ok-push-in-Exactly.ensures.bytes)
  | in-AnyRun w ↦
      subst (λ (end : List ℕ). IsEndSoFar c.args.parts.now end (c.loop-part.part-index + 1)) (λ i. string_bytes (sym w.end-is i))
      (end-anew c.args.parts.now _ c.loop-part.part-index w.clear.ensures.bytes)
]

pub returns : goal.returns
returns c =
    IfOk-weaker c.from_str.result (λ end. end ≡ c.as_str.result.now) (HasEnd c.args.parts.now)
    (λ end is. subst (HasEnd c.args.parts.now) (sym (is ∙ c.as_str.ensures.value)) (end-done c.args.parts.now _ c.loop-part.part-index (let h = c.loop-part-test.false in omega arith) c.loop-part.invariant))
    c.from_str.ensures
