use Rattle.std.proofs.Common.{List, sym, ◌∙◌, subst, Ok, Err}
use Rattle.std.proofs.lemmas.Bool.{eqb-true, eqb-false}
use Rattle.plain.specs.declared.fault.Fault.TheVariants.{Because}
use Rattle.lines.specs.declared.line.Line.{Line}
use Rattle.dockerfile.specs.PrivateDockerfile.{AreAllParsed}
use Rattle.dockerfile.proofs.FaultsFacts.{checked_first, checked_step, checked_sound, checked_faults}
use Rattle.dockerfile.proofs.checking.all_spelled.Goals as goal

pub loop-line-init : goal.loop-line-init
loop-line-init c = checked_first _ _ _ c.new-instructions.ensures c.new-refusals.ensures

pub loop-line-preserved : goal.loop-line-preserved
loop-line-preserved c =
    checked_step _ _ _ c.in-Some.line _ _ _ _ c.parse-parsed.result c.loop-line.invariant c.in-Some.ensures.steps.0 c.parse-parsed.ensures c.in_ok-add.ensures

pub returns-then-is_empty : goal.returns-then-is_empty
returns-then-is_empty c =
    let over = sym c.loop-line.line-iterator.rest.ok.0 ∙ c.in-None.ensures.steps.0 in
    let all = checked_sound _ _ c.loop-line.instructions c.loop-line.refusals c.loop-line.invariant over (eqb-true _ _ (sym c.is_empty.ensures ∙ c.if-is_empty.true)) in
    subst (λ (ls : List Line). AreAllParsed ls (Ok c.loop-line.instructions)) c.into_iter-line-iterator.ensures.into_iter_gives.0 all

pub returns-else-is_empty : goal.returns-else-is_empty
returns-else-is_empty c =
    let over = sym c.loop-line.line-iterator.rest.ok.0 ∙ c.in-None.ensures.steps.0 in
    let all = checked_faults _ _ c.loop-line.instructions c.loop-line.refusals c.loop-line.invariant over (eqb-false _ _ (sym c.is_empty.ensures ∙ c.if-is_empty.false)) in
    subst (λ (ls : List Line). AreAllParsed ls (Err (Because c.loop-line.refusals))) c.into_iter-line-iterator.ensures.into_iter_gives.0 all
