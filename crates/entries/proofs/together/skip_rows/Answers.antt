use Rattle.std.proofs.Common.{◌+◌, refl, ap, ◌∙◌, length, arith}
use Rattle.std.proofs.lemmas.List.{length-drop}
use Rattle.entries.proofs.TogetherFacts.{drop-behind}
use Rattle.entries.proofs.together.skip_rows.Goals as goal

pub loop-done-preserved : goal.loop-done-preserved
loop-done-preserved c =
    let done = c.loop-done.done in
    let rows = c.args.walk.now.left in
    let is = c.loop-done.invariant.left in
    record {
      left = c.pass_up_to-passed.ensures.left ∙ drop-behind done c.pass_up_to-passed.result (done + c.pass_up_to-passed.result) rows c.loop-done.walk.left is refl;
      inside = omega (arith, c.loop-done.invariant.inside, c.pass_up_to-passed.ensures.inside, ap length is, length-drop done rows);
      few = omega (arith, c.pass_up_to-passed.ensures.few);
    }
